-- How long the arrays of a path and of a walk are: what owning a value of the type tells (as `network/proofs/ArrayLengths` for a network).
use mathlib.Core.Path.{◌≡◌}
use lib.ListN.{length}
use denote.Laws.{Is}
use denote.Struct.Laws.{vals}
use borrow.Author.Rules.{rules}
use Rattle.graph.specs.declared.walks.PathBranches.{PathBranches}
use Rattle.graph.specs.declared.walks.Walk.{Walk}
use Rattle.graph.specs.contracts.walks.PathBranches as PathType
use Rattle.graph.proofs.walks.PathBranches.TheLaws as PathLaws
use Rattle.graph.specs.contracts.walks.Walk as WalkType
use Rattle.graph.proofs.walks.Walk.TheLaws as WalkLaws

abbrev pub Owned : PathBranches → Type 0
Owned p = Is PathType.the_row p (vals PathType.the_type PathLaws.the_laws p)

abbrev pub OwnedWalk : Walk → Type 0
OwnedWalk w = Is WalkType.the_row w (vals WalkType.the_type WalkLaws.the_laws w)

pub path_256 : (p : PathBranches) → Owned p → length p.branch ≡ 256
path_256 p owned = search rules

pub walk_256 : (w : Walk) → OwnedWalk w → length w.bus ≡ 256
walk_256 w owned = search rules
