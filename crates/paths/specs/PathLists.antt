-- The list that a path's array holds.
use Rattle.std.specs.Prelude.{◌≡◌, List, ℕ, take}
use Rattle.std.proofs.Common.{ap, ◌∙◌}
use Rattle.numbers.specs.Arrays.{padded_front}
use Rattle.graph.specs.declared.walks.PathBranches.{PathBranches}
use Rattle.graph.specs.Rows.{path_of}

pub path_list : (l : List ℕ) (p : PathBranches) → p ≡ path_of l → take p.count p.branch ≡ l
unfolding path_of
path_list l p e = ap (λ (q : PathBranches). take q.count q.branch) e ∙ padded_front 256 0 l
