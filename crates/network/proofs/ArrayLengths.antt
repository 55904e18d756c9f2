-- How long a network's arrays are. The record alone does not say it: what owning a value of the type tells does, which a function has of each parameter, in their order
-- (of the first `start.good.0`), and of a call's result (`.ok`).
use mathlib.Core.Path.{◌≡◌}
use lib.ListN.{length}
use denote.Laws.{Is}
use denote.Struct.Laws.{vals}
use borrow.Author.Rules.{rules}
use Rattle.network.specs.declared.topology.PowerNetwork.{PowerNetwork}
use Rattle.network.specs.contracts.topology.PowerNetwork.{the_row, the_type}
use Rattle.network.proofs.topology.PowerNetwork.TheLaws.{the_laws}

abbrev pub Owned : PowerNetwork → Type 0
Owned n = Is the_row n (vals the_type the_laws n)

module _ (n : PowerNetwork) (owned : Owned n) where
  pub buses_256 : length n.buses ≡ 256
  buses_256 = search rules

  pub branches_512 : length n.branches ≡ 512
  branches_512 = search rules

  pub switches_512 : length n.switches ≡ 512
  switches_512 = search rules
