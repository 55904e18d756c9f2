-- How many bytes a state's array has: what owning a value of the type tells (as `network/proofs/ArrayLengths` for a network).
use mathlib.Core.Path.{◌≡◌}
use lib.ListN.{length}
use denote.Laws.{Is}
use denote.Struct.Laws.{vals}
use borrow.Author.Rules.{rules}
use Rattle.states.specs.declared.configuration.NetworkConfiguration.{NetworkConfiguration}
use Rattle.states.specs.contracts.configuration.NetworkConfiguration.{the_row, the_type}
use Rattle.states.proofs.configuration.NetworkConfiguration.TheLaws.{the_laws}

abbrev pub Owned : NetworkConfiguration → Type 0
Owned c = Is the_row c (vals the_type the_laws c)

pub bytes_512 : (c : NetworkConfiguration) → Owned c → length c.switches ≡ 512
bytes_512 c owned = search rules
