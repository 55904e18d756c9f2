-- What the code of the operation list is handed, and what it writes for a switch.
use Rattle.std.specs.Prelude.{◌≡◌, Bool, cond, not, List, [], ℕ, ◌≤◌, eqb, length}
use Rattle.network.specs.declared.switch.Switch.{Switch}
use Rattle.network.specs.declared.topology.PowerNetwork.{PowerNetwork}
use Rattle.states.specs.Switches.{State, byte}
use Rattle.printing.specs.Printed.{operation_text}
use Rattle.operations.specs.Operations.{operation_to}

-- a byte for each listed switch in both states
abbrev pub Stated : PowerNetwork → State → State → Type 0
Stated n from to = (length from ≡ n.switch_count) × (length to ≡ n.switch_count) × (n.switch_count ≤ 512)

-- switch i stands otherwise in the two states
abbrev pub differs : State → State → ℕ → Bool
differs from to i = not (eqb (byte from i) (byte to i))

-- the line of a switch that stands as `from` and is to stand as `to`; none where it stands so
unfoldable pub line_of : Switch → ℕ → ℕ → List ℕ
line_of switch from to = cond (eqb from to) [] (operation_text (operation_to switch to))
