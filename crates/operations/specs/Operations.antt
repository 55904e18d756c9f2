-- The list of operations that leads from one state to another.
use Rattle.std.specs.Prelude.{cond, ℕ, eqb, length}
use mathlib.Core.List.{List, [], ◌∷◌, ◌++◌, flat_map}
use Rattle.numbers.specs.UpTo.{up_to}
use Rattle.network.specs.Records.{Network}
use Rattle.network.specs.Answers.{◌and_then◌}
use Rattle.feeders.specs.Supply.{check_network}
use Rattle.states.specs.Live.{check_state}
use Rattle.network.specs.declared.switch.Switch.{Switch}
use Rattle.states.specs.Switches.{State, byte, size, switch}
use Rattle.printing.specs.declared.writer.SwitchOperation.{SwitchOperation}
use Rattle.printing.specs.declared.writer.SwitchAction.TheVariants.{Open, Close}
use Rattle.printing.specs.Printed.{operation_text}
use Rattle.printing.specs.Calls.{Call, called}

-- what is done to a switch so that it stands as its byte in a state says
unfoldable pub operation_to : Switch → ℕ → SwitchOperation
operation_to w state = record { switch_id = w.id; action = cond (eqb state 1) Open Close }

abbrev pub operation_of : Network → State → ℕ → SwitchOperation
operation_of N to i = operation_to (switch N i) (byte to i)

-- "The operation list follows switch order": an operation for every switch that stands otherwise
unfoldable pub operations : Network → State → State → List SwitchOperation
operations N from to = up_to (λ l i. cond (eqb (byte from i) (byte to i)) l (l ++ (operation_of N to i ∷ []))) [] (size N)

-- "82: switch id, 00 open or 01 close", a line for each
unfoldable pub operations_text : List SwitchOperation → List ℕ
operations_text operations = flat_map operation_text operations

-- how many operations, and a line for each at the front of the slice. "Calls test the network, then 10 (present first)"
unfoldable pub operations_call : Network → State → State → List ℕ → Call ℕ
operations_call N from to out =
    let l = operations N from to in
    called (check_network N and_then check_state N from 0 and_then check_state N to 1) (length l) (operations_text l) out
