-- Document 02, Point 4: the call for a plan that was cut off.
use Rattle.std.specs.Prelude.{List, [], ◌∷◌, ◌++◌, ℕ, ◌*◌, ◌-◌, ltb, length, take, drop}
use Rattle.network.specs.Records.{Network}
use Rattle.network.specs.Answers.{accepted, ◌and_then◌, ◌if◌, judge, Judgement}
use Rattle.states.specs.Switches.{State}
use Rattle.printing.specs.declared.writer.SwitchOperation.{SwitchOperation}
use Rattle.printing.specs.Lengths.{operation_length}
use Rattle.printing.specs.Calls.{TwoSlices, called_in_two}
use Rattle.changes.specs.Change.{check_plan}
use Rattle.operations.specs.Operations.{operations_text}
use Rattle.plan.specs.Plan.{plan}
use Rattle.resumption.specs.SingleMoves.{single_moves, going_back}

-- the moves of the plan from the present state, in which it began, to the wanted one
abbrev pub moves_of_plan : Network → State → State → List SwitchOperation
moves_of_plan N present wanted = single_moves (plan N present wanted)

-- "16, count above the plan's moves, place 0, after 12 and before 13"
unfoldable pub check_resume : Network → State → State → ℕ → Judgement
check_resume N present wanted count = check_plan N present wanted and_then judge ((16 if ltb (length (moves_of_plan N present wanted)) count) ∷ []) 0

-- how many moves remain; "the remaining moves and those that go back .., each list as 82 lines in a lent slice of its own"
unfoldable pub resumed : Network → State → State → ℕ → List ℕ → List ℕ → TwoSlices ℕ
resumed N present wanted count remaining back =
    let left = drop count (moves_of_plan N present wanted) in
    let done = take count (moves_of_plan N present wanted) in
    called_in_two (check_resume N present wanted count) (length left) (operations_text left) (operations_text (going_back done)) remaining back

-- the same where nothing is refused, by lengths: `ResumeLaws.resumed_with_room`
abbrev pub full_answer : Network → State → State → ℕ → List ℕ → List ℕ → TwoSlices ℕ
full_answer N present wanted count remaining back =
    let moves = moves_of_plan N present wanted in
    record {
      answer = accepted (length moves - count);
      first = operations_text (drop count moves) ++ drop (operation_length * (length moves - count)) remaining;
      second = operations_text (going_back (take count moves)) ++ drop (operation_length * count) back;
    }
