-- Demand 1's first sentence, call by call: with records inside the limits, no branch from a bus to itself and a supply, where one is named, as document 02 wants it, states of one byte 00 or 01 for each switch and room in the lent slice, or in both, nothing is refused,
-- and the answer is the full one: the value, and the bytes at the front of the slice, which keeps its tail. What a text says is `frames.specs.Claim.accepted_texts`; the
-- calls that take a text and states are in `controller.specs.Full`. The last law is on every other text.
use Rattle.std.specs.Prelude.{◌≡◌, refl, false, List, ◌++◌, ℕ, ◌*◌, ◌-◌, ◌≤◌, drop}
use Rattle.std.proofs.Common.{sym, ◌∙◌, arith}
use Rattle.std.proofs.Math.ListN.{length}
use Rattle.network.specs.Records.{Network}
use Rattle.network.specs.declared.switch.ReconfigAlgorithm.{ReconfigAlgorithm}
use Rattle.network.specs.Answers.{accepted, refused, ◌and_then◌}
use Rattle.network.specs.AnswerLaws.{then_iff}
use Rattle.network.specs.Inside.{Inside, Proper}
use Rattle.states.specs.Live.{check_state}
use Rattle.lines.specs.Lines.{cut}
use Rattle.frames.specs.Acceptable.{Acceptable}
use Rattle.frames.specs.Conditions.{conditions, judge_lines}
use Rattle.frames.specs.Proof.{claim}
use Rattle.printing.specs.Lengths.{operation_length, plan_length, moves_length, printed_length}
use Rattle.printing.specs.CallLaws.{call_refused, in_full}
use Rattle.graph.specs.Graph.{Tree}
use Rattle.feeders.specs.Feeder.{feeder, LiveIn, form_in, radial_in}
use Rattle.feeders.specs.FeederLaws.{radial_in_tree}
use Rattle.feeders.specs.StateCalls.{on_state}
use Rattle.feeders.specs.Supplied.{Supplied}
use Rattle.feeders.specs.Supply.{check_network}
use Rattle.feeders.specs.SupplyLaws.{network_inside, network_records}
use Rattle.losses.specs.Loss.{loss_in}
use Rattle.losses.specs.LossCall.{loss_call}
use Rattle.losses.specs.LossCallLaws.{loss_answered}
use Rattle.losses.specs.SupplySide.{Fed}
use Rattle.changes.specs.Change.{check_plan}
use Rattle.plan.specs.Plan.{plan, plan_text, planned}
use Rattle.states.specs.Switches.{State, GoodState}
use Rattle.plan.specs.Plannable.{Free}
use Rattle.states.specs.Listed.{state_accepted}
use Rattle.plan.specs.Accepted.{plan_accepted}
use Rattle.plan.specs.Length.{plan_fits}
use Rattle.resumption.specs.Resume.{moves_of_plan, resumed, full_answer}
use Rattle.resumption.specs.ResumeLaws.{resumed_with_room, moves_fit}
use Rattle.searches.specs.Results.{result_by, solved_by}
use Rattle.reconfiguration.specs.Solve.{best_by, best, result, solved}
use Rattle.reconfiguration.specs.AnswersHavePlans.{search_sound}
use Rattle.operations.specs.Operations.{operations, operations_text, operations_call}
use Rattle.operations.specs.OperationLines as Operations
use Rattle.answers.specs.Printing.{network_text, printed, answered_text}
use Rattle.answers.specs.PrintingLaws.{network_short, text_answered}

module _ (N : Network) (inside : Inside N) (proper : Proper N) (supplied : Supplied N) where
  checked : check_network N ≡ accepted tt
  checked = (network_inside N).1 (inside, proper, supplied)

  answered : {A : Type 0} (s : State) → GoodState N s → (a : A) → on_state N s a ≡ accepted a
  unfolding ◌and_then◌
  answered s good a = rw (checked, (state_accepted N s 0).1 good)

  -- `verify_radiality`, of any state
  pub form_in_full : (s : State) → GoodState N s → on_state N s (form_in N s) ≡ accepted (form_in N s)
  form_in_full s good = answered s good (form_in N s)

  -- as its reading "radial or not"
  pub radiality_in_full : (s : State) → GoodState N s → on_state N s (radial_in N s) ≡ accepted (radial_in N s)
  radiality_in_full s good = answered s good (radial_in N s)

  -- `evaluate_config`, of any state, radial or not; where a supply is named, of any radial one
  pub loss_in_full : (s : State) → GoodState N s → Fed N s → loss_call N s ≡ accepted (loss_in N s)
  loss_in_full s good fed = loss_answered N s checked good fed

  -- `branch_exchange_solve`, `tabu_search` and `exhaustive_solve`, whichever search the head asks for: a byte for each switch. For `exhaustive_solve` on another head, N
  -- is `as_exhaustive` of it
  pub searched_in_full : (a : ReconfigAlgorithm) (out : List ℕ) → length N.switches ≤ length out
      → solved_by (best_by a) N out ≡ record { answer = accepted (result_by (best_by a) N); out = (best_by a N).state ++ drop (length N.switches) out }
  unfolding solved_by
  searched_in_full a out room =
      let long : length (best_by a N).state ≡ length N.switches = (search_sound N a).good.long in
      in_full (result_by (best_by a) N) (best_by a N).state out checked (rw long room) ∙ rw long

  -- `solve`
  pub solved_in_full : (out : List ℕ) → length N.switches ≤ length out
      → solved N out ≡ record { answer = accepted (result N); out = (best N).state ++ drop (length N.switches) out }
  unfolding solved result best solved_by result_by
  solved_in_full = searched_in_full N.algorithm

  -- `compute_switch_operations`: a line for each operation
  pub operations_in_full : (from to : State) → GoodState N from → GoodState N to → (out : List ℕ)
      → let l = operations N from to in
      operation_length * length l ≤ length out → operations_call N from to out ≡ record { answer = accepted (length l); out = operations_text l ++ drop (operation_length * length l) out }
  unfolding operations_call
  operations_in_full from to f t out room =
      let l = operations N from to in
      let passed = (then_iff (check_network N) _).1 (checked, (then_iff (check_state N from 0) (check_state N to 1)).1 ((state_accepted N from 0).1 f, (state_accepted N to 1).1 t)) in
      in_full (length l) (operations_text l) out passed (rw (Operations.length_text l) room) ∙ rw (Operations.length_text l)

  module _ (present wanted : State) (p : GoodState N present) (w : GoodState N wanted) (r : Tree (feeder N) (LiveIn N present)) (v : Tree (feeder N) (LiveIn N wanted)) (free : Free N present wanted) where
    planner_accepts : check_plan N present wanted ≡ accepted tt
    planner_accepts =
        let ok = network_records N checked in
        (plan_accepted N present wanted).1 (checked, p, w, (radial_in_tree N ok present).1 r, (radial_in_tree N ok wanted).1 v, free)

    -- `plan`, between radial states whose switches that must move are operable: a line for each pair
    pub planned_in_full : (out : List ℕ)
        → let moves = plan N present wanted in
        length (plan_text moves) ≤ length out → planned N present wanted out ≡ record { answer = accepted (length moves); out = plan_text moves ++ drop (length (plan_text moves)) out }
    unfolding planned
    planned_in_full out room = let moves = plan N present wanted in in_full (length moves) (plan_text moves) out planner_accepts room

    -- and `plan_length` bytes are room for every plan
    pub always_planned : (out : List ℕ) → plan_length ≤ length out
        → let moves = plan N present wanted in
        planned N present wanted out ≡ record { answer = accepted (length moves); out = plan_text moves ++ drop (length (plan_text moves)) out }
    always_planned out room = planned_in_full out (omega (arith, plan_fits N present wanted planner_accepts))

    -- `resume`, between such states at every number of moves that the plan has: a line for each move that remains, and one for each that goes back
    pub resumed_in_full : (count : ℕ) (remaining back : List ℕ)
        → let moves = moves_of_plan N present wanted in
        count ≤ length moves → operation_length * (length moves - count) ≤ length remaining → operation_length * count ≤ length back
        → resumed N present wanted count remaining back ≡ full_answer N present wanted count remaining back
    resumed_in_full count remaining back few room also = resumed_with_room N present wanted count remaining back planner_accepts few room also

    -- and `moves_length` bytes are room in each slice, at every number
    pub always_resumed : (count : ℕ) (remaining back : List ℕ)
        → let moves = moves_of_plan N present wanted in
        count ≤ length moves → moves_length ≤ length remaining → moves_length ≤ length back
        → resumed N present wanted count remaining back ≡ full_answer N present wanted count remaining back
    always_resumed count remaining back few room also =
        let fits = moves_fit N present wanted planner_accepts in
        resumed_in_full count remaining back few (omega arith) (omega arith)

-- `answer_text`: the lines of the text's records
pub printed_in_full : (text : List ℕ) (N : Network) → Acceptable text N → (out : List ℕ) → length (network_text N) ≤ length out
    → answered_text text out ≡ record { answer = accepted (length (network_text N)); out = network_text N ++ drop (length (network_text N)) out }
printed_in_full text N a out room = sym (text_answered text out ((claim.accepted_texts text N).1 a)) ∙ in_full (length (network_text N)) (network_text N) out refl room

-- and `printed_length` bytes are room for every such text
pub always_printed : (text : List ℕ) (N : Network) → Acceptable text N → (out : List ℕ) → printed_length ≤ length out
    → answered_text text out ≡ record { answer = accepted (length (network_text N)); out = network_text N ++ drop (length (network_text N)) out }
always_printed text N a out room = printed_in_full text N a out (omega (arith, network_short N (checked N a.inside a.proper a.supplied)))

-- every other text is refused with the number and place of its first faulty line, whatever room there is, and the slice keeps every byte (a text that is not accepted
-- has such a line: `frames.specs.Claim`, first)
pub refused_in_full : (text : List ℕ) {number place : ℕ} → judge_lines 1 (conditions false (cut text)) ≡ refused number place → (out : List ℕ)
    → answered_text text out ≡ record { answer = refused number place; out = out }
unfolding answered_text
refused_in_full text e out = sym (call_refused (length (printed text)) (printed text) out (claim.first text ∙ e))
