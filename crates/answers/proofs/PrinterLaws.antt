-- What the calls below answer for a checked network with its base and its best state, and how their bytes stand one behind the other.
use mathlib.Core.Path.{◌≡◌, refl, sym, ap, ◌∙◌}
use mathlib.Core.Bool.{Bool, true, false}
use mathlib.Core.List.{List, [], ◌++◌}
use Prim.Native.Nat.{ℕ, ◌+◌, ◌-◌, ◌*◌, ◌≤◌, ◌<◌}
use native.Mathlib.Omega.{arith}
use native.Mathlib.Nat.{zero-add}
use lib.ListN.{length, take, drop, length-append, length-drop}
use lib.Seq.{sets, length-sets}
use borrow.Rule.Slice.PartMut.{put_mid}
use Rattle.numbers.specs.Parts.{part_rest}
use Rattle.network.specs.declared.topology.PowerNetwork.{PowerNetwork}
use Rattle.network.specs.Records.{Network, records_of}
use Rattle.network.specs.Answers.{Answer, accepted, refused, ◌and_then◌, judge}
use Rattle.network.specs.AnswerLaws.{same_value, then_iff, no_refusal}
use Rattle.states.specs.Live.{base_state, check_state}
use Rattle.states.specs.Listed.{state_accepted, switches_listed, few_switches}
use Rattle.slices.specs.Written.{written}
use Rattle.slices.specs.WrittenLaws.{written_sets, take_written, sets_append, sets_part}
use Rattle.printing.specs.Lengths.{result_length, operation_length, operations_length, plan_length}
use Rattle.printing.specs.Calls.{Call, called}
use Rattle.printing.specs.CallLaws.{call_refused, call_short, call_done, call_is}
use Rattle.network.specs.Check.{check_records}
use Rattle.feeders.specs.Supply.{check_network}
use Rattle.feeders.specs.SupplyLaws.{network_records}
use Rattle.feeders.specs.Feeder.{radial_in}
use Rattle.feeders.specs.StateCalls.{check_radial}
use Rattle.changes.specs.Change.{check_plan}
use Rattle.plan.specs.Plan.{plan, plan_text, planned, length_beside, planned_length}
use Rattle.plan.specs.Length.{plan_fits}
use Rattle.searches.specs.declared.answer.ReconfigResult.{ReconfigResult}
use Rattle.states.specs.BaseLaws.{base_good}
use Rattle.reconfiguration.specs.AnswersHavePlans.{best_good, solve_plan_accepted}
use Rattle.searches.specs.Results.{Result, result_by, solved_by, result_of}
use Rattle.reconfiguration.specs.Solve.{result, best, solved}
use Rattle.operations.specs.Operations.{operations, operations_text, operations_call}
use Rattle.operations.specs.OperationLines as Operations
use Rattle.answers.specs.Printing.{result_lines, operation_lines, plan_lines, move_lines, network_text}
use Rattle.answers.specs.PrintingValues.{HasBits}
use Rattle.answers.specs.PrintingLaws.{length_result_lines, operations_short, base_bits, best_bits, reduction_bits}

-- ---- accepted calls
module _ (n : PowerNetwork) (ok : check_network (records_of n) ≡ accepted tt) (out : List ℕ) where
  abbrev N : Network
  N = records_of n

  states_pass : (check_network N and_then check_state N (base_state N) 0 and_then check_state N (best N).state 1) ≡ accepted tt
  states_pass = (then_iff _ _).1 (ok, (then_iff _ _).1 ((state_accepted N (base_state N) 0).1 (base_good N), (state_accepted N (best N).state 1).1 (best_good N)))

  -- ---- the operations
  pub operations_printed : operations_length ≤ length out → {a : Answer ℕ} {after : List ℕ} {from to : List ℕ} → from ≡ base_state N → to ≡ (best N).state
      → record { answer = a; out = after } ≡ operations_call N from to out → (a ≡ accepted (length (operations N (base_state N) (best N).state))) × (after ≡ written (operation_lines N) out)
  unfolding operation_lines operations_call
  operations_printed room f t e =
      let l = operations N (base_state N) (best N).state in
      let c = call_is (length l) (operations_text l) out states_pass (omega (arith, operations_short N (network_records N ok))) (rw (f, t) at e) in
      (ap (λ (x : Call ℕ). x.answer) c, ap (λ (x : Call ℕ). x.out) c)

  -- and how many bytes that are
  pub operations_long : {count : ℕ} → count ≡ length (operations N (base_state N) (best N).state) → operation_length * count ≡ length (operation_lines N)
  unfolding operation_lines
  operations_long e = ap (λ (k : ℕ). operation_length * k) e ∙ sym (Operations.length_text (operations N (base_state N) (best N).state))

  -- ---- the plan
  not_planned : radial_in N (base_state N) ≡ false → check_plan N (base_state N) (best N).state ≡ refused 11 0
  unfolding check_plan ◌and_then◌ check_radial judge
  not_planned r = rw (ok, (state_accepted N (base_state N) 0).1 (base_good N), (state_accepted N (best N).state 1).1 (best_good N), r)

  plan_long : {c : Call ℕ} → planned N (base_state N) (best N).state out ≡ c → planned_length N (base_state N) (best N).state out ≡ length_beside c.answer (plan N (base_state N) (best N).state)
  unfolding planned_length
  plan_long e = ap (λ (x : Call ℕ). length_beside x.answer (plan N (base_state N) (best N).state)) e

  -- from a radial base the plan's lines, else nothing, and how many bytes
  plan_done : plan_length ≤ length out → (planned_length N (base_state N) (best N).state out ≡ length (plan_lines N)) × ((planned N (base_state N) (best N).state out).out ≡ written (plan_lines N) out)
  plan_done room = go (radial_in N (base_state N)) refl
    where
      go : (b : Bool) → radial_in N (base_state N) ≡ b
          → (planned_length N (base_state N) (best N).state out ≡ length (plan_lines N)) × ((planned N (base_state N) (best N).state out).out ≡ written (plan_lines N) out)
      go true r =
          let moves = plan N (base_state N) (best N).state in
          let passed = solve_plan_accepted N ok r in
          let fits = plan_fits N (base_state N) (best N).state passed in
          let same : plan_lines N ≡ plan_text moves = unfold plan_lines in rw r in
          let done : planned N (base_state N) (best N).state out ≡ record { answer = accepted (length moves); out = written (plan_text moves) out } = unfold planned in call_is (length moves) (plan_text moves) out passed (omega arith) refl in
          rw same (plan_long done, ap (λ (c : Call ℕ). c.out) done)
      go false r =
          let moves = plan N (base_state N) (best N).state in
          let same : plan_lines N ≡ [] = unfold plan_lines in rw r in
          let done : planned N (base_state N) (best N).state out ≡ record { answer = refused 11 0; out = out } = unfold planned in sym (call_refused (length moves) (plan_text moves) out (not_planned r)) in
          rw same (plan_long done, ap (λ (c : Call ℕ). c.out) done ∙ sym (written_sets [] out (omega arith)))

  pub plan_printed : plan_length ≤ length out → {a : Answer ℕ} {after : List ℕ} {bytes : ℕ} {present wanted : List ℕ} → present ≡ base_state N → wanted ≡ (best N).state
      → (record { answer = a; out = after } ≡ planned N present wanted out) × (bytes ≡ planned_length N present wanted out)
      → (bytes ≡ length (plan_lines N)) × (after ≡ written (plan_lines N) out)
  plan_printed room p w e =
      let done = plan_done room in
      ((rw (p, w) at e.1) ∙ done.0, ap (λ (c : Call ℕ). c.out) (rw (p, w) at e.0) ∙ done.1)

-- ---- the search
module _ (n : PowerNetwork) (ok : check_network (records_of n) ≡ accepted tt) (space : List ℕ) (room : length space ≡ 512) where
  solved_is : {c : Call Result} → c ≡ solved (records_of n) space → c ≡ record { answer = accepted (result (records_of n)); out = written (best (records_of n)).state space }
  unfolding solved solved_by result
  solved_is e = call_is (result (records_of n)) (best (records_of n)).state space ok (omega (arith, few_switches n (network_records (records_of n) ok), switches_listed n, (best_good (records_of n)).long)) e

  pub solved_result : {r : ReconfigResult} {after : List ℕ} → record { answer = accepted (result_of r); out = after } ≡ solved (records_of n) space → result_of r ≡ result (records_of n)
  solved_result e = same_value (ap (λ (x : Call Result). x.answer) (solved_is e))

  pub solved_state : {a : Answer Result} {after : List ℕ} → record { answer = a; out = after } ≡ solved (records_of n) space → take n.switch_count after ≡ (best (records_of n)).state
  solved_state e =
      let long : length (best (records_of n)).state ≡ n.switch_count = (best_good (records_of n)).long ∙ switches_listed n in
      take_written (best (records_of n)).state space long (omega (arith, few_switches n (network_records (records_of n) ok))) (ap (λ (x : Call Result). x.out) (solved_is e))

  pub not_refused : {B : Type 0} {number place : ℕ} {after : List ℕ} → record { answer = refused number place; out = after } ≡ solved (records_of n) space → B
  not_refused e = no_refusal (ap (λ (x : Call Result). x.answer) (solved_is e))

-- the bits of a result
pub result_bits : (N : Network) → check_records N ≡ accepted tt → {r : ReconfigResult} → result_of r ≡ result N → HasBits r
unfolding result result_by
result_bits N ok e = (
  rw (ap (λ (x : Result). x.base_loss) e) (base_bits N ok),
  rw (ap (λ (x : Result). x.best_loss) e) (best_bits N ok),
  rw (ap (λ (x : Result). x.reduction) e) (reduction_bits N ok),
)

-- ---- one behind the other
-- lines behind those on the best state keep the length
pub moves_room : (l operations : List ℕ) → result_length + length operations ≤ length l → {part : List ℕ} → part ≡ written operations (take (length l - result_length) (drop result_length l))
    → length (put_mid result_length (length l - result_length) l part) ≡ length l
moves_room l operations room p = ap length (sets_part l result_length operations (p ∙ written_sets operations _ (rw part_rest (omega (arith, length-drop result_length l))))) ∙ length-sets l result_length operations

pub moves_stored : (l operations plans : List ℕ) (m : ℕ) → length operations ≡ m → result_length + m + length plans ≤ length l
    → {part : List ℕ} → part ≡ written operations (take (length l - result_length) (drop result_length l))
    → {rest : List ℕ} → rest ≡ written plans (take (length (put_mid result_length (length l - result_length) l part) - (result_length + m)) (drop (result_length + m) (put_mid result_length (length l - result_length) l part)))
    → put_mid (result_length + m) (length (put_mid result_length (length l - result_length) l part) - (result_length + m)) (put_mid result_length (length l - result_length) l part) rest ≡ sets l result_length (operations ++ plans)
moves_stored l operations plans m e room p q =
    let first = sets_part l result_length operations (p ∙ written_sets operations _ (rw part_rest (omega (arith, length-drop result_length l)))) in
    let same = length-sets l result_length operations in
    let behind : length plans ≤ length (take (length (sets l result_length operations) - (result_length + m)) (drop (result_length + m) (sets l result_length operations))) = rw part_rest (omega (arith, length-drop (result_length + m) (sets l result_length operations))) in
    let part = rw first at q in
    let second = sets_part (sets l result_length operations) (result_length + m) plans (part ∙ written_sets plans _ behind) in
    let all : sets (sets l result_length operations) (result_length + m) plans ≡ sets l result_length (operations ++ plans) = rw (← e) (sets_append l result_length operations plans) in
    rw first (second ∙ all)

-- as many bytes as the lines on the best state, the operations and the plan have
pub moves_long : (N : Network) {m k : ℕ} → m ≡ length (operation_lines N) → k ≡ length (plan_lines N) → result_length + m + k ≡ result_length + length (move_lines N)
unfolding move_lines
moves_long N e f = simp length-append (omega arith)

pub network_long : (N : Network) → result_length + length (move_lines N) ≡ length (network_text N)
unfolding network_text
network_long N = sym (length-append (result_lines (result N)) (move_lines N) ∙ ap (λ (k : ℕ). k + length (move_lines N)) (length_result_lines (result N)))

pub lines_stored : (l : List ℕ) (r : Result) (moves : List ℕ) → length (result_lines r ++ moves) ≤ length l
    → {front : List ℕ} → front ≡ written (result_lines r) l → {after : List ℕ} → after ≡ sets front result_length moves → after ≡ written (result_lines r ++ moves) l
lines_stored l r moves room f a =
    let long = length_result_lines r in
    let both = length-append (result_lines r) moves in
    let stored = sets_append l 0 (result_lines r) moves in
    a ∙ rw (f, written_sets (result_lines r) l (omega arith)) (rw (zero-add, long) at stored) ∙ sym (written_sets (result_lines r ++ moves) l room)

-- ---- the call
module _ (N : Network) (out : List ℕ) {n : ℕ} (long : n ≡ length (network_text N)) where
  pub no_room : length out < n → record { answer = refused 13 0; out = out } ≡ called (accepted tt) (length (network_text N)) (network_text N) out
  no_room h = call_short (length (network_text N)) (network_text N) out refl (sym long) h

  -- what was made in memory of the call's own is copied
  pub all_copied : n ≤ length out → (space : List ℕ) {lines : List ℕ} → n ≤ length space → lines ≡ written (network_text N) space
      → {after : List ℕ} → after ≡ written (take n lines) out → record { answer = accepted n; out = after } ≡ called (accepted tt) (length (network_text N)) (network_text N) out
  all_copied h space room w e =
      let same = take_written (network_text N) space (sym long) room w in
      rw long (call_done (length (network_text N)) (network_text N) out refl (sym long) h (e ∙ ap (λ (b : List ℕ). written b out) same))
