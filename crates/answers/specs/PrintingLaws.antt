-- How long a printed answer is, that the front of a long text decides it, that its floats have bits, and what the program makes of the call.
use Rattle.std.specs.Prelude.{◌≡◌, Bool, not, cond, List, [], ℕ, ◌≤◌, ◌^◌, take, drop}
use Rattle.std.proofs.Math.Path.{refl, sym, ap}
use Rattle.std.proofs.Common.{◌∙◌}
use Rattle.std.proofs.Math.Bool.{true, false}
use native.Mathlib.Omega.{arith}
use Rattle.std.proofs.Math.Dec.{T}
use Rattle.std.specs.Float.Ieee.{binary64, is_nan, lt, sub, mul, div, of_bits}
use Rattle.std.proofs.Math.ListN.{length, length-append}
use Rattle.std.proofs.Math.Seq.{take-append_seam}
use Rattle.numbers.specs.Counts.{count_le}
use Rattle.numbers.specs.Constants.{zero64, trillionth, hundred}
use Rattle.numbers.specs.Bounds.{Within, within_no_nan}
use Rattle.network.specs.Records.{Network}
use Rattle.network.specs.Answers.{Answer, accepted, refused}
use Rattle.network.specs.Check.{check_records}
use Rattle.network.specs.InsideLaws.{check_inside}
use Rattle.states.specs.Live.{base_state}
use Rattle.frames.specs.Text.{read_text}
use Rattle.frames.specs.Lengths.{deciding_length}
use Rattle.frames.specs.Conditions.{judgement_of}
use Rattle.frames.specs.Proof.{claim, passed}
use Rattle.printing.specs.Calls.{called}
use Rattle.printing.specs.CallLaws.{call_refused, call_answered, in_full}
use Rattle.printing.specs.LineTexts.{length_answer, length_form, length_refusal}
use Rattle.printing.specs.Lengths.{answer_length, result_length, operations_length, plan_length, printed_length}
use Rattle.feeders.specs.Feeder.{radial_in}
use Rattle.feeders.specs.Supply.{check_network}
use Rattle.feeders.specs.SupplyLaws.{network_records}
use Rattle.losses.specs.Loss.{loss_in}
use Rattle.losses.specs.Accepted.{accepted_loss_within}
use Rattle.losses.specs.PercentLaws.{percent_within}
use Rattle.plan.specs.Plan.{plan, plan_text}
use Rattle.plan.specs.Length.{plan_fits}
use Rattle.searches.specs.Results.{Result, reduction, result_by}
use Rattle.reconfiguration.specs.Solve.{result, best}
use Rattle.reconfiguration.specs.AnswersHavePlans.{solve_plan_accepted}
use Rattle.operations.specs.Operations.{operations}
use Rattle.operations.specs.OperationLines as Operations
use Rattle.operations.specs.OperationValues.{differs}
use Rattle.answers.specs.Printing.{result_text, result_lines, operation_lines, plan_lines, move_lines, network_text, printed_of, printed, answered_text, printed_by}

pub length_result : (r : Result) → length (result_text r) ≡ answer_length
unfolding result_text
length_result r = length_answer _ _ _ _ _ _

pub length_result_lines : (r : Result) → length (result_lines r) ≡ result_length
unfolding result_lines
length_result_lines r = rw (length-append, length_result r, length_form r.form)

module _ (N : Network) (ok : check_records N ≡ accepted tt) where
  -- an operation for each switch at most
  pub operations_short : length (operation_lines N) ≤ operations_length
  unfolding operation_lines
  operations_short =
      let few = ((check_inside N).0 ok).counts in
      omega (arith, few.2, Operations.length_text (operations N (base_state N) (best N).state), Operations.length_operations N (base_state N) (best N).state, count_le (differs (base_state N) (best N).state) (length N.switches))

  -- ---- bits
  base_within : Within (2 ^ 115) (loss_in N (base_state N))
  base_within = accepted_loss_within N ((check_inside N).0 ok) (base_state N)

  best_within : Within (2 ^ 115) (loss_in N (best N).state)
  best_within = accepted_loss_within N ((check_inside N).0 ok) (best N).state

  pub base_bits : T (not (is_nan (loss_in N (base_state N))))
  base_bits = within_no_nan base_within

  pub best_bits : T (not (is_nan (loss_in N (best N).state)))
  best_bits = within_no_nan best_within

  pub reduction_bits : T (not (is_nan (result N).reduction))
  unfolding result result_by reduction
  reduction_bits = go (lt trillionth (loss_in N (base_state N))) refl
    where
      go : (b : Bool) → lt trillionth (loss_in N (base_state N)) ≡ b → T (not (is_nan (cond b (mul binary64 (div binary64 (sub binary64 (loss_in N (base_state N)) (loss_in N (best N).state)) (loss_in N (base_state N))) hundred) zero64)))
      go true e = within_no_nan (percent_within base_within best_within (rw e tt))
      go false e = unfold of_bits is_nan in tt

module _ (N : Network) (tested : check_network N ≡ accepted tt) where
  -- a pair for each bus but one and a move for each switch, at most
  pub plan_short : length (plan_lines N) ≤ plan_length
  unfolding plan_lines
  plan_short = go (radial_in N (base_state N)) refl
    where
      go : (b : Bool) → radial_in N (base_state N) ≡ b → length (cond b (plan_text (plan N (base_state N) (best N).state)) []) ≤ plan_length
      go true e = plan_fits N (base_state N) (best N).state (solve_plan_accepted N tested e)
      go false e = omega arith

  pub network_short : length (network_text N) ≤ printed_length
  unfolding network_text move_lines
  network_short = simp length-append (omega (arith, length_result_lines (result N), operations_short N (network_records N tested), plan_short))

-- "A refusal prints one line", and `printed_length` bytes are enough for every text
pub printed_short : (text : List ℕ) → length (printed text) ≤ printed_length
unfolding printed
printed_short text = go (read_text text) refl
  where
    go : (a : Answer Network) → read_text text ≡ a → length (printed_of a) ≤ printed_length
    go (accepted N) e = network_short N (passed text N e)
    go (refused number place) e = omega (arith, length_refusal number place)

-- a program that reads `deciding_length` bytes or more of a longer text prints what the whole text would get
pub printed_early : (n : ℕ) (text : List ℕ) → deciding_length ≤ n → printed (take n text) ≡ printed text
unfolding printed
printed_early n text h = ap printed_of (claim.early n text h)

-- ---- the call
module _ (text out : List ℕ) where
  -- a text that is refused: its own number and place, whatever room there is
  pub text_refused : {number place : ℕ} → read_text text ≡ refused number place → record { answer = refused number place; out = out } ≡ answered_text text out
  unfolding answered_text judgement_of
  text_refused e = call_refused (length (printed text)) (printed text) out (ap judgement_of e)

  -- a text that is read: its network's lines
  pub text_answered : {N : Network} → read_text text ≡ accepted N → called (accepted tt) (length (network_text N)) (network_text N) out ≡ answered_text text out
  unfolding answered_text judgement_of printed
  text_answered e = ap (λ a. called (judgement_of a) (length (printed_of a)) (printed_of a) out) (sym e)

  -- a count that is answered is that of what is printed
  pub printed_count : {count : ℕ} {after : List ℕ} → record { answer = accepted count; out = after } ≡ answered_text text out → count ≡ length (printed text)
  unfolding answered_text
  printed_count e = (call_answered (judgement_of (read_text text)) _ (printed text) out e).1

  -- what the program makes of the call is what is printed: the bytes that it answers, or the line of the refusal
  pub printed_by_call : printed_length ≤ length out → printed_by (answered_text text out) ≡ printed text
  printed_by_call room = go (read_text text) refl
    where
      go : (a : Answer Network) → read_text text ≡ a → printed_by (answered_text text out) ≡ printed text
      go (accepted N) e =
          let fits : length (network_text N) ≤ length out = omega (arith, network_short N (passed text N e)) in
          ap printed_by (sym (text_answered e) ∙ in_full (length (network_text N)) (network_text N) out refl fits)
          ∙ take-append_seam (network_text N) (drop (length (network_text N)) out) ∙ (unfold printed in sym (ap printed_of e))
      go (refused number place) e = ap printed_by (sym (text_refused e)) ∙ (unfold printed in sym (ap printed_of e))
