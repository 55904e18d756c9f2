-- The planner's answer, case by case: the first refusal decides, and without one the lines are written.
use Rattle.std.specs.Prelude.{◌≡◌, Result, Ok, Err, List, ℕ, ◌≤◌, ◌<◌, ◌^◌, length, sum_by}
use Rattle.std.specs.Result.{IsErrAnd}
use Rattle.std.proofs.Common.{sym, ap, ◌∙◌, arith}
use Rattle.std.proofs.lemmas.List.{length-map}
use Rattle.std.proofs.lemmas.Result.{err_from_is_err_and}
use Rattle.network.specs.declared.error.Refusal.{Refusal}
use Rattle.network.specs.declared.error.Refusal.TheVariants.{Room}
use Rattle.network.specs.Records.{Network}
use Rattle.network.specs.Answers.{Answer, accepted, refused, answer_of, number_of, place_of, valued}
use Rattle.states.specs.Switches.{State}
use Rattle.slices.specs.Written.{written}
use Rattle.printing.specs.Calls.{Call}
use Rattle.printing.specs.CallLaws.{call_refused, call_short, call_done}
use Rattle.changes.specs.Change.{check_plan}
use Rattle.plan.specs.declared.pairs.Pair.{Pair}
use Rattle.plan.specs.declared.planner.PlanLines.{PlanLines}
use Rattle.plan.specs.Plan.{Moves, plan, plan_text, planned, length_beside, planned_length}
use Rattle.plan.specs.Stored.{switches_in, moves_in, line_length, bytes_in}
use Rattle.plan.specs.Length.{plan_fits}
use Rattle.plan.proofs.Lines.{summed}

module _ (N : Network) (present wanted : State) (out : List ℕ) where
  abbrev moves : List Moves
  moves = plan N present wanted

  -- the code's answer with what it leaves in the slice
  abbrev Told : Result PlanLines Refusal → List ℕ → Type 0
  Told r after =
      (record { answer = valued (λ (l : PlanLines). l.pairs) (answer_of r); out = after } ≡ planned N present wanted out) × (bytes_in r ≡ planned_length N present wanted out)

  told : (a : Answer ℕ) {after : List ℕ} → record { answer = a; out = after } ≡ planned N present wanted out → length_beside a moves ≡ planned_length N present wanted out
  unfolding planned_length
  told a e = ap (λ (c : Call ℕ). length_beside c.answer moves) e

  pub not_accepted : (w : Result PlanLines Refusal) (r : Refusal) → IsErrAnd w (λ e. e ≡ r) → refused (number_of r) (place_of r) ≡ check_plan N present wanted → Told w out
  unfolding planned
  not_accepted w r h e =
      let p = err_from_is_err_and w h in
      let c = call_refused (length moves) (plan_text moves) out (sym e) in
      rw (p.1, p.2) (c, told (refused (number_of r) (place_of r)) c)

  module _ (ok : check_plan N present wanted ≡ accepted tt) (pairs : List Pair) (made : moves_in pairs ≡ plan N present wanted) where
    long : length (plan_text moves) ≡ sum_by line_length pairs
    long = rw (← made) (sym (summed pairs))

    pub lengths_fit : sum_by line_length pairs < 2 ^ 64
    lengths_fit = omega (arith, long, plan_fits N present wanted ok)

    module _ {sum : ℕ} (e : sum ≡ sum_by line_length pairs) where
      pub no_room : length out < sum → Told (Err Room) out
      unfolding planned
      no_room h = let c = call_short (length moves) (plan_text moves) out ok (long ∙ sym e) h in (c, told (refused 13 0) c)

      pub room : sum ≤ length out → length (plan_text (moves_in pairs)) ≤ length out
      room h = omega (arith, summed pairs, e)

      pub lines_written : sum ≤ length out → {after : List ℕ} → after ≡ written (plan_text (moves_in pairs)) out → Told (Ok (record { pairs = length pairs; length = sum })) after
      unfolding planned
      lines_written h w =
          let c = call_done (length moves) (plan_text moves) out ok (long ∙ sym e) h (w ∙ rw made) in
          let count : length pairs ≡ length moves = sym (length-map pairs switches_in) ∙ ap length made in
          rw count (c, e ∙ sym long ∙ told (accepted (length moves)) c)
