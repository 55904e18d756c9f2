-- The answer to a plan that was cut off, case by case: the first refusal decides, and without one both lists are written.
use Rattle.std.specs.Prelude.{◌≡◌, Result, Ok, List, ℕ, ◌*◌, ◌-◌, ◌≤◌, ◌<◌, length, take, drop}
use Rattle.std.specs.Result.{IsErrAnd}
use Rattle.std.proofs.Common.{ap, ◌∙◌, length-drop}
use Rattle.std.proofs.lemmas.List.{length-take-le}
use Rattle.network.specs.declared.error.Refusal.{Refusal}
use Rattle.network.specs.Records.{Network}
use Rattle.network.specs.Answers.{accepted, refused, answer_of, number_of, place_of, ◌and_then◌}
use Rattle.network.specs.AnswerLaws.{handed_on}
use Rattle.states.specs.Switches.{State}
use Rattle.slices.specs.Written.{written}
use Rattle.printing.specs.declared.writer.SwitchOperation.{SwitchOperation}
use Rattle.printing.specs.Lengths.{operation_length}
use Rattle.printing.specs.CallLaws.{two_refused, first_short, second_short, two_done}
use Rattle.changes.specs.Change.{check_plan}
use Rattle.operations.specs.Operations.{operations_text}
use Rattle.plan.specs.declared.pairs.Pair.{Pair}
use Rattle.plan.specs.declared.list.SwitchList.{SwitchList}
use Rattle.plan.specs.SwitchLists.{listed}
use Rattle.plan.specs.MadePlans.{made_plan}
use Rattle.plan.specs.Stored.{moves_in, made_in}
use Rattle.plan.specs.MadePlanLaws.{made_accepted, made_pairs, made_few}
use Rattle.resumption.specs.SingleMoves.{single_moves, going_back}
use Rattle.resumption.specs.Resume.{moves_of_plan, check_resume, resumed}
use Rattle.resumption.specs.ResumeLaws.{singles_few, count_passes, count_refused, remaining_long, back_long}

-- there is room for the moves of the planner's pairs
pub moves_room : (N : Network) (present wanted : State) (m : Result (SwitchList Pair) Refusal) → made_in m ≡ made_plan N present wanted → {pairs : SwitchList Pair} → m ≡ Ok pairs
    → (pairs.count ≤ 512) × (length (single_moves (moves_in (listed pairs))) ≤ 512)
moves_room N present wanted m made e =
    (made_few N present wanted m made e, rw (made_pairs N present wanted m made e) (singles_few N present wanted (made_accepted N present wanted m made e)))

module _ (N : Network) (present wanted : State) (count : ℕ) (remaining back : List ℕ) where
  abbrev M : List SwitchOperation
  M = moves_of_plan N present wanted

  pub not_accepted : (w : Result ℕ Refusal) (r : Refusal) → IsErrAnd w (λ e. e ≡ r) → refused (number_of r) (place_of r) ≡ check_plan N present wanted
      → record { answer = answer_of w; first = remaining; second = back } ≡ resumed N present wanted count remaining back
  unfolding resumed check_resume ◌and_then◌
  not_accepted w r h e = rw (handed_on w r h) (two_refused _ _ _ _ _ (rw (← e)))

  -- the planner has made its pairs, and their moves are listed
  module _ (ok : check_plan N present wanted ≡ accepted tt) {list : List SwitchOperation} (listed : list ≡ M) where
    pub too_many : length list < count → record { answer = refused 16 0; first = remaining; second = back } ≡ resumed N present wanted count remaining back
    unfolding resumed
    too_many h = two_refused _ _ _ _ _ (count_refused N present wanted count ok (rw (← listed) h))

    -- so many of them are done, and the others are left
    module _ (few : count ≤ length list) {done left : List SwitchOperation} (d : done ≡ take count list) (l : left ≡ drop count list) where
      passed : check_resume N present wanted count ≡ accepted tt
      passed = count_passes N present wanted count ok (rw (← listed) few)

      done_many : length done ≡ count
      done_many = ap length d ∙ length-take-le count list few

      left_many : length left ≡ length M - count
      left_many = ap length (l ∙ ap (drop count) listed) ∙ length-drop count M

      needed : length (operations_text (drop count M)) ≡ operation_length * length left
      needed = rw left_many (remaining_long N present wanted count)

      asked : length (operations_text (going_back (take count M))) ≡ operation_length * length done
      asked = rw done_many (back_long N present wanted count (rw (← listed) few))

      pub remaining_short : length remaining < operation_length * length left → record { answer = refused 13 0; first = remaining; second = back } ≡ resumed N present wanted count remaining back
      unfolding resumed
      remaining_short h = first_short _ _ _ _ _ passed needed h

      module _ (room : operation_length * length left ≤ length remaining) where
        pub back_short : length back < operation_length * length done → record { answer = refused 13 0; first = remaining; second = back } ≡ resumed N present wanted count remaining back
        unfolding resumed
        back_short h = second_short _ _ _ _ _ passed needed room asked h

        pub both_written : operation_length * length done ≤ length back → {after then : List ℕ} → after ≡ written (operations_text left) remaining
            → then ≡ written (operations_text (going_back done)) back → record { answer = accepted (length left); first = after; second = then } ≡ resumed N present wanted count remaining back
        unfolding resumed
        both_written h first second =
            let as_many : length left ≡ length (drop count M) = ap length (l ∙ ap (drop count) listed) in
            rw as_many (two_done _ _ _ _ _ passed needed room asked h (first ∙ rw (l, listed)) (second ∙ rw (d, listed)))
