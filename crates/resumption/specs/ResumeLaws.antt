-- The call for a plan that was cut off: how long its lists are, which counts pass and which are refused with 16, and its answer where there is room for both lists.
use Rattle.std.specs.Prelude.{◌≡◌, List, ℕ, ◌*◌, ◌-◌, ◌≤◌, ◌<◌, length, take, drop}
use Rattle.std.proofs.Common.{ap, ◌∙◌, arith, length-drop, length-take-le}
use borrow.Author.Tests.{le-ltb, lt-ltb}
use Rattle.network.specs.Records.{Network}
use Rattle.network.specs.Answers.{accepted, refused, ◌and_then◌, judge}
use Rattle.network.specs.InsideLaws.{check_inside}
use Rattle.states.specs.Switches.{State, size}
use Rattle.printing.specs.Lengths.{operation_length, moves_length}
use Rattle.printing.specs.CallLaws.{two_in_full}
use Rattle.feeders.specs.SupplyLaws.{network_records}
use Rattle.changes.specs.Change.{check_plan}
use Rattle.operations.specs.Operations.{operations_text}
use Rattle.operations.specs.OperationLines.{length_text}
use Rattle.plan.specs.Plan.{plan}
use Rattle.plan.specs.Accepted.{accepted_tested}
use Rattle.plan.specs.Moving.{each_moves_once}
use Rattle.resumption.specs.SingleMoves.{going_back}
use Rattle.resumption.specs.Resume.{moves_of_plan, check_resume, resumed, full_answer}
use Rattle.resumption.specs.MoveLaws.{length_back}
use Rattle.resumption.specs.PairMoves.{moves_counted}

module _ (N : Network) (present wanted : State) where
  -- ---- how long: each switch moves once
  pub moves_short : check_plan N present wanted ≡ accepted tt → length (moves_of_plan N present wanted) ≤ size N
  moves_short ok = omega (arith, moves_counted N (plan N present wanted), (each_moves_once N present wanted (accepted_tested N present wanted ok)).few)

  pub singles_few : check_plan N present wanted ≡ accepted tt → length (moves_of_plan N present wanted) ≤ 512
  singles_few ok =
      let passed = network_records N (accepted_tested N present wanted ok).network in
      omega (arith, moves_short ok, ((check_inside N).0 passed).counts.2)

  pub moves_fit : check_plan N present wanted ≡ accepted tt → operation_length * length (moves_of_plan N present wanted) ≤ moves_length
  moves_fit ok = omega (arith, singles_few ok)

  module _ (count : ℕ) where
    -- the lines of the moves that remain, and of those that go back
    pub remaining_long : length (operations_text (drop count (moves_of_plan N present wanted))) ≡ operation_length * (length (moves_of_plan N present wanted) - count)
    remaining_long = length_text (drop count (moves_of_plan N present wanted)) ∙ ap (λ (n : ℕ). operation_length * n) (length-drop count (moves_of_plan N present wanted))

    pub back_long : count ≤ length (moves_of_plan N present wanted) → length (operations_text (going_back (take count (moves_of_plan N present wanted)))) ≡ operation_length * count
    back_long few =
        length_text (going_back (take count (moves_of_plan N present wanted)))
        ∙ ap (λ (n : ℕ). operation_length * n) (length_back (take count (moves_of_plan N present wanted)) ∙ length-take-le count (moves_of_plan N present wanted) few)

    -- ---- the tests
    module _ (ok : check_plan N present wanted ≡ accepted tt) where
      pub count_passes : count ≤ length (moves_of_plan N present wanted) → check_resume N present wanted count ≡ accepted tt
      unfolding check_resume ◌and_then◌ judge
      count_passes few = rw (ok, le-ltb (length (moves_of_plan N present wanted)) count few)

      pub count_refused : length (moves_of_plan N present wanted) < count → check_resume N present wanted count ≡ refused 16 0
      unfolding check_resume ◌and_then◌ judge
      count_refused many = rw (ok, lt-ltb (length (moves_of_plan N present wanted)) count many)

    -- ---- the answer
    pub resumed_with_room : (remaining back : List ℕ) → check_plan N present wanted ≡ accepted tt
        → let moves = moves_of_plan N present wanted in
        count ≤ length moves → operation_length * (length moves - count) ≤ length remaining → operation_length * count ≤ length back
        → resumed N present wanted count remaining back ≡ full_answer N present wanted count remaining back
    unfolding resumed
    resumed_with_room remaining back ok few room also =
        two_in_full _ _ _ remaining back (count_passes ok few) (rw remaining_long room) (rw (back_long few) also) ∙ rw (remaining_long, back_long few, length-drop)
