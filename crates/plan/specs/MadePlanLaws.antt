-- What is known of what the planner hands on: the answer of its tests, and beside no refusal the plan's pairs.
use Rattle.std.specs.Prelude.{◌≡◌, Result, Ok, Err, ◌≤◌}
use Rattle.std.specs.Result.{IsErrAnd}
use Rattle.std.proofs.Math.Path.{refl, ap}
use Rattle.std.proofs.Common.{sym, ◌∙◌}
use Rattle.std.proofs.lemmas.Result.{err_from_is_err_and}
use Rattle.network.specs.declared.error.Refusal.{Refusal}
use Rattle.network.specs.Records.{Network}
use Rattle.network.specs.Answers.{accepted, refused, answer_of, number_of, place_of, Judgement}
use Rattle.states.specs.Switches.{State}
use Rattle.changes.specs.Change.{check_plan}
use Rattle.plan.specs.declared.pairs.Pair.{Pair}
use Rattle.plan.specs.declared.list.SwitchList.{SwitchList}
use Rattle.plan.specs.SwitchLists.{listed}
use Rattle.plan.specs.Plan.{plan}
use Rattle.plan.specs.MadePlans.{Made, made_with, made_plan}
use Rattle.plan.specs.Stored.{moves_in, made_in}

module _ (N : Network) (present wanted : State) where
  -- as the code makes it
  pub none_made : (w : Result (SwitchList Pair) Refusal) {v : Result (Unit {0}) Refusal} {r : Refusal} → IsErrAnd w (λ e. e ≡ r) → v ≡ Err r → answer_of v ≡ check_plan N present wanted
      → made_in w ≡ made_plan N present wanted
  unfolding made_plan
  none_made w h q e = let p = err_from_is_err_and w h in rw (p.1, p.2, ← e, q)

  pub plan_made : {v : Result (Unit {0}) Refusal} {u : Unit {0}} → v ≡ Ok u → answer_of v ≡ check_plan N present wanted → (pairs : SwitchList Pair) → moves_in (listed pairs) ≡ plan N present wanted
      → made_in (Ok pairs) ≡ made_plan N present wanted
  unfolding made_plan
  plan_made q e pairs p = rw (← e, q, p)

  -- as its callers use it
  module _ (m : Result (SwitchList Pair) Refusal) (made : made_in m ≡ made_plan N present wanted) where
    made_answer : (made_in m).answer ≡ check_plan N present wanted
    unfolding made_plan
    made_answer = ap (λ (x : Made). x.answer) made ∙ same (check_plan N present wanted)
      where
        same : (j : Judgement) → (made_with j (plan N present wanted)).answer ≡ j
        same (accepted u) = refl
        same (refused number place) = refl

    pub made_refused : {r : Refusal} → m ≡ Err r → refused (number_of r) (place_of r) ≡ check_plan N present wanted
    made_refused e = sym (ap (λ x. (made_in x).answer) e) ∙ made_answer

    module _ {pairs : SwitchList Pair} (e : m ≡ Ok pairs) where
      pub made_accepted : check_plan N present wanted ≡ accepted tt
      made_accepted = sym made_answer ∙ ap (λ x. (made_in x).answer) e

      pub made_pairs : moves_in (listed pairs) ≡ plan N present wanted
      unfolding made_plan
      made_pairs = sym (ap (λ x. (made_in x).pairs) e) ∙ ap (λ (x : Made). x.pairs) made ∙ rw made_accepted refl

      pub made_few : pairs.count ≤ 512
      made_few = pairs.few
