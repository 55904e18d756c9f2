-- The loss call, case by case: without a supply it is a call on a state as any other; it answers the loss where the network, the state and, with a supply, radiality pass.
use Rattle.std.specs.Prelude.{◌≡◌, refl, ◌↔◌, ℕ}
use Rattle.std.proofs.Math.Path.{sym, ap}
use Rattle.std.proofs.Common.{◌∙◌}
use Rattle.std.specs.Prelude.{Option, None, Some}
use Rattle.network.specs.declared.topology.PowerNetwork.{PowerNetwork}
use Rattle.network.specs.Records.{Network, records_of}
use Rattle.network.specs.Answers.{accepted, ◌and_then◌}
use Rattle.network.specs.AnswerLaws.{gives_way}
use Rattle.states.specs.Listed.{state_accepted}
use Rattle.states.specs.Live.{check_state}
use Rattle.states.specs.Switches.{State, GoodState}
use Rattle.feeders.specs.Feeder.{radial_in}
use Rattle.feeders.specs.StateCalls.{on_state, check_radial}
use Rattle.feeders.specs.StateCallLaws.{radial_accepted}
use Rattle.feeders.specs.Supply.{check_network}
use Rattle.losses.specs.Loss.{loss_in}
use Rattle.losses.specs.LossCall.{check_fed, judge_fed, loss_call}
use Rattle.losses.specs.SupplySide.{Fed}

module _ (N : Network) (s : State) where
  pub unfed : N.supply ≡ None → check_fed N N.supply s ≡ accepted tt
  unfed e = ap (λ z. check_fed N z s) e

  pub fed : {id : ℕ} → N.supply ≡ Some id → check_fed N N.supply s ≡ check_radial N s 0
  fed e = ap (λ z. check_fed N z s) e

  -- "without the line nothing changes"
  pub unsupplied_call : N.supply ≡ None → loss_call N s ≡ on_state N s (loss_in N s)
  unfolding loss_call
  unsupplied_call e = ap (λ v. check_network N and_then check_state N s 0 and_then v) (sym (gives_way (accepted (loss_in N s)) (unfed e)))

  -- 11 is passed exactly where a supply finds the state radial
  pub fed_accepted : (check_fed N N.supply s ≡ accepted tt) ↔ Fed N s
  fed_accepted = (λ e id named. (radial_accepted N s 0).0 (sym (fed named) ∙ e), λ h. back h N.supply refl)
    where
      back : Fed N s → (z : Option ℕ) → N.supply ≡ z → check_fed N N.supply s ≡ accepted tt
      back h None e = unfed e
      back h (Some id) e = fed e ∙ (radial_accepted N s 0).1 (h id e)

  pub loss_answered : check_network N ≡ accepted tt → GoodState N s → Fed N s → loss_call N s ≡ accepted (loss_in N s)
  unfolding loss_call
  loss_answered ok good h =
      sym (gives_way (accepted (loss_in N s)) (fed_accepted.1 h) ∙ gives_way _ ((state_accepted N s 0).1 good) ∙ gives_way _ ok)

-- what the code tests is 11 of the value's records
pub fed_judged : (n : PowerNetwork) (s : State) → judge_fed n.supply (radial_in (records_of n) s) ≡ check_fed (records_of n) (records_of n).supply s
unfolding records_of check_radial
fed_judged n s = go n.supply
  where
    go : (z : Option ℕ) → judge_fed z (radial_in (records_of n) s) ≡ check_fed (records_of n) z s
    go None = refl
    go (Some id) = refl
