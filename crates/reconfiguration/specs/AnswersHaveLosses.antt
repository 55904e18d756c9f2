-- The losses that a search answers are those of the loss call: of the base and of its best state, for every accepted network. With a supply both are radial, so that
-- refusal 11 comes for neither; and in a search no loss decides but that of the base and of radial states.
use Rattle.std.specs.Prelude.{◌≡◌, Bool, true, false, ℕ, ◌<◌}
use Rattle.std.proofs.Math.Path.{refl, ap}
use Rattle.std.proofs.Common.{◌∙◌}
use Rattle.std.proofs.Math.Bool.{and-false}
use Rattle.std.specs.Prelude.{Option, None, Some}
use Rattle.numbers.specs.IfSome.{IfSome}
use Rattle.numbers.specs.Tests.{both}
use Rattle.network.specs.declared.switch.ReconfigAlgorithm.{ReconfigAlgorithm}
use Rattle.network.specs.declared.switch.ReconfigAlgorithm.TheVariants as method
use Rattle.network.specs.Records.{Network}
use Rattle.network.specs.Answers.{accepted}
use Rattle.states.specs.BaseLaws.{base_good}
use Rattle.states.specs.Live.{live, base_state, check_state}
use Rattle.states.specs.Switches.{State, operable, size, toggled}
use Rattle.feeders.specs.Feeder.{feeder, position, form_in, radial_in}
use Rattle.feeders.specs.StateCalls.{check_radial}
use Rattle.feeders.specs.Supply.{check_network}
use Rattle.feeders.specs.SupplyLaws.{base_radial_lem}
use Rattle.losses.specs.Loss.{load_at, resistance_at, drawn_for, drawn, loss, loss_in}
use Rattle.losses.specs.LossCall.{check_fed, loss_call}
use Rattle.losses.specs.LossCallLaws.{loss_answered}
use Rattle.searches.specs.Results.{result_by}
use Rattle.exchange.specs.Exchange.{seen, trial}
use Rattle.exchange.specs.ExchangeLaws.{Swap, trial_swaps}
use Rattle.tabu.specs.Tabu.{Move, Tabu, allowed, move_of, seeing}
use Rattle.exhaustive.specs.Exhaustive.{as_exhaustive, masked, Exhaustive, exhaustive_best, try_mask}
use Rattle.reconfiguration.specs.AnswersHavePlans.{search_sound}
use Rattle.reconfiguration.specs.Solve.{best_by, best, result}

module _ (N : Network) (ok : check_network N ≡ accepted tt) where
  module _ (a : ReconfigAlgorithm) where
    pub base_loss_answered : loss_call N (base_state N) ≡ accepted (result_by (best_by a) N).base_loss
    unfolding result_by
    base_loss_answered = loss_answered N (base_state N) ok (base_good N) (base_radial_lem N ok)

    pub best_loss_answered : loss_call N (best_by a N).state ≡ accepted (result_by (best_by a) N).best_loss
    unfolding result_by
    best_loss_answered = let sound = search_sound N a in loss_answered N (best_by a N).state ok sound.good (λ id named. sound.radial (base_radial_lem N ok id named))

  -- so those of `solve`, which the 81 line has
  pub solved_base_loss : loss_call N (base_state N) ≡ accepted (result N).base_loss
  unfolding result best result_by
  solved_base_loss = base_loss_answered N.algorithm

  pub solved_best_loss : loss_call N (best N).state ≡ accepted (result N).best_loss
  unfolding result best result_by
  solved_best_loss = best_loss_answered N.algorithm

-- ---- `exhaustive_solve` answers for the network with method 02, whichever its head has. The method decides no loss, so that the loss call on the network itself answers the same
module _ (N : Network) where
  same_fed : (s : State) (p : Option ℕ) → check_fed N p s ≡ check_fed (as_exhaustive N) p s
  unfolding as_exhaustive check_radial radial_in form_in live feeder position
  same_fed s None = refl
  same_fed s (Some id) = refl

  same_drawn : (E : ℕ → Bool) (p : Option ℕ) → drawn_for N p E ≡ drawn_for (as_exhaustive N) p E
  unfolding as_exhaustive feeder position
  same_drawn E None = refl
  same_drawn E (Some id) = refl

  same_loss : (s : State) → loss_in N s ≡ loss_in (as_exhaustive N) s
  unfolding as_exhaustive loss_in drawn live
  same_loss s = ap (λ d. loss d (live N s) (load_at N) (resistance_at N) N.base) (same_drawn (live N s) N.supply)

  module _ (ok : check_network N ≡ accepted tt) (ok-asked : check_network (as_exhaustive N) ≡ accepted tt) where
    same_call : (s : State) → loss_call N s ≡ loss_call (as_exhaustive N) s
    unfolding loss_call as_exhaustive check_state
    same_call s = rw (ok, ok-asked, same_fed s N.supply, same_loss s)

    pub exhaustive_base_loss : loss_call N (base_state N) ≡ accepted (result_by exhaustive_best (as_exhaustive N)).base_loss
    unfolding best_by as_exhaustive base_state
    exhaustive_base_loss = same_call (base_state N) ∙ base_loss_answered (as_exhaustive N) ok-asked method.Exhaustive

    pub exhaustive_best_loss : loss_call N (exhaustive_best (as_exhaustive N)).state ≡ accepted (result_by exhaustive_best (as_exhaustive N)).best_loss
    unfolding best_by
    exhaustive_best_loss = same_call (exhaustive_best (as_exhaustive N)).state ∙ best_loss_answered (as_exhaustive N) ok-asked method.Exhaustive

-- ---- the loss of a state that is not radial decides nothing: a trial of the exchange and a move of the tabu search are radial, and toggles and masks that are not are passed over
module _ (N : Network) where
  pub trial_radial : (s : State) (tie : ℕ) → tie < size N → seen N s tie ≡ true → IfSome (λ t. radial_in N t ≡ true) (trial N s tie)
  trial_radial s tie l e = go (trial N s tie) (trial_swaps N s tie l e)
    where
      go : (found : Option State) → IfSome (Swap N s) found → IfSome (λ t. radial_in N t ≡ true) found
      go None w = tt
      go (Some t) w = w.radial

  pub move_radial : (x : Tabu) (i : ℕ) → allowed N x i ≡ true → radial_in N (move_of N x i).state ≡ true
  unfolding allowed
  move_radial x i e = (both (radial_in N (toggled x.state i)) _ (both (operable N i) _ e).1).0

  -- whatever its loss
  pub move_passed_over : (x : Tabu) (best : Option Move) (i : ℕ) → radial_in N (toggled x.state i) ≡ false → seeing N x best i ≡ best
  unfolding allowed
  move_passed_over x best i e = rw (e, and-false)

  pub mask_passed_over : (x : Exhaustive) (mask : ℕ) → radial_in N (masked N mask) ≡ false → try_mask N x mask ≡ x
  unfolding try_mask
  mask_passed_over x mask e = rw e
