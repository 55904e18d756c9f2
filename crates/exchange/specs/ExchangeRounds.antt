-- The rounds of the exchange: where the code stands, the rounds that are left lead to the definition's answer.
use Rattle.std.specs.Prelude.{◌≡◌, true, false, not, Float, length, set}
use Rattle.std.proofs.Math.Path.{refl, sym, ap}
use Rattle.std.proofs.Common.{◌∙◌, add-one, arith, length-set}
use Rattle.std.specs.Prelude.{Option, None, Some}
use Rattle.std.specs.Option.{is_some}
use Prim.Native.Nat.{ℕ, suc, ◌+◌, ◌≤◌, ◌<◌}
use Rattle.states.specs.declared.configuration.NetworkConfiguration.{NetworkConfiguration}
use Rattle.network.specs.declared.topology.PowerNetwork.{PowerNetwork}
use Rattle.network.specs.Records.{Network, records_of}
use Rattle.network.specs.Answers.{accepted}
use Rattle.network.specs.Check.{check_records}
use Rattle.states.specs.Live.{base_state}
use Rattle.exchange.specs.declared.exchange.BranchExchange.{BranchExchange}
use Rattle.exchange.specs.declared.exchange.Trial.{Trial}
use Rattle.searches.specs.States.{state_of}
use Rattle.searches.specs.Given.{Held, Base}
use Rattle.states.specs.Listed.{switches_listed, few_switches}
use Rattle.states.specs.Switches.{State, swapped}
use Rattle.searches.specs.StateLaws.{held, state_held}
use Rattle.exchange.specs.Exchange.{round_of, Exchange, after_round, next, exchange_start, exchange}
use Rattle.numbers.specs.IfSome.{IfSome}
use Rattle.states.specs.BaseLaws.{base_good}
use Rattle.searches.specs.RoundLaws.{Left, left_all, held_ended, held_none, held_less}
use Rattle.exchange.specs.ExchangeLaws.{Swap, round_swaps}
use Rattle.exchange.specs.ExchangeValues.{trial_of, current_of, exchange_of}

-- ---- the rounds
-- a round more, wherever the exchange stands: the trial that was found is what the next round begins with, and without one the search ends
pub counted : (N : Network) (x : Exchange) (last : Option State) (y : BranchExchange) (step : Option Trial) (r : BranchExchange) → y ≡ exchange_of x → step ≡ trial_of N last
    → ((t : Trial) → step ≡ Some t → r ≡ record { current = t; rounds = y.rounds + 1 })
    → (step ≡ None → r ≡ record { current = y.current; rounds = y.rounds + 1 })
    → (r ≡ exchange_of (after_round N x last)) × ((after_round N x last).ended ≡ not (is_some step))
unfolding exchange_of after_round trial_of
counted N x None y step r e q t f = (f q ∙ rw (e, add-one), rw q)
counted N x (Some s) y step r e q t f = (t _ q ∙ rw (e, add-one), rw q)

round_counts : (N : Network) (x : Exchange) (last : Option State) → (after_round N x last).rounds ≡ suc x.rounds
unfolding after_round
round_counts N x None = refl
round_counts N x (Some t) = refl

round_long : (N : Network) (x : Exchange) → length (next N x).state ≡ length x.state
unfolding after_round swapped
round_long N x = go (round_of N x.state x.loss) (round_swaps N x.state x.loss)
  where
    go : (last : Option State) → IfSome (Swap N x.state) last → length (after_round N x last).state ≡ length x.state
    go None w = refl
    go (Some t) w = ap length w.result ∙ length-set (set x.state w.tie 0) w.section 1 ∙ length-set x.state w.tie 0

-- after k rounds those that are left lead to the definition's answer
abbrev RoundsLeft : PowerNetwork → ℕ → Exchange → Type 0
RoundsLeft n = Left (λ (x : Exchange). x.ended) (next (records_of n)) n.max_iterations (exchange (records_of n))

-- the code's y is where the exchange stands after k rounds, each with an improving trial
pub record Standing (n : PowerNetwork) (k : ℕ) (y : Trial) : Type 0 where
  pub at : Exchange
  pub held_by : y ≡ current_of at
  pub counted : at.rounds ≡ k
  pub going : at.ended ≡ false
  pub long : length at.state ≡ n.switch_count
  pub left : RoundsLeft n k at

module _ (n : PowerNetwork) (ok : check_records (records_of n) ≡ accepted tt) where
  few : n.switch_count ≤ 512
  few = few_switches n ok

  base_long : length (base_state (records_of n)) ≡ n.switch_count
  base_long = (base_good (records_of n)).long ∙ switches_listed n

  pub standing_base : (c : NetworkConfiguration) (loss : Float) → Base n c loss → Standing n 0 (record { configuration = c; loss = loss })
  unfolding exchange records_of
  standing_base c loss b = record {
    at = exchange_start (records_of n);
    held_by = rw (b.0, b.1);
    counted = refl;
    going = refl;
    long = base_long;
    left = left_all _ _ _ _ (exchange_start (records_of n)) refl;
  }

  module _ (k : ℕ) (y : Trial) (w : Standing n k y) where
    pub standing_held : Held n y.configuration
    standing_held = rw w.held_by (held n w.at.state w.long few)

    pub standing_done : k ≡ n.max_iterations → record { current = y; rounds = n.max_iterations } ≡ exchange_of (exchange (records_of n))
    unfolding exchange_of
    standing_done e =
        ap (λ r. record { current = y; rounds = r }) (sym e ∙ sym w.counted)
        ∙ rw w.held_by (ap exchange_of (held_none _ _ _ _ _ w.at w.left (λ x. x) (λ x. x.ended) (λ x. refl) w.at refl (omega arith)))

    module _ (more : k < n.max_iterations) (step : Option Trial) (q : step ≡ trial_of (records_of n) (round_of (records_of n) (state_of n y.configuration) y.loss)) where
      after : RoundsLeft n (suc k) (next (records_of n) w.at)
      after = held_less _ _ _ _ k w.at w.left (λ x. x) (λ x. x.ended) (λ x. refl) w.at refl more w.going

      same_round : step ≡ trial_of (records_of n) (round_of (records_of n) w.at.state w.at.loss)
      same_round =
          q
          ∙ ap (λ (z : Trial). trial_of (records_of n) (round_of (records_of n) (state_of n z.configuration) z.loss)) w.held_by
          ∙ ap (λ s. trial_of (records_of n) (round_of (records_of n) s w.at.loss)) (state_held n w.at.state w.long few)

      -- a round without an improving trial ends the search
      pub standing_ended : step ≡ None → record { current = y; rounds = k + 1 } ≡ exchange_of (exchange (records_of n))
      unfolding exchange_of after_round trial_of
      standing_ended e = go (round_of (records_of n) w.at.state w.at.loss) refl (sym same_round ∙ e)
        where
          go : (found : Option State) → round_of (records_of n) w.at.state w.at.loss ≡ found → trial_of (records_of n) found ≡ None → record { current = y; rounds = k + 1 } ≡ exchange_of (exchange (records_of n))
          go None f h =
              let ended : (next (records_of n) w.at).ended ≡ true = rw f in
              let end = held_ended _ _ _ _ _ (next (records_of n) w.at) after (λ x. x) (λ x. x.ended) (λ x. refl) _ refl ended in
              rw (w.held_by, add-one, ← w.counted) (ap (λ found. exchange_of (after_round (records_of n) w.at found)) (sym f) ∙ ap exchange_of end)
          go (Some t) f h = absurd (cc)

      pub standing_next : {t : Trial} → step ≡ Some t → Standing n (k + 1) t
      unfolding after_round trial_of
      standing_next {t} e = go (round_of (records_of n) w.at.state w.at.loss) refl (sym same_round ∙ e)
        where
          go : (found : Option State) → round_of (records_of n) w.at.state w.at.loss ≡ found → trial_of (records_of n) found ≡ Some t → Standing n (k + 1) t
          go None f h = absurd (cc)
          go (Some s) f h =
              record {
                at = next (records_of n) w.at;
                held_by = rw f (cc);
                counted = round_counts (records_of n) w.at _ ∙ rw (w.counted, add-one);
                going = rw f;
                long = round_long (records_of n) w.at ∙ w.long;
                left = rw add-one after;
              }
