-- Every loss of an accepted network is finite and not below zero: a network inside document 01's limits meets `Limits`.
use Rattle.std.specs.Prelude.{◌≡◌, refl, Bool, not, List, ℕ, ◌^◌, T, length, get_or}
use Rattle.std.specs.Prelude.{Option, None, Some}
use Rattle.std.proofs.Common.{arith}
use Rattle.std.specs.Float.Ieee.{le, is_nan}
use Rattle.std.specs.Float.Ieee.Scale.{finite}
use Rattle.numbers.specs.Bounds.{Within, within_finite, within_no_nan}
use Rattle.numbers.specs.Constants.{zero64}
use Rattle.network.specs.Answers.{accepted}
use Rattle.network.specs.Check.{check_records}
use Rattle.network.specs.Inside.{Inside}
use Rattle.network.specs.InsideLaws.{check_inside}
use Rattle.states.specs.Live.{live}
use Rattle.network.specs.EachLaws.{each_at}
use Rattle.network.specs.Records.{Network, no_bus, no_branch}
use Rattle.graph.specs.Graph.{Sound}
use Rattle.graph.specs.SideLaws.{away_sound}
use Rattle.graph.specs.Sides.{away}
use Rattle.feeders.specs.Feeder.{position, feeder}
use Rattle.feeders.specs.FeederLaws.{feeder_sound}
use Rattle.losses.specs.Loss.{drawn_for, drawn, loss_in}
use Rattle.losses.specs.LossLaws.{Limits, loss_within, loss_above_zero}

module _ (N : Network) (inside : Inside N) where
  module _ (E : ℕ → Bool) where
    drawn_for_sound : (z : Option ℕ) → Sound (drawn_for N z E)
    drawn_for_sound None = feeder_sound N inside
    drawn_for_sound (Some id) = away_sound (feeder N) E (position N id) (feeder_sound N inside)

    drawn_for_size : (z : Option ℕ) → ((drawn_for N z E).buses ≡ length N.buses) × ((drawn_for N z E).branches ≡ length N.branches)
    unfolding feeder away
    drawn_for_size None = (refl, refl)
    drawn_for_size (Some id) = (refl, refl)

    -- however the branches are drawn
    limits : Limits (drawn N E) (λ i. (get_or N.buses i no_bus).pd.0) (λ k. (get_or N.branches k no_branch).r) N.base
    unfolding drawn
    limits =
        let size = drawn_for_size N.supply in
        record {
          sound = drawn_for_sound N.supply;
          buses = omega (arith, inside.counts.0, size.0);
          branches = omega (arith, inside.counts.1, size.1);
          base_ok = inside.base;
          loads = λ i l. each_at _ N.buses inside.loads i no_bus (omega (arith, size.0));
          resistances = λ k l. each_at _ N.branches inside.resistances k no_branch (omega (arith, size.1));
        }

  pub accepted_loss_within : (s : List ℕ) → Within (2 ^ 115) (loss_in N s)
  unfolding loss_in
  accepted_loss_within s = loss_within (drawn N (live N s)) (live N s) _ _ N.base (limits (live N s))

  accepted_loss_above_zero : (s : List ℕ) → T (le zero64 (loss_in N s))
  unfolding loss_in
  accepted_loss_above_zero s = loss_above_zero (drawn N (live N s)) (live N s) _ _ N.base (limits (live N s))

-- in every state of the switches; and so it is no NaN, and its bits can be written
pub loss_finite : (N : Network) → check_records N ≡ accepted tt → (s : List ℕ)
    → T (finite (loss_in N s)) × T (le zero64 (loss_in N s)) × T (not (is_nan (loss_in N s)))
loss_finite N ok s =
    let inside = (check_inside N).0 ok in
    let size = accepted_loss_within N inside s in
    (within_finite size, accepted_loss_above_zero N inside s, within_no_nan size)
