-- From a radial base the exhaustive search answers the base: mask 0 is the base, and every other radial mask has its live branches, so that its loss is not below.
-- `exhaustive_of_radial` is a fact for the reader: no proof uses it.
use Rattle.std.specs.Prelude.{◌≡◌, ◌⊎◌, Bool, ◌&&◌, ℕ, suc, ◌^◌}
use Rattle.std.proofs.Math.Path.{refl, sym}
use Rattle.std.proofs.Common.{◌∙◌, inl, arith, pow_pos}
use Rattle.std.proofs.Math.Logic.{inr}
use Rattle.std.proofs.Math.Bool.{true, false, not}
use Rattle.std.specs.Prelude.{None, Some}
use Rattle.std.proofs.Math.Nat.{zero-div}
use Rattle.numbers.specs.Counts.{count}
use Rattle.numbers.specs.TableLaws.{as_table}
use Rattle.numbers.specs.Tests.{clash}
use Rattle.numbers.specs.UpTo.{up_to_keeps}
use Rattle.network.specs.Records.{Network}
use Rattle.network.specs.Inside.{Inside}
use Rattle.states.specs.Live.{state_byte, base_state}
use Rattle.states.specs.LiveLaws.{base_byte}
use Rattle.states.specs.Switches.{is_tie, size}
use Rattle.feeders.specs.Feeder.{radial_in}
use Rattle.losses.specs.Loss.{loss_in}
use Rattle.exhaustive.specs.Exhaustive.{bit, tie_count, masked, with_loss, Exhaustive, try_mask, exhaustive, least_or_base}
use Rattle.searches.specs.Floats.{lt_self}
use Rattle.searches.specs.Rounds.{lesser_by}
use Rattle.states.specs.BaseLaws.{base_good}
use Rattle.searches.specs.LiveBranches.{same_loss, radial_part_same}
use Rattle.exhaustive.specs.ExhaustiveLaws.{masked_more}

module _ (N : Network) where
  -- mask 0 is the base
  pub masked_none : masked N 0 ≡ base_state N
  unfolding masked
  masked_none = sym (as_table _ (size N) 0 (base_state N) (base_good N).long (λ i l. base_byte N i ∙ go i (is_tie N i)))
    where
      go : (i : ℕ) (tie : Bool) → state_byte tie ≡ state_byte (tie && not (bit 0 (count (is_tie N) i)))
      go i true = rw (zero-div (2 ^ count (is_tie N) i))
      go i false = refl

  module _ (inside : Inside N) (r : radial_in N (base_state N) ≡ true) where
    masked_loss : (mask : ℕ) → radial_in N (masked N mask) ≡ true → loss_in N (masked N mask) ≡ loss_in N (base_state N)
    masked_loss mask v = sym (same_loss N (base_state N) (masked N mask) (radial_part_same N inside (base_state N) (masked N mask) r v (masked_more N mask)))

    -- after mask 0 the least is the base's
    BaseLeast : ℕ → Exhaustive → Type 0
    BaseLeast n x = ((n ≡ 0) × (x.least ≡ None)) ⊎ (x.least ≡ Some (with_loss N (base_state N)))

    pub exhaustive_of_radial : least_or_base N (exhaustive N).least ≡ with_loss N (base_state N)
    unfolding exhaustive try_mask lesser_by least_or_base BaseLeast
    exhaustive_of_radial = ends (up_to_keeps BaseLeast (try_mask N) _ (2 ^ tie_count N) (inl (refl, refl)) (λ m x l h. try m x (radial_in N (masked N m)) refl h))
      where
        try : (m : ℕ) (x : Exhaustive) (b : Bool) → radial_in N (masked N m) ≡ b → BaseLeast m x → BaseLeast (suc m) (try_mask N x m)
        try m x true e (inl (z, n)) = inr (rw (e, n, z, masked_none))
        try m x true e (inr h) = inr (rw (e, h, masked_loss m e, lt_self))
        try m x false e (inl (z, n)) = clash r (rw (z, masked_none) at e)
        try m x false e (inr h) = inr (rw e h)

        ends : BaseLeast (2 ^ tie_count N) (exhaustive N) → least_or_base N (exhaustive N).least ≡ with_loss N (base_state N)
        ends (inl (z, n)) = absurd (omega (arith, pow_pos (tie_count N)))
        ends (inr h) = rw h
