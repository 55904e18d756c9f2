-- What the exhaustive search answers: the base, or a radial state with some of its ties closed.
use Rattle.std.specs.Prelude.{◌≡◌, Bool, ◌&&◌, ℕ, ◌<◌, ◌^◌}
use Rattle.std.proofs.Math.Path.{refl}
use Rattle.std.proofs.Common.{sym, ◌∙◌}
use Rattle.std.proofs.Math.Bool.{true, false, not}
use Rattle.std.specs.Prelude.{Option, None, Some}
use Rattle.numbers.specs.Counts.{count}
use Rattle.numbers.specs.TableLaws.{length_table, get_or_table}
use Rattle.numbers.specs.UpTo.{up_to_keeps}
use Rattle.network.specs.Records.{Network}
use Rattle.states.specs.Live.{state_byte, live, base_state}
use Rattle.states.specs.LiveLaws.{base_byte}
use Rattle.states.specs.Switches.{byte, size, is_tie, GoodState}
use Rattle.feeders.specs.Feeder.{radial_in}
use Rattle.losses.specs.Loss.{loss_in}
use Rattle.states.specs.LiveBytes.{live_less}
use Rattle.exhaustive.specs.Exhaustive.{bit, tie_count, masked_byte, masked, Least, with_loss, Exhaustive, try_mask, exhaustive, least_or_base, exhaustive_best}
use Rattle.numbers.specs.IfSome.{IfSome}
use Rattle.states.specs.BaseLaws.{state_byte_lem, base_good}
use Rattle.searches.specs.LesserLaws.{lesser_holds}
use Rattle.searches.specs.Results.{SoundBest}

module _ (N : Network) where
  module _ (mask : ℕ) where
    pub masked_byte_lem : (i : ℕ) → i < size N → byte (masked N mask) i ≡ masked_byte N mask i
    unfolding masked
    masked_byte_lem i l = get_or_table _ (size N) i 0 l

    pub masked_good : GoodState N (masked N mask)
    masked_good = record { long = unfold masked in length_table _ (size N); bytes = λ i l. rw (masked_byte_lem i l) (state_byte_lem (is_tie N i && not (bit mask (count (is_tie N) i)))) }

    -- a mask opens ties only, and those are open in the base
    masked_open : (i : ℕ) → i < size N → byte (masked N mask) i ≡ 1 → byte (base_state N) i ≡ 1
    masked_open i l e = base_byte N i ∙ go (is_tie N i) (bit mask (count (is_tie N) i)) (sym (masked_byte_lem i l) ∙ e)
      where
        go : (tie closed : Bool) → state_byte (tie && not closed) ≡ 1 → state_byte tie ≡ 1
        go true closed e = refl
        go false closed e = e

    -- so that what is live in the base is live
    pub masked_more : (k : ℕ) → live N (base_state N) k ≡ true → live N (masked N mask) k ≡ true
    masked_more k h = live_less N (masked N mask) (base_state N) k (λ i o. masked_open i o.listed) h

  -- in state b all that is live in the base is live; from a radial base b is radial
  pub record Closes (b : Least) : Type 0 where
    pub good : GoodState N b.state
    pub more : (k : ℕ) → live N (base_state N) k ≡ true → live N b.state k ≡ true
    pub radial : radial_in N (base_state N) ≡ true → radial_in N b.state ≡ true
    pub loses : b.loss ≡ loss_in N b.state

  pub exhaustive_closes : Closes (least_or_base N (exhaustive N).least)
  unfolding exhaustive try_mask least_or_base
  exhaustive_closes = or_base (exhaustive N).least (up_to_keeps (λ n x. IfSome Closes x.least) (try_mask N) _ (2 ^ tie_count N) tt (λ m x l h. try m x h (radial_in N (masked N m)) refl))
    where
      try : (m : ℕ) (x : Exhaustive) → IfSome Closes x.least → (b : Bool) → radial_in N (masked N m) ≡ b → IfSome Closes (try_mask N x m).least
      try m x h true e = rw e (lesser_holds Closes _ x.least (with_loss N (masked N m)) h (record { good = masked_good m; more = masked_more m; radial = λ r. e; loses = refl }))
      try m x h false e = rw e h

      or_base : (found : Option Least) → IfSome Closes found → Closes (least_or_base N found)
      or_base None h = record { good = base_good N; more = λ k l. l; radial = λ r. r; loses = refl }
      or_base (Some b) h = h

  pub exhaustive_sound : SoundBest N (exhaustive_best N)
  unfolding exhaustive_best
  exhaustive_sound = record { good = exhaustive_closes.good; radial = exhaustive_closes.radial }
