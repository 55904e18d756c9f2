-- Inside document 01's limits the loss is finite and not below zero. By counting up, from the laws of a term.
use Rattle.std.specs.Prelude.{◌≡◌, Bool, true, false, cond, ℕ, suc, ◌*◌, ◌^◌, ◌≤◌, ◌<◌, T, eqb, Float}
use Rattle.std.proofs.Common.{arith, lit≤}
use Rattle.std.specs.Float.{binary64}
use Rattle.std.specs.Float.Ieee.{add, le}
use Rattle.numbers.specs.Bounds.{Within, within_more, within_finite, holds64, add_within}
use Rattle.numbers.specs.Constants.{zero64}
use Rattle.numbers.specs.Signs.{HasSign, NonNeg}
use Rattle.numbers.specs.Sums.{zero_within, zero_sign, plus_above_zero, add_sign}
use Rattle.numbers.specs.UpTo.{up_to_keeps}
use Rattle.network.specs.Limits.{ok_base, ok_load, ok_r}
use Rattle.graph.specs.Graph.{Net, Sound}
use Rattle.graph.specs.Visits.{reached_at}
use Rattle.graph.specs.Walk.{start_at}
use Rattle.graph.specs.WalkLaws.{walk_below, walk_length}
use Rattle.losses.specs.InRange.{r_within}
use Rattle.losses.specs.Loss.{walk_load, downstream, term_of, total_of, loss}
use Rattle.losses.specs.TermLaws.{walk_load_within, term_within, term_nonneg}

-- ---- a running total: what holds of it after n branches
record Total (n : ℕ) (t : Float) : Type 0 where
  size : Within (n * 1000 * 2 ^ 96) t
  sign : HasSign false t

total_starts : Total 0 zero64
total_starts = record { size = within_more (omega arith) zero_within; sign = zero_sign }

-- a live branch adds its term
total_grows : (n : ℕ) {t x : Float} → n < 512 → Total n t → Within (1000 * 2 ^ 96) x → NonNeg x → Total (suc n) (add binary64 t x)
total_grows n {t} {x} h k w g =
    let s : Within (suc n * 1000 * 2 ^ 96) (add binary64 t x) = add_within binary64 (suc n * 1000) 96 (holds64 _ 96 (omega arith) (lit≤ tt)) (omega arith) k.size w in
    record { size = s; sign = add_sign binary64 k.sign g (within_finite s) }

-- a dead one adds nothing
total_stays : (n : ℕ) {t : Float} → Total n t → Total (suc n) t
total_stays n k = record { size = within_more (omega arith) k.size; sign = k.sign }

module _
    (E : ℕ → Bool) (r load : ℕ → Float) (base : Float) (n : ℕ) (few : n ≤ 512) (B : ok_base base ≡ true)
    (R : (k : ℕ) → k < n → ok_r (r k) ≡ true) (L : (k : ℕ) → k < n → Within 256000000 (load k))
  where
    one_branch : (k : ℕ) (t : Float) (b : Bool) → k < n → Total k t → Total (suc k) (cond b (add binary64 t (term_of (r k) (load k) base)) t)
    one_branch k t true l w =
        total_grows k (omega arith) w (term_within (r k) (load k) base (R k l) (L k l) B 1000 (lit≤ tt) (r_within (R k l))) (term_nonneg (r k) (load k) base (R k l) (L k l) B)
    one_branch k t false l w = total_stays k w

    total_holds : (m : ℕ) → m ≤ n → Total m (total_of E r load base m)
    unfolding total_of
    total_holds m l = up_to_keeps Total _ zero64 m total_starts (λ k t h w. one_branch k t (E k) (omega arith) w)

    total_within : Within (2 ^ 115) (total_of E r load base n)
    total_within = within_more (omega arith) (total_holds n (omega arith)).size

    total_sign : HasSign false (total_of E r load base n)
    total_sign = (total_holds n (omega arith)).sign

-- ---- the loss
-- document 01's limits and ranges
pub record Limits (N : Net) (pd r : ℕ → Float) (base : Float) : Type 0 where
  pub sound : Sound N
  pub buses : N.buses ≤ 256
  pub branches : N.branches ≤ 512
  pub base_ok : ok_base base ≡ true
  pub loads : (i : ℕ) → i < N.buses → ok_load (pd i) ≡ true
  pub resistances : (k : ℕ) → k < N.branches → ok_r (r k) ≡ true

module _ (N : Net) (E : ℕ → Bool) (pd r : ℕ → Float) (base : Float) (limits : Limits N pd r base) where
  branch_load_within : (k : ℕ) → k < N.branches → Within 256000000 (walk_load pd (downstream N E k))
  unfolding downstream
  branch_load_within k l =
      let h = (limits.sound k l).1 in
      walk_load_within pd (downstream N E k) (omega (arith, limits.buses, walk_length N E (N.to k) (N.from k) limits.sound h))
      (λ i m. limits.loads _ (walk_below N E (N.to k) (N.from k) limits.sound h _ (reached_at (downstream N E k) i (start_at 0) m)))

  zero_or : (P : Float → Type 0) (b : Bool) (t : Float) → P zero64 → P t → P (cond b zero64 t)
  zero_or P true t z h = z
  zero_or P false t z h = h

  pub loss_within : Within (2 ^ 115) (loss N E pd r base)
  unfolding loss
  loss_within =
      zero_or (Within (2 ^ 115)) (eqb N.buses 0) _ (within_more (omega arith) zero_within)
      (total_within E r _ base N.branches limits.branches limits.base_ok limits.resistances branch_load_within)

  loss_sign : HasSign false (loss N E pd r base)
  unfolding loss
  loss_sign =
      zero_or (HasSign false) (eqb N.buses 0) _ zero_sign
      (total_sign E r _ base N.branches limits.branches limits.base_ok limits.resistances branch_load_within)

  pub loss_above_zero : T (le zero64 (loss N E pd r base))
  loss_above_zero = plus_above_zero loss_sign
