-- With document 01's ranges a load of at most 256 buses and a branch's term are finite, and no term is below zero. From the bounds and signs of
-- the float operations.
use Rattle.std.specs.Prelude.{◌≡◌, refl, Bool, true, false, List, ℕ, suc, ◌*◌, ◌^◌, ◌≤◌, ◌<◌, Float, length, get_or}
use Rattle.std.proofs.Common.{inl, inr, mul-one, arith, lit<, lit≤}
use Rattle.std.specs.Float.Ieee.{binary64, unlike, add, mul, div}
use Rattle.numbers.specs.Bounds.{Within, within_more, within_finite, holds64, add_within, mul_within, div_within}
use Rattle.numbers.specs.Constants.{zero64}
use Rattle.numbers.specs.Signs.{HasSign, NonNeg, sign_nonneg, zero_nonneg, within_sign, plus_or_zero, mul_sign}
use Rattle.numbers.specs.Sums.{zero_within}
use Rattle.numbers.specs.UpTo.{up_to_keeps}
use Rattle.network.specs.Limits.{ok_base, ok_load, ok_r}
use Rattle.graph.specs.Walk.{Visit, start_at}
use Rattle.losses.specs.InRange.{base_within, base_far, load_within, r_within, r_nonneg}
use Rattle.losses.specs.Loss.{walk_load, term_of}

-- ---- a load: at most 256 summands, each within a million
load_step : (i : ℕ) {t x : Float} → i < 256 → Within (i * 1000000) t → Within 1000000 x → Within (suc i * 1000000) (add binary64 t x)
load_step i h w k = rw mul-one at (add_within binary64 (suc i * 1000000) 0 (holds64 _ 0 (omega arith) (lit≤ tt)) (omega arith) w k)

pub walk_load_within : (pd : ℕ → Float) (o : List Visit) → length o ≤ 256 → ((i : ℕ) → i < length o → ok_load (pd (get_or o i (start_at 0)).bus) ≡ true) → Within 256000000 (walk_load pd o)
unfolding walk_load
walk_load_within pd o h ok =
    within_more (omega arith) (up_to_keeps (λ n t. Within (n * 1000000) t) _ zero64 (length o) zero_within (λ i t l w. load_step i (omega arith) w (load_within (ok i l))))

-- ---- a term
-- a factor that stands twice leaves the sign
sign_again : (a b : Bool) → unlike (unlike (unlike a b) b) false ≡ a
sign_again true true = refl
sign_again true false = refl
sign_again false true = refl
sign_again false false = refl

module _ (r load base : Float) (R : ok_r r ≡ true) (L : Within 256000000 load) (B : ok_base base ≡ true) where
  p_within : Within 256000000000 (div binary64 load base)
  p_within = div_within binary64 256000000000 0 (lit< tt, lit< tt) (lit≤ tt) L (base_far B).1

  -- n bounds r
  module _ (n : ℕ) (h : n ≤ 1000) (w : Within n r) where
    once_within : Within (n * 2 ^ 38) (mul binary64 r (div binary64 load base))
    once_within = mul_within binary64 n 38 (holds64 n 38 (omega arith) (lit≤ tt)) (omega arith) w p_within

    twice_within : Within (n * 2 ^ 76) (mul binary64 (mul binary64 r (div binary64 load base)) (div binary64 load base))
    twice_within = mul_within binary64 n 76 (holds64 n 76 (omega arith) (lit≤ tt)) (omega arith) once_within p_within

    pub term_within : Within (n * 2 ^ 96) (term_of r load base)
    unfolding term_of
    term_within = mul_within binary64 n 96 (holds64 n 96 (omega arith) (lit≤ tt)) (omega arith) twice_within (base_within B)

    -- the term's sign is r's
    term_sign : {s : Bool} → HasSign s r → HasSign s (term_of r load base)
    unfolding term_of
    term_sign {s} g =
        let q = within_sign p_within in
        let a = mul_sign binary64 g q.1 (within_finite once_within) in
        let b = mul_sign binary64 a q.1 (within_finite twice_within) in
        rw (sign_again s q.0) at (mul_sign binary64 b (base_far B).0 (within_finite term_within))

  pub term_nonneg : NonNeg (term_of r load base)
  term_nonneg =
      elim (plus_or_zero (r_nonneg R)) [
        | inl g ↦ sign_nonneg (term_sign 1000 (lit≤ tt) (r_within R) g)
        | inr w ↦ zero_nonneg (term_within 0 (lit≤ tt) w)
      ]
