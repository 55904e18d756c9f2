-- The sign of a float, of a rounded fraction and of a product.
use Rattle.std.specs.Prelude.{◌≡◌, refl, ◌⊎◌, Bool, true, false, ℕ, zero, suc, ◌*◌, ◌<◌, ℤ, T, Float}
use Rattle.std.proofs.Common.{inl, inr, zero-lt-suc, mul-pos, arith}
use Rattle.std.specs.Float.{nan, inf, fin, Format}
use Rattle.std.specs.Float.Ieee.{unlike, round, mul}
use Rattle.std.specs.Float.Ieee.Fits.{up_pos}
use Rattle.std.specs.Float.Ieee.Scale.{finite}
use Rattle.numbers.specs.Bounds.{Within, within, signed, round_signed}

-- finite, with the sign s: true is minus
pub data HasSign (s : Bool) : Float → Type 0 where
  sign : {m : ℕ} {e : ℤ} → HasSign s (fin s m e)

-- finite and not below zero: a zero may have either sign
pub data NonNeg : Float → Type 0 where
  plus : {m : ℕ} {e : ℤ} → NonNeg (fin false m e)
  minus_zero : {m : ℕ} {e : ℤ} → m ≡ 0 → NonNeg (fin true m e)

pub sign_nonneg : {x : Float} → HasSign false x → NonNeg x
sign_nonneg sign = plus

pub plus_or_zero : {x : Float} → NonNeg x → HasSign false x ⊎ Within 0 x
plus_or_zero plus = inl sign
plus_or_zero (minus_zero {m = m} {e = e} z) = inr (within {m = m} {e = e} (rw z (omega arith)))

pub within_sign : {n : ℕ} {x : Float} → Within n x → (s : Bool) × HasSign s x
within_sign (within {s = s} w) = (s, sign)

pub product_zero : (m u : ℕ) → 0 < u → m * u ≡ 0 → m ≡ 0
product_zero zero u p h = refl
product_zero (suc m) u p h = absurd (omega (arith, mul-pos (zero-lt-suc m) p))

pub zero_nonneg : {x : Float} → Within 0 x → NonNeg x
zero_nonneg (within {s = false} w) = plus
zero_nonneg (within {s = true} {m = m} {e = e} w) = minus_zero (product_zero m _ (up_pos e) (omega arith))

signed_sign : (s : Bool) (x : Float) → T (finite (signed s x)) → HasSign s (signed s x)
signed_sign s nan p = absurd p
signed_sign s (inf t) p = absurd p
signed_sign s (fin t m e) p = sign

pub round_sign : (f : Format) (s : Bool) (num den : ℕ) → T (finite (round f s num den)) → HasSign s (round f s num den)
round_sign f s num den p = rw (round_signed f s num den) (signed_sign s (round f false num den) (rw (round_signed f s num den) at p))

pub mul_sign : (f : Format) {s t : Bool} {x y : Float} → HasSign s x → HasSign t y → T (finite (mul f x y)) → HasSign (unlike s t) (mul f x y)
unfolding mul
mul_sign f sign sign p = round_sign f _ _ _ p
