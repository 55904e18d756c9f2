-- A sum of a float with the sign plus and one that is not below zero has the sign plus, and a float with that sign is not below zero.
use Rattle.std.specs.Prelude.{◌≡◌, refl, false, ℕ, ◌+◌, ◌-◌, ◌*◌, ℤ, T, Float}
use Rattle.std.proofs.Common.{zero-mul, arith, lit≤, le-ltb}
use Rattle.std.specs.Float.{fin, Format}
use Rattle.std.specs.Float.Ieee.{up, down, round, sum, add, le, of_bits}
use Rattle.std.specs.Float.Ieee.Fits.{down_pos}
use Rattle.std.specs.Float.Ieee.Order.{le_of_values}
use Rattle.std.specs.Float.Ieee.Positive.{den}
use Rattle.std.specs.Float.Ieee.Scale.{finite}
use Rattle.numbers.specs.Constants.{zero64}
use Rattle.numbers.specs.Bounds.{Within, within}
use Rattle.numbers.specs.Signs.{HasSign, sign, NonNeg, plus, minus_zero, round_sign}

pub zero_within : Within 0 zero64
unfolding of_bits
zero_within = within (lit≤ tt)

pub zero_sign : HasSign false zero64
unfolding of_bits
zero_sign = sign

pub plus_above_zero : {x : Float} → HasSign false x → T (le zero64 x)
unfolding of_bits
plus_above_zero (sign {m = m} {e = e}) = le_of_values zero64 (fin false m e) 0 1 _ _ (omega arith) (down_pos e) (refl, refl) (refl, refl) (omega arith)

-- ---- the sum is `round` of a fraction that is not below zero
record Rounded (f : Format) (m : ℕ) (e : ℤ) (y : Float) : Type 0 where
  top : ℕ
  is : add f (fin false m e) y ≡ round f false top (down e * den y)

rounded : (f : Format) (m : ℕ) (e : ℤ) {y : Float} → NonNeg y → Rounded f m e y
unfolding add sum
rounded f m e (plus {m = n} {e = d}) = record { top = m * up e * down d + n * up d * down e; is = refl }
rounded f m e (minus_zero {m = n} {e = d} z) =
    let a = m * up e * down d in
    let b = n * up d * down e in
    let h : b ≡ 0 = rw z (simp zero-mul) in
    record { top = a - b; is = rw (le-ltb a b (omega arith)) }

pub add_sign : (f : Format) {x y : Float} → HasSign false x → NonNeg y → T (finite (add f x y)) → HasSign false (add f x y)
add_sign f (sign {m = m} {e = e}) n p =
    let g = rounded f m e n in
    rw g.is (round_sign f false _ _ (rw g.is at p))
