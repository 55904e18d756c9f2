-- What a range test says of a float: how large it is, how far from zero, and its sign.
use Rattle.std.specs.Prelude.{◌≡◌, Bool, true, false, ◌&&◌, ◌||◌, ℕ, ◌*◌, ◌≤◌, ◌<◌, T, ltb, eqb, Float}
use Rattle.std.proofs.Common.{sym, ◌∙◌, inl, inr, le_trans, le_of_eq, le_of_lt, lt_of_lt_of_le, mul_comm, mul_right_comm, mul-le-mul_right, le_of_mul-le-mul_right, arith, eqb→eq, ltb→lt}
use Rattle.std.specs.Float.{nan, inf, fin}
use Rattle.std.specs.Float.Ieee.{up, down, of_bits, lt, eq, le}
use Rattle.std.specs.Float.Ieee.Fits.{up_pos, down_pos, and_l, and_r}
use Rattle.std.specs.Float.Ieee.Positive.{first_pos}
use Rattle.std.specs.Float.Ieee.Scale.{finite}
use Rattle.numbers.specs.Constants.{zero64}
use Rattle.numbers.specs.Bounds.{Within, within, AtLeast, at_least, or_split, le_plus}
use Rattle.numbers.specs.Signs.{HasSign, sign, NonNeg, plus, minus_zero, product_zero}

-- ---- `le` by signs: -a ≤ -b, and a ≤ -b
le_minus : (a b : ℕ) → T (ltb b a || (eqb a b && true)) → b ≤ a
le_minus a b t = elim (or_split (ltb b a) (eqb a b && true) t) [ inl u ↦ le_of_lt (ltb→lt b a u) | inr u ↦ le_of_eq (sym (eqb→eq a b (and_l (eqb a b) true u))) ]

le_across : (a b : ℕ) → T (eqb a b && eqb a 0) → (a ≡ 0) × (b ≡ 0)
le_across a b t =
    let e : a ≡ 0 = eqb→eq a 0 (and_r (eqb a b) (eqb a 0) t) in
    (e, sym (eqb→eq a b (and_l (eqb a b) (eqb a 0) t)) ∙ e)

pub lt_le : (x y : Float) → T (lt x y) → T (le x y)
unfolding le
lt_le x y t = go (lt x y) (eq x y) t
  where
    go : (a b : Bool) → T a → T (a || b)
    go true b t = tt
    go false b t = absurd t

-- a / c ≤ b / d ≤ n
under_bound : (a c b d n : ℕ) → 0 < d → a * d ≤ b * c → b ≤ n * d → a ≤ n * c
under_bound a c b d n D h k = le_of_mul-le-mul_right (le_trans h (le_trans (mul-le-mul_right c k) (le_of_eq (mul_right_comm n d c)))) D

none_under : (a c d n : ℕ) → 0 < d → a * d ≡ 0 → a ≤ n * c
none_under a c d n D h = omega (arith, product_zero a d D h)

-- ---- a range whose ends are at most n in size
pub range_within : {n : ℕ} {low high : Float} (x : Float) → Within n low → Within n high → T (le low x) → T (le x high) → Within n x
unfolding le
range_within nan (within u) (within v) h k = absurd k
range_within (inf true) (within u) (within v) h k = absurd h
range_within (inf false) (within u) (within v) h k = absurd k
range_within {n = n} (fin false m e) (within u) (within {s = false} {m = o} {e = d} v) h k = within (under_bound (m * up e) (down e) (o * up d) (down d) n (down_pos d) (le_plus _ _ k) v)
range_within {n = n} (fin false m e) (within u) (within {s = true} {m = o} {e = d} v) h k = within (none_under (m * up e) (down e) (down d) n (down_pos d) (le_across _ _ k).0)
range_within {n = n} (fin true m e) (within {s = true} {m = o} {e = d} u) (within v) h k = within (under_bound (m * up e) (down e) (o * up d) (down d) n (down_pos d) (le_minus _ _ h) u)
range_within {n = n} (fin true m e) (within {s = false} {m = o} {e = d} u) (within v) h k = within (none_under (m * up e) (down e) (down d) n (down_pos d) (le_across _ _ h).1)

-- ---- above a lower end that is above zero: above zero, and as far from it
further : (a d b c g : ℕ) → 0 < d → d ≤ a * g → a * c ≤ b * d → c ≤ b * g
further a d b c g D h k =
    let x : c * d ≤ a * c * g = le_trans (le_of_eq (mul_comm c d)) (le_trans (mul-le-mul_right c h) (le_of_eq (mul_right_comm a g c))) in
    le_of_mul-le-mul_right (le_trans x (le_trans (mul-le-mul_right g k) (le_of_eq (mul_right_comm b d g)))) D

pub above_low : {g : ℕ} {low : Float} (x : Float) → HasSign false low → AtLeast g low → T (finite x) → T (le low x) → HasSign false x × AtLeast g x
unfolding le
above_low nan s (at_least a) p h = absurd p
above_low (inf t) s (at_least a) p h = absurd p
above_low {g = g} (fin true m e) sign (at_least {m = k} {e = d} a) p h =
    let z : k * up d ≡ 0 = product_zero (k * up d) (down e) (down_pos e) (le_across _ _ h).0 in
    absurd (omega (arith, first_pos (k * up d) g (lt_of_lt_of_le (down_pos d) a)))
above_low {g = g} (fin false m e) sign (at_least {m = k} {e = d} a) p h = (sign, at_least (further (k * up d) (down d) (m * up e) (down e) g (down_pos d) a (le_plus _ _ h)))

pub above_zero : (x : Float) → T (finite x) → T (le zero64 x) → NonNeg x
unfolding le of_bits
above_zero nan p h = absurd p
above_zero (inf t) p h = absurd p
above_zero (fin false m e) p h = plus
above_zero (fin true m e) p h =
    let z : m * up e * 1 ≡ 0 = (le_across (0 * 1 * down e) (m * up e * 1) h).1 in
    minus_zero (product_zero m (up e) (up_pos e) (omega arith))
