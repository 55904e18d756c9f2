-- How large the result of a float operation can be. Each law takes bounds of the operands to a whole number q * 2 ^ k that bounds the result:
-- a number that the format holds rounds to itself, and `round` keeps the order.
use Rattle.std.specs.Prelude.{◌≡◌, refl, ◌⊎◌, Bool, true, false, not, ◌&&◌, ◌||◌, cond, ℕ, zero, suc, ◌+◌, ◌-◌, ◌*◌, ◌^◌, ◌≤◌, ◌<◌, ℤ, T, eqb, Float}
use Rattle.std.proofs.Common.{sym, ap, ◌∙◌, inl, inr, true≢false, le_trans, le_of_eq, le_of_lt, lt_of_lt_of_le, zero-lt-suc, mul-one, mul_comm, mul_assoc, mul_left_comm, mul_right_comm, add-mul, mul-le-mul, mul-le-mul_right, le_of_mul-le-mul_right, mul-lt-mul_of_pos_right, mul-pos, arith, eqb→eq, ltb→lt, pow-add, pow_pos, pow_mono}
use Rattle.std.specs.Bool.{beq}
use Rattle.std.proofs.Math.Nat.{mul-mul-mul_comm}
use Rattle.std.proofs.Math.Dec.{ltb, eqb-suc-zero}
use Rattle.std.specs.Float.{nan, inf, fin, Format, binary64}
use Rattle.std.specs.Float.Ieee.{prec, emax, low, unlike, up, down, odd, units, round, neg, sum, add, sub, mul, div, le, is_nan}
use Rattle.std.specs.Float.Ieee.Fits.{down_pos, and_l, round_is}
use Rattle.std.specs.Float.Ieee.Exact.{HasValue, round_exact}
use Rattle.std.specs.Float.Ieee.Order.{round_mono}
use Rattle.std.specs.Float.Ieee.Positive.{first_pos}
use Rattle.std.specs.Float.Ieee.Scale.{finite}

-- finite, and at most n in size
pub data Within (n : ℕ) : Float → Type 0 where
  within : {s : Bool} {m : ℕ} {e : ℤ} → m * up e ≤ n * down e → Within n (fin s m e)

-- finite, and at least 1 / g in size
pub data AtLeast (g : ℕ) : Float → Type 0 where
  at_least : {s : Bool} {m : ℕ} {e : ℤ} → down e ≤ m * up e * g → AtLeast g (fin s m e)

pub within_more : {a b : ℕ} {x : Float} → a ≤ b → Within a x → Within b x
within_more h (within {e = e} w) = within (le_trans w (mul-le-mul_right (down e) h))

pub within_finite : {n : ℕ} {x : Float} → Within n x → T (finite x)
within_finite (within w) = tt

pub within_no_nan : {n : ℕ} {x : Float} → Within n x → T (not (is_nan x))
unfolding is_nan
within_no_nan (within w) = tt

-- ---- `round` hands the sign on
abbrev pub signed : Bool → Float → Float
signed s nan = nan
signed s (inf t) = inf s
signed s (fin t m e) = fin s m e

odd_signed : (d : ℕ) (s : Bool) (q k l : ℕ) → odd d s q k l ≡ signed s (odd d false q k l)
unfolding odd
odd_signed d s zero k l = refl
odd_signed d s (suc q) k l = refl

units_signed : (f : Format) (s : Bool) (q k : ℕ) → units f s q k ≡ signed s (units f false q k)
unfolding units
units_signed f s q k = go (ltb (q * 2 ^ k) (2 ^ (low f + suc (emax f))))
  where
    go : (b : Bool) → cond b (odd (suc (prec f)) s q k (low f)) (inf s) ≡ signed s (cond b (odd (suc (prec f)) false q k (low f)) (inf false))
    go true = odd_signed (suc (prec f)) s q k (low f)
    go false = refl

pub round_signed : (f : Format) (s : Bool) (num den : ℕ) → round f s num den ≡ signed s (round f false num den)
round_signed f s num den = round_is f s num den ∙ units_signed f s _ _ ∙ ap (signed s) (sym (round_is f false num den))

-- ---- `round`
pub or_split : (a b : Bool) → T (a || b) → T a ⊎ T b
or_split true b t = inl tt
or_split false b t = inr t

pub le_plus : (a b : ℕ) → T (ltb a b || (eqb a b && true)) → a ≤ b
le_plus a b t = elim (or_split (ltb a b) (eqb a b && true) t) [ inl u ↦ le_of_lt (ltb→lt a b u) | inr u ↦ le_of_eq (eqb→eq a b (and_l (eqb a b) true u)) ]

under : (s : Bool) (x y : Float) (n : ℕ) → T (le (signed false x) y) → HasValue y false n 1 → Within n (signed s x)
unfolding le
under s nan y n h v = absurd h
under s (inf t) nan n h v = absurd v
under s (inf t) (inf u) n h v = absurd v
under s (inf t) (fin u m e) n h v = absurd h
under s (fin t m e) nan n h v = absurd v
under s (fin t m e) (inf u) n h v = absurd v
under s (fin t m e) (fin true k d) n h v = absurd (true≢false v.0)
under s (fin t m e) (fin false k d) n h v =
    let a : m * up e * down d ≤ k * up d * down e = le_plus _ _ h in
    let b : k * up d ≡ n * down d = sym (mul-one (k * up d)) ∙ v.1 in
    within (le_of_mul-le-mul_right (le_trans a (le_of_eq (ap (λ (z : ℕ). z * down e) b ∙ mul_right_comm n (down d) (down e)))) (down_pos d))

-- ---- fractions
-- a / c and b / d are at most A and B
added : (a c b d A B n : ℕ) → a ≤ A * c → b ≤ B * d → A + B ≤ n → a * d + b * c ≤ n * (c * d)
added a c b d A B n h k l =
    let x : a * d ≤ A * (c * d) = le_trans (mul-le-mul_right d h) (le_of_eq (mul_assoc A c d)) in
    let y : b * c ≤ B * (c * d) = le_trans (mul-le-mul_right c k) (le_of_eq (mul_assoc B d c ∙ ap (λ (z : ℕ). B * z) (mul_comm d c))) in
    let z : (A + B) * (c * d) ≤ n * (c * d) = mul-le-mul_right (c * d) l in
    omega (arith, add-mul A B (c * d))

-- a / c is at most A, and b / d is at least 1 / g
divided : (a c b d A g n : ℕ) → a ≤ A * c → d ≤ b * g → A * g ≤ n → a * d ≤ n * (b * c)
divided a c b d A g n h k l =
    let e : A * c * (b * g) ≡ A * g * (b * c) = simp (mul_assoc, mul_comm, mul_left_comm) in
    le_trans (mul-le-mul h k) (le_trans (le_of_eq e) (mul-le-mul_right (b * c) l))

not_zero : (n : ℕ) → 0 < n → eqb n 0 ≡ false
not_zero zero h = absurd (omega arith)
not_zero (suc n) h = eqb-suc-zero n

cond_within : {n : ℕ} (b : Bool) {x y : Float} → Within n x → Within n y → Within n (cond b x y)
cond_within true u v = u
cond_within false u v = v

-- the format holds the whole number q * 2 ^ k
abbrev pub Holds : Format → ℕ → ℕ → Type 0
Holds f q k = (q < 2 ^ prec f) × (q * 2 ^ k < 2 ^ suc (emax f))

pub holds64 : (q k : ℕ) → q < 2 ^ 53 → k ≤ 970 → Holds binary64 q k
holds64 q k h l = (
  h,
  lt_of_lt_of_le (mul-lt-mul_of_pos_right h (pow_pos k)) (le_trans (le_of_eq (sym (pow-add 2 53 k))) (pow_mono {i = 53 + k} {j = 1024} (omega arith))),
)

module _ (f : Format) (q k : ℕ) (held : Holds f q k) where
  bound_exact : HasValue (round f false (q * 2 ^ k) 1) false (q * 2 ^ k) 1
  bound_exact =
      let e : q * 2 ^ (k + low f) ≡ q * 2 ^ k * 2 ^ low f = rw (pow-add 2 k (low f), mul_assoc) in
      let r : q * 2 ^ k * 2 ^ low f < 2 ^ (low f + suc (emax f)) = rw (pow-add 2 (low f) (suc (emax f)), mul_comm (2 ^ low f)) (mul-lt-mul_of_pos_right held.1 (pow_pos (low f))) in
      round_exact f false (q * 2 ^ k) 1 q (k + low f) (zero-lt-suc 0) held.0 (rw e r) (rw (e, mul-one))

  round_within : (s : Bool) (num den : ℕ) → 0 < den → num ≤ q * 2 ^ k * den → Within (q * 2 ^ k) (round f s num den)
  round_within s num den d h =
      let l : T (le (round f false num den) (round f false (q * 2 ^ k) 1)) = round_mono f num den (q * 2 ^ k) 1 d (zero-lt-suc 0) (rw (mul-one num) h) in
      rw (round_signed f s num den) (under s (round f false num den) _ _ (rw (round_signed f false num den) at l) bound_exact)

  -- ---- the operations
  sum_within : (s : Bool) (a : ℕ) (t : Bool) (b c : ℕ) → 0 < c → a + b ≤ q * 2 ^ k * c → Within (q * 2 ^ k) (sum f s a t b c)
  unfolding sum
  sum_within s a t b c pos h =
      cond_within (beq s t) (round_within s (a + b) c pos h)
      (cond_within (ltb a b) (round_within t (b - a) c pos (omega arith)) (round_within (s && ltb b a) (a - b) c pos (omega arith)))

  pub add_within : {A B : ℕ} {x y : Float} → A + B ≤ q * 2 ^ k → Within A x → Within B y → Within (q * 2 ^ k) (add f x y)
  unfolding add
  add_within {A = A} {B = B} h (within {s = s} {m = m} {e = e} u) (within {s = t} {m = n} {e = d} v) =
      sum_within s _ t _ _ (mul-pos (down_pos e) (down_pos d)) (added (m * up e) (down e) (n * up d) (down d) A B _ u v h)

  pub sub_within : {A B : ℕ} {x y : Float} → A + B ≤ q * 2 ^ k → Within A x → Within B y → Within (q * 2 ^ k) (sub f x y)
  unfolding sub neg
  sub_within h u (within v) = add_within h u (within v)

  pub mul_within : {A B : ℕ} {x y : Float} → A * B ≤ q * 2 ^ k → Within A x → Within B y → Within (q * 2 ^ k) (mul f x y)
  unfolding mul
  mul_within {A = A} {B = B} h (within {s = s} {e = e} u) (within {s = t} {e = d} v) =
      round_within (unlike s t) _ _ (mul-pos (down_pos e) (down_pos d))
      (le_trans (mul-le-mul u v) (le_trans (le_of_eq (mul-mul-mul_comm A (down e) B (down d))) (mul-le-mul_right (down e * down d) h)))

  pub div_within : {A g : ℕ} {x y : Float} → A * g ≤ q * 2 ^ k → Within A x → AtLeast g y → Within (q * 2 ^ k) (div f x y)
  unfolding div
  div_within {A = A} {g = g} h (within {s = s} {m = m} {e = e} u) (at_least {s = t} {m = n} {e = d} v) =
      let pos : 0 < n * up d = first_pos (n * up d) g (lt_of_lt_of_le (down_pos d) v) in
      rw (not_zero n (first_pos n (up d) pos))
      (round_within (unlike s t) _ _ (mul-pos pos (down_pos e)) (divided (m * up e) (down e) (n * up d) (down d) A g _ u v h))
