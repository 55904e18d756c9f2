-- The last digits of a number: the last one of all, those before it, and the digits of a number that is put together of two.
use Rattle.std.specs.Prelude.{◌≡◌, [], ◌∷◌, ◌++◌, ℕ, zero, suc, ◌+◌, ◌*◌, ◌/◌, ◌%◌, ◌^◌, ◌<◌}
use Rattle.std.proofs.Common.{sym, ap, ◌∙◌, append-nil, append_assoc, arith, mod-lt, pow-suc, mul_comm, mul_assoc, zero-mul, zero-add, add-zero, add-suc, div-lt_iff_lt-mul, lit<}
use Rattle.std.proofs.Math.Nat.{div-div-eq-div-mul}
use Rattle.std.proofs.Math.Arith.{mod-mul, digits_div, digits_mod}
use Rattle.lines.specs.Hex.{digit, digits}
use Rattle.lines.specs.HexLaws.{pow_pos}
use Rattle.slices.specs.Written.{last_digits}

-- a number of no more than w digits
pub all_digits : (w n : ℕ) → n < 16 ^ w → last_digits w n ≡ digits w n
all_digits w n h = ap (digits w) (rw (zero-mul, zero-add) at (digits_mod 0 h))

-- the number without its last digit, and that digit
without_last : (w n : ℕ) → n % 16 ^ suc w ≡ n / 16 % 16 ^ w * 16 + n % 16
without_last w n = rw pow-suc (mod-mul n (pow_pos w) (lit< tt))

-- the last digit is the remainder by 16, those before it are the quotient's
digits_last : (w n : ℕ) → n < 16 ^ suc w → digits (suc w) n ≡ digits w (n / 16) ++ (digit (n % 16) ∷ [])
unfolding digits
digits_last zero n h = let same : n / 1 ≡ n % 16 = omega arith in rw same
digits_last (suc w) n h =
    let m = n % 16 ^ suc w in
    let small : n % 16 < 16 = mod-lt n (lit< tt) in
    let first : n / 16 ^ suc w ≡ n / 16 / 16 ^ w = rw (pow-suc, mul_comm) (sym (div-div-eq-div-mul n 16 (16 ^ w))) in
    rw (first, digits_last w m (mod-lt n (pow_pos (suc w))), without_last w n, digits_div (n / 16 % 16 ^ w) small, digits_mod (n / 16 % 16 ^ w) small)

pub last_digit : (w n : ℕ) → last_digits (suc w) n ≡ last_digits w (n / 16) ++ (digit (n % 16) ∷ [])
last_digit w n =
    let small : n % 16 < 16 = mod-lt n (lit< tt) in
    digits_last w (n % 16 ^ suc w) (mod-lt n (pow_pos (suc w)))
    ∙ rw (without_last w n, digits_div (n / 16 % 16 ^ w) small, digits_mod (n / 16 % 16 ^ w) small)

-- the digits of x, then b digits of y
pub digits_join : (a b x y : ℕ) → y < 16 ^ b → last_digits (a + b) (x * 16 ^ b + y) ≡ last_digits a x ++ last_digits b y
unfolding digits
digits_join a zero x y h =
    let none : x * 1 + y ≡ x = omega arith in
    rw (none, add-zero, append-nil)
digits_join a (suc b) x y h =
    let small : y % 16 < 16 = mod-lt y (lit< tt) in
    let split : x * 16 ^ suc b + y ≡ (x * 16 ^ b + y / 16) * 16 + y % 16 = rw (pow-suc, ← mul_assoc) (omega arith) in
    let below : y / 16 < 16 ^ b = (div-lt_iff_lt-mul {k = 16} (lit< tt)).1 (rw pow-suc at h) in
    rw add-suc
    (last_digit (a + b) (x * 16 ^ suc b + y)
    ∙ rw (split, digits_div (x * 16 ^ b + y / 16) small, digits_mod (x * 16 ^ b + y / 16) small, digits_join a b x (y / 16) below, last_digit b y)
    (append_assoc (last_digits a x) (last_digits b (y / 16)) (digit (y % 16) ∷ [])))
