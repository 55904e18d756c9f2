-- A number of w digits and its digits are one and the same; so are a row of fields and its characters.
use Rattle.std.specs.Prelude.{◌≡◌, refl, ◌⊎◌, Bool, true, false, cond, ◌&&◌, List, [], ◌∷◌, ◌++◌, ℕ, zero, suc, ◌+◌, ◌*◌, ◌-◌, ◌/◌, ◌%◌, ◌^◌, ◌≤◌, ◌<◌, leb, ltb, eqb, length, take, drop}
use Rattle.std.proofs.Common.{sym, ap, ap₂, ◌∙◌, subst, inl, inr, mod-lt, div-lt_iff_lt-mul, div-add-mod', mul-le-mul_right, arith, lit<, length-append, take-append-drop, length-drop, take_at, drop_at, length-take-le, ltb-true, ltb-false, leb-true, le-leb, ne_eqb, lt-ltb, le-ltb}
use Rattle.std.proofs.Math.Nat.{one-le-pow, pow-succ'}
use Rattle.std.proofs.Math.Arith.{digits_div, digits_mod}
use Rattle.std.proofs.lemmas.Bool.{lt-leb}
use Rattle.numbers.specs.Tests.{both, either}
use Rattle.numbers.specs.Every.{every, every_append, every_take, every_drop}
use Rattle.lines.specs.Hex.{is_digit, value, digit, number, digits, Fields, read_fields, write_fields, Fit, total}

-- ---- one digit
Low : ℕ → Type 0
Low c = (48 ≤ c) × (c ≤ 57)

High : ℕ → Type 0
High c = (65 ≤ c) × (c ≤ 70)

kinds : (c : ℕ) → is_digit c ≡ true → Low c ⊎ High c
unfolding is_digit Low High
kinds c e = go (either (leb 48 c && leb c 57) (leb 65 c && leb c 70) e)
  where
    go : ((leb 48 c && leb c 57) ≡ true) ⊎ ((leb 65 c && leb c 70) ≡ true) → Low c ⊎ High c
    go (inl h) = let b = both (leb 48 c) (leb c 57) h in inl (leb-true 48 c b.0, leb-true c 57 b.1)
    go (inr h) = let b = both (leb 65 c) (leb c 70) h in inr (leb-true 65 c b.0, leb-true c 70 b.1)

digit_is_digit : (n : ℕ) → n < 16 → is_digit (digit n) ≡ true
unfolding is_digit digit
digit_is_digit n h = go (ltb n 10) refl
  where
    go : (b : Bool) → ltb n 10 ≡ b → is_digit (digit n) ≡ true
    go true e = let l : n < 10 = ltb-true n 10 e in rw (e, le-leb 48 (48 + n) (omega arith), le-leb (48 + n) 57 (omega arith))
    go false e =
        let l : 10 ≤ n = ltb-false n 10 e in
        rw (e, le-leb 48 (55 + n) (omega arith), lt-leb (55 + n) 57 (omega arith), le-leb 65 (55 + n) (omega arith), le-leb (55 + n) 70 (omega arith))

pub value_of : (c : ℕ) → is_digit c ≡ true → value c ≡ cond (leb c 57) (c - 48) (c - 55)
unfolding value
value_of c e = rw e

pub value_other : (c : ℕ) → is_digit c ≡ false → value c ≡ 0
unfolding value
value_other c e = rw e

value_digit : (n : ℕ) → n < 16 → value (digit n) ≡ n
unfolding digit
value_digit n h = value_of (digit n) (digit_is_digit n h) ∙ go (ltb n 10) refl
  where
    go : (b : Bool) → ltb n 10 ≡ b → cond (leb (digit n) 57) (digit n - 48) (digit n - 55) ≡ n
    go true e = let l : n < 10 = ltb-true n 10 e in rw (e, le-leb (48 + n) 57 (omega arith)) (omega arith)
    go false e = let l : 10 ≤ n = ltb-false n 10 e in rw (e, lt-leb (55 + n) 57 (omega arith)) (omega arith)

digit_value : (c : ℕ) → is_digit c ≡ true → (value c < 16) × (digit (value c) ≡ c)
unfolding digit Low High
digit_value c e = rw (value_of c e) (go (kinds c e))
  where
    go : Low c ⊎ High c → (cond (leb c 57) (c - 48) (c - 55) < 16) × (digit (cond (leb c 57) (c - 48) (c - 55)) ≡ c)
    go (inl b) = rw (le-leb c 57 b.1) (omega arith, rw (lt-ltb (c - 48) 10 (omega arith)) (omega arith))
    go (inr b) = rw (lt-leb c 57 (omega arith)) (omega arith, rw (le-ltb (c - 55) 10 (omega arith)) (omega arith))

pub value_below : (c : ℕ) → value c < 16
value_below c = go (is_digit c) refl
  where
    go : (b : Bool) → is_digit c ≡ b → value c < 16
    go true e = (digit_value c e).0
    go false e = rw (value_other c e) (lit< tt)

-- no digit is a line feed
pub digit_no_feed : (c : ℕ) → is_digit c ≡ true → eqb c 10 ≡ false
unfolding Low High
digit_no_feed c e = go (kinds c e)
  where
    go : Low c ⊎ High c → eqb c 10 ≡ false
    go (inl b) = ne_eqb c 10 (λ q. omega arith)
    go (inr b) = ne_eqb c 10 (λ q. omega arith)

-- ---- a number of w digits
pub pow_pos : (w : ℕ) → 0 < 16 ^ w
pow_pos w = one-le-pow w 16 (lit< tt)

top_digit : (w n : ℕ) → n < 16 ^ suc w → n / 16 ^ w < 16
top_digit w n h = (div-lt_iff_lt-mul {k = 16 ^ w} (pow_pos w)).1 (rw pow-succ' at h)

pub length_digits : (w n : ℕ) → length (digits w n) ≡ w
unfolding digits
length_digits zero n = refl
length_digits (suc w) n = ap suc (length_digits w (n % 16 ^ w))

every_digits : (w n : ℕ) → n < 16 ^ w → every is_digit (digits w n) ≡ true
unfolding digits every
every_digits zero n h = refl
every_digits (suc w) n h = rw (digit_is_digit (n / 16 ^ w) (top_digit w n h)) (every_digits w (n % 16 ^ w) (mod-lt n (pow_pos w)))

pub number_digits : (w n : ℕ) → n < 16 ^ w → number (digits w n) ≡ n
unfolding digits number
number_digits zero n h = omega arith
number_digits (suc w) n h =
    rw (length_digits w (n % 16 ^ w), value_digit (n / 16 ^ w) (top_digit w n h), number_digits w (n % 16 ^ w) (mod-lt n (pow_pos w))) (div-add-mod' n (16 ^ w))

pub number_below : (cs : List ℕ) → number cs < 16 ^ length cs
unfolding number
number_below [] = lit< tt
number_below (c ∷ cs) =
    let v : suc (value c) * 16 ^ length cs ≤ 16 * 16 ^ length cs = mul-le-mul_right (16 ^ length cs) (value_below c) in
    let m = number_below cs in
    rw pow-succ' (omega arith)

digits_number : (cs : List ℕ) → every is_digit cs ≡ true → digits (length cs) (number cs) ≡ cs
unfolding digits number every
digits_number [] e = refl
digits_number (c ∷ cs) e =
    let h = both (is_digit c) (every is_digit cs) e in
    let m = number_below cs in
    rw (digits_div (value c) m, digits_mod (value c) m, (digit_value c h.0).1, digits_number cs h.1)

-- ---- fields
pub length_fields : (ws : List ℕ) (f : Fields ws) → length (write_fields ws f) ≡ total ws
unfolding write_fields
length_fields [] f = refl
length_fields (w ∷ ws) f = rw (length-append (digits w f.0) (write_fields ws f.1), length_digits w f.0, length_fields ws f.1)

pub every_fields : (ws : List ℕ) (f : Fields ws) → Fit ws f → every is_digit (write_fields ws f) ≡ true
unfolding write_fields every
every_fields [] f h = refl
every_fields (w ∷ ws) f h = every_append is_digit (digits w f.0) (write_fields ws f.1) (every_digits w f.0 h.0) (every_fields ws f.1 h.1)

-- what is written is read
pub fields_kept : (ws : List ℕ) (f : Fields ws) → Fit ws f → read_fields ws (write_fields ws f) ≡ f
unfolding write_fields read_fields
fields_kept [] f h = refl
fields_kept (w ∷ ws) f h =
    let front = take_at (digits w f.0) (write_fields ws f.1) w (length_digits w f.0) in
    let back = drop_at (digits w f.0) (write_fields ws f.1) w (length_digits w f.0) in
    rw (front, back, number_digits w f.0 h.0, fields_kept ws f.1 h.1)

-- what is read was written so
pub chars_kept : (ws cs : List ℕ) → length cs ≡ total ws → every is_digit cs ≡ true → (write_fields ws (read_fields ws cs) ≡ cs) × Fit ws (read_fields ws cs)
unfolding write_fields read_fields
chars_kept [] [] l e = (refl, tt)
chars_kept [] (c ∷ cs) l e = absurd (omega arith)
chars_kept (w ∷ ws) cs l e =
    let long : length (take w cs) ≡ w = length-take-le w cs (omega arith) in
    let front : digits w (number (take w cs)) ≡ take w cs = ap (λ k. digits k (number (take w cs))) (sym long) ∙ digits_number (take w cs) (every_take is_digit w cs e) in
    let below : number (take w cs) < 16 ^ w = subst (λ k. number (take w cs) < 16 ^ k) long (number_below (take w cs)) in
    let rest = chars_kept ws (drop w cs) (length-drop w cs ∙ (omega arith)) (every_drop is_digit w cs e) in
    (ap₂ ◌++◌ front rest.0 ∙ take-append-drop w cs, (below, rest.1))
