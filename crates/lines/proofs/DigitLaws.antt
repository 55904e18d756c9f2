-- Digits one after the other: which bytes are digits, and the number that those passed write.
use mathlib.Core.Path.{◌≡◌, refl, sym, ap, ◌∙◌}
use mathlib.Core.Bool.{true, false, and-false}
use mathlib.Core.List.{List, [], ◌∷◌, ◌++◌}
use Prim.Native.Nat.{ℕ, suc, ◌+◌, ◌*◌, ◌-◌, ◌^◌, ◌≤◌, ◌<◌, min}
use native.Mathlib.Omega.{arith}
use native.Mathlib.Nat.{pow-le-pow_right, pow-suc, min-le_left, min-le_right}
use native.Mathlib.Numerals.{add-one}
use lib.Dec.{lit<}
use lib.ListN.{get_or, length, take, drop, length-append, length-take, length-drop, drop_of_length-le}
use lib.Seq.{take-suc, take_all, take-nil}
use borrow.Author.Tests.{le-leb, lt-leb}
use Rattle.lines.specs.Hex.{is_digit, value, number, number_at}
use Rattle.lines.specs.HexLaws.{value_of, value_below}
use Rattle.numbers.specs.Parts.{part_is, take_within}

-- ---- one byte
module _ (c : ℕ) where
  pub digit_under : c < 48 → is_digit c ≡ false
  unfolding is_digit
  digit_under h = rw (lt-leb 48 c h, lt-leb 65 c (omega arith))

  pub digit_low : 48 ≤ c → c < 58 → is_digit c ≡ true
  unfolding is_digit
  digit_low h k = rw (le-leb 48 c h, le-leb c 57 (omega arith))

  pub digit_between : 58 ≤ c → c < 65 → is_digit c ≡ false
  unfolding is_digit
  digit_between h k = rw (lt-leb c 57 h, and-false, lt-leb 65 c k)

  pub digit_high : 65 ≤ c → c < 71 → is_digit c ≡ true
  unfolding is_digit
  digit_high h k = rw (lt-leb c 57 (omega arith), and-false, le-leb 65 c h, le-leb c 70 (omega arith))

  pub digit_over : 71 ≤ c → is_digit c ≡ false
  unfolding is_digit
  digit_over h = rw (lt-leb c 57 (omega arith), and-false, lt-leb c 70 h, and-false)

  pub value_low : 48 ≤ c → c < 58 → value c ≡ c - 48
  value_low h k = value_of c (digit_low h k) ∙ rw (le-leb c 57 (omega arith))

  pub value_high : 65 ≤ c → c < 71 → value c ≡ c - 55
  value_high h k = value_of c (digit_high h k) ∙ rw (lt-leb c 57 (omega arith))

-- ---- the number
number_snoc : (xs : List ℕ) (c : ℕ) → number (xs ++ (c ∷ [])) ≡ number xs * 16 + value c
unfolding number
number_snoc [] c = omega arith
number_snoc (x ∷ xs) c =
    let one : length (xs ++ (c ∷ [])) ≡ suc (length xs) = length-append xs (c ∷ []) ∙ add-one (length xs) in
    rw (number_snoc xs c, one, pow-suc 16 (length xs)) (omega arith)

-- the first i digits write n
pub record Read (s : List ℕ) (n i : ℕ) : Type 0 where
  pub within : i ≤ length s
  pub so_far : n ≡ number (take i s)
  pub small : n < 16 ^ i

module _ (s : List ℕ) where
  pub none_read : Read s 0 0
  unfolding number
  none_read = record { within = omega arith; so_far = refl; small = lit< tt }

  module _ {n i : ℕ} (r : Read s n i) where
    pub read_room : (k : ℕ) → i ≤ k → n < 16 ^ k
    read_room k h = omega (arith, r.small, pow-le-pow_right {n = 16} (lit< tt) {i = i} {j = k} h)

    pub digit_read : {v : ℕ} → i < length s → v ≡ value (get_or s i 0) → Read s (n * 16 + v) (i + 1)
    digit_read {v} h e =
        let k : v < 16 = rw e (value_below (get_or s i 0)) in
        record {
          within = omega arith;
          so_far = rw (add-one, take-suc s i 0, number_snoc, ← r.so_far, e);
          small = rw (add-one, pow-suc) (omega (arith, r.small));
        }

    pub all_read : length s ≤ i → n ≡ number s
    all_read h = r.so_far ∙ ap number (take_all i s h)

-- ---- nothing stands behind a row
pub nothing_at : (s : List ℕ) (at width : ℕ) → length s ≤ at → 0 ≡ number_at at width s
unfolding number
nothing_at s at width h = rw (drop_of_length-le s {i = at} h, take-nil (min width 16))

-- ---- a part of a row: as many characters as are wanted, or as there are
pub lesser : {n k m : ℕ} → n ≡ min k m → (n ≤ k) × (n ≤ m)
lesser {n} {k} {m} e = rw e (min-le_left k m, min-le_right k m)

module _ (s : List ℕ) (at width : ℕ) where
  -- k characters are wanted, n of them are there
  module _ {k n : ℕ} (w : k ≡ min width 16) (e : n ≡ min k (length s - at)) where
    pub part_short : length (take (at + n - at) (drop at s)) ≤ 16
    part_short = omega (arith, (lesser (length-take (at + n - at) (drop at s))).0, (lesser w).1, (lesser e).0)

    pub part_within : number (take (at + n - at) (drop at s)) ≡ number_at at width s
    part_within =
        ap number (part_is s at n ∙ ap (λ (j : ℕ). take j (drop at s)) (e ∙ ap (min k) (sym (length-drop at s))) ∙ take_within k (drop at s) ∙ ap (λ (j : ℕ). take j (drop at s)) w)
