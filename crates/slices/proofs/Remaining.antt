-- A number whose digits are stored from the last to the first, and a line: its digits and then its line feed.
use mathlib.Core.Path.{◌≡◌, refl, sym, ap, ◌∙◌, subst}
use mathlib.Core.List.{List, [], ◌∷◌, ◌++◌}
use Prim.Native.Nat.{ℕ, zero, suc, ◌+◌, ◌-◌, ◌/◌, ◌%◌, ◌^◌, ◌<◌, ◌≤◌}
use native.Mathlib.Omega.{arith}
use native.Mathlib.Nat.{zero-add}
use lib.ListN.{length, set, length-set, length-append}
use lib.Seq.{sets, length-sets, set_comm}
use borrow.Author.Tests.{lt-ltb, le-ltb}
use Rattle.lines.specs.Hex.{digit, digits}
use Rattle.lines.specs.HexLaws.{length_digits}
use Rattle.slices.specs.Written.{written, last_digits}
use Rattle.slices.specs.WrittenLaws.{sets_append, written_sets, written_short}
use Rattle.slices.specs.DigitLaws.{last_digit}

-- ---- one digit
pub digit_below_ten : (n : ℕ) → n < 10 → 48 + n ≡ digit n
unfolding digit
digit_below_ten n h = rw (lt-ltb n 10 h)

pub digit_from_ten : (n : ℕ) → 10 ≤ n → 55 + n ≡ digit n
unfolding digit
digit_from_ten n h = rw (le-ltb n 10 h)

-- ---- a number
pub digits_short : (w n : ℕ) (out : List ℕ) → length out < w → out ≡ written (last_digits w n) out
digits_short w n out h = sym (written_short (last_digits w n) out (omega (arith, length_digits w (n % 16 ^ w))))

-- a store behind a row of stores may come before them
sets_set : {A : Type 0} (l : List A) (i j : ℕ) (x : A) (vs : List A) → i + length vs ≤ j → sets (set l j x) i vs ≡ set (sets l i vs) j x
sets_set l i j x [] h = refl
sets_set l i j x (v ∷ vs) h = rw (set_comm l j i x v (λ e. omega arith)) (sets_set (set l i v) (suc i) j x vs (omega arith))

-- what remains of n is i digits: stored at the front of out they make l with w digits of n
pub record Remaining (l : List ℕ) (w n : ℕ) (out : List ℕ) (i rest : ℕ) : Type 0 where
  pub room : i ≤ length out
  pub whole : sets out 0 (last_digits i rest) ≡ sets l 0 (last_digits w n)

module _ {l : List ℕ} {w n : ℕ} where
  pub all_remain : w ≤ length l → Remaining l w n l w n
  all_remain h = record { room = h; whole = refl }

  last_stored : {out : List ℕ} (j : ℕ) {rest : ℕ} (x : ℕ) → Remaining l w n out (suc j) rest → x ≡ digit (rest % 16) → Remaining l w n (set out j x) j (rest / 16)
  last_stored {out} j {rest} x r e =
      let front = last_digits j (rest / 16) in
      let long = length_digits j (rest / 16 % 16 ^ j) in
      let both = sets_append out 0 front (digit (rest % 16) ∷ []) in
      record {
        room = rw length-set (omega (arith, r.room));
        whole =
            sets_set out 0 j x front (omega arith)
            ∙ (rw e (rw (zero-add, long) at both))
            ∙ ap (sets out 0) (sym (last_digit j rest))
            ∙ r.whole;
      }

  pub digit_stored : {out : List ℕ} (i : ℕ) {rest : ℕ} (x : ℕ) → Remaining l w n out i rest → 0 < i → x ≡ digit (rest % 16)
      → Remaining l w n (set out (i - 1) x) (i - 1) (rest / 16)
  digit_stored {out} i {rest} x r h e =
      let one_more : i ≡ suc (i - 1) = omega arith in
      last_stored (i - 1) x (subst (λ (k : ℕ). Remaining l w n out k rest) one_more r) e

  pub none_remain : {out : List ℕ} (i : ℕ) {rest : ℕ} → Remaining l w n out i rest → i ≤ 0 → w ≤ length l → out ≡ written (last_digits w n) l
  unfolding digits
  none_remain zero r h k = r.whole ∙ sym (written_sets (last_digits w n) l (omega (arith, length_digits w (n % 16 ^ w))))
  none_remain (suc j) r h k = absurd (omega arith)

  pub remaining_length : {out : List ℕ} {i rest : ℕ} → Remaining l w n out i rest → length out ≡ length l
  remaining_length {out} {i} {rest} r = sym (length-sets out 0 (last_digits i rest)) ∙ ap length r.whole ∙ length-sets l 0 (last_digits w n)

-- ---- a line
module _ (w n : ℕ) (out : List ℕ) {end : ℕ} (e : end ≡ w) where
  abbrev line : List ℕ
  line = last_digits w n ++ (10 ∷ [])

  line_length_lem : length line ≡ w + 1
  line_length_lem = length-append (last_digits w n) (10 ∷ []) ∙ rw length_digits

  pub line_short : length out < end + 1 → out ≡ written line out
  line_short h = sym (written_short line out (omega (arith, line_length_lem)))

  pub line_ended : end + 1 ≤ length out → {now : List ℕ} → now ≡ written (last_digits end n) out → set now end 10 ≡ written line out
  line_ended h f =
      let long = length_digits w (n % 16 ^ w) in
      let both = sets_append out 0 (last_digits w n) (10 ∷ []) in
      rw (f, e, written_sets (last_digits w n) out (omega (arith, long))) (rw (zero-add, long) at both)
      ∙ sym (written_sets line out (omega (arith, line_length_lem)))
