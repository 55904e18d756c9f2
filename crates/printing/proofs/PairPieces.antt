-- The frame 86: ids with their count before them are the digits of one number, and a line is its kind and two such pieces.
use mathlib.Core.Path.{◌≡◌, refl, sym, ap, ◌∙◌}
use mathlib.Core.Logic.{◌≢◌}
use mathlib.Core.List.{List, [], ◌∷◌, ◌++◌, flat_map, append_assoc}
use Prim.Native.Nat.{ℕ, zero, suc, ◌+◌, ◌*◌, ◌-◌, ◌<◌, ◌≤◌}
use native.Mathlib.Omega.{arith}
use lib.Dec.{lit<}
use lib.ListN.{length, take, drop, get_or, length-append}
use borrow.Rule.Slice.PartMut.{put_mid}
use Rattle.lines.specs.Hex.{digits, digit, write_fields}
use Rattle.lines.specs.HexLaws.{length_digits}
use Rattle.slices.specs.Written.{written, last_digits}
use Rattle.slices.specs.WrittenLaws.{written_short}
use Rattle.printing.specs.Printed.{ids_text, pair_text}
use Rattle.printing.specs.FrameNumbers.{number_of, fields_number, three_written}

-- ---- the number of no id, of one and of two
pub no_id : last_digits 2 0 ≡ ids_text []
unfolding digits digit flat_map
no_id = refl

pub one_id : (x : ℕ) → x < 65536 → last_digits 6 (0x1_0000 + x) ≡ ids_text (x ∷ [])
unfolding write_fields flat_map
one_id x h =
    let number : 0x1_0000 + x ≡ number_of (2 ∷ 4 ∷ []) (1, (x, tt)) = omega arith in
    rw number (fields_number (2 ∷ 4 ∷ []) (1, (x, tt)) (lit< tt, (h, tt)))

pub two_ids : (x y : ℕ) → x < 65536 → y < 65536 → last_digits 10 (0x2_0000_0000 + (0x1_0000 * x + y)) ≡ ids_text (x ∷ y ∷ [])
unfolding write_fields flat_map
two_ids x y h i =
    let number : 0x2_0000_0000 + (0x1_0000 * x + y) ≡ number_of (2 ∷ 4 ∷ 4 ∷ []) (2, (x, (y, tt))) = omega arith in
    rw number (fields_number (2 ∷ 4 ∷ 4 ∷ []) (2, (x, (y, tt))) (lit< tt, (h, (i, tt))))

-- ---- the first of two, and both
pub first_of_two : (l : List ℕ) → length l ≡ 2 → take 1 l ≡ get_or l 0 0 ∷ []
first_of_two [] e = absurd (omega arith)
first_of_two (x ∷ l) e = refl

pub both_of_two : (l : List ℕ) (count : ℕ) → length l ≡ 2 → count ≢ 0 → count ≢ 1 → take count l ≡ get_or l 0 0 ∷ get_or l 1 0 ∷ []
both_of_two l zero e none one = absurd (none refl)
both_of_two l (suc zero) e none one = absurd (one refl)
both_of_two [] (suc (suc n)) e none one = absurd (omega arith)
both_of_two (x ∷ []) (suc (suc n)) e none one = absurd (omega arith)
both_of_two (x ∷ y ∷ []) (suc (suc zero)) e none one = refl
both_of_two (x ∷ y ∷ []) (suc (suc (suc n))) e none one = refl
both_of_two (x ∷ y ∷ z ∷ l) (suc (suc n)) e none one = absurd (omega arith)

-- ---- the line: `n` and `m` have the digits of the closed ids and of the opened ones, `w` and `v` of them
module _ (closes opens : List ℕ) (w v n m : ℕ) (closed : last_digits w n ≡ ids_text closes) (opened : last_digits v m ≡ ids_text opens) (out : List ℕ) where
  abbrev last : List ℕ
  last = last_digits v m ++ (10 ∷ [])

  pieces : (last_digits 2 0x86 ++ last_digits w n) ++ last ≡ pair_text closes opens
  unfolding pair_text
  pieces = rw (closed, opened) (simp append_assoc)

  length_last : length last ≡ v + 1
  length_last = rw (length-append, length_digits)

  long : length (pair_text closes opens) ≡ 2 + w + v + 1
  long = ap length (sym pieces) ∙ simp (length-append, length_digits) (omega arith)

  pub pair_short : length out < 2 + w + v + 1 → out ≡ written (pair_text closes opens) out
  pair_short h = sym (written_short (pair_text closes opens) out (omega (arith, long)))

  pub pair_written : {l p q : List ℕ} → 2 + w + v + 1 ≤ length out → l ≡ written (last_digits 2 0x86) out → p ≡ written (last_digits w n) (take (length l - 2) (drop 2 l))
      → q ≡ written last (take (length (put_mid 2 (length l - 2) l p) - (2 + w)) (drop (2 + w) (put_mid 2 (length l - 2) l p)))
      → put_mid (2 + w) (length (put_mid 2 (length l - 2) l p) - (2 + w)) (put_mid 2 (length l - 2) l p) q ≡ written (pair_text closes opens) out
  pair_written room e f g =
      three_written (last_digits 2 0x86) (last_digits w n) last out 2 (2 + w) (length_digits 2 _) (rw length_digits) (omega (arith, length_last)) e f g
      ∙ rw pieces
