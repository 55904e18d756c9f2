-- The frame 81 in its three pieces.
use mathlib.Core.Path.{◌≡◌, ◌∙◌}
use mathlib.Core.List.{List, [], ◌∷◌, ◌++◌, append_assoc, append-nil}
use Prim.Native.Nat.{ℕ, ◌+◌, ◌*◌, ◌-◌, ◌^◌, ◌<◌, ◌≤◌}
use native.Mathlib.Omega.{arith}
use lib.Dec.{lit<}
use lib.ListN.{length, take, drop, length-append}
use borrow.Rule.Slice.PartMut.{put_mid}
use Rattle.lines.specs.Hex.{digits, Fields, write_fields}
use Rattle.lines.specs.Frames.{frame_text}
use Rattle.lines.specs.HexLaws.{length_digits}
use Rattle.slices.specs.Written.{written, last_digits}
use Rattle.slices.specs.DigitLaws.{all_digits}
use Rattle.printing.specs.Printed.{answer}
use Rattle.printing.specs.Lengths.{answer_length}
use Rattle.printing.specs.FrameNumbers.{number_of, frame_pieces, three_written}

pub three_numbers : (a b c : ℕ) → a < 16 ^ 16 → b < 16 ^ 16 → c < 16 ^ 16
    → (last_digits 16 a ++ last_digits 16 b) ++ last_digits 16 c ≡ digits 16 a ++ (digits 16 b ++ digits 16 c)
three_numbers a b c h i j = rw (all_digits 16 a h, all_digits 16 b i, all_digits 16 c j) (append_assoc (digits 16 a) (digits 16 b) (digits 16 c))

-- the frame 81: its kind and the radial byte, the losses, the iterations and the converged byte
module _ (radial base best reduction iterations converged : ℕ) (h : radial < 256) (i : iterations < 65536) (j : converged < 256) where
  abbrev head : List ℕ
  head = last_digits 4 (0x8100 + radial)

  abbrev losses : List ℕ
  losses = digits 16 base ++ (digits 16 best ++ digits 16 reduction)

  abbrev tail : List ℕ
  tail = last_digits 6 (0x100 * iterations + converged) ++ (10 ∷ [])

  abbrev fields : Fields answer.widths
  fields = (radial, (base, (best, (reduction, (iterations, (converged, tt))))))

  pieces : (head ++ losses) ++ tail ≡ frame_text answer fields
  unfolding frame_text write_fields
  pieces =
      let first : 0x8100 + radial ≡ number_of (2 ∷ 2 ∷ []) (0x81, (radial, tt)) = omega arith in
      let last : 0x100 * iterations + converged ≡ number_of (4 ∷ 2 ∷ []) (iterations, (converged, tt)) = omega arith in
      let line = frame_pieces (2 ∷ 2 ∷ []) (16 ∷ 16 ∷ 16 ∷ []) (4 ∷ 2 ∷ []) (0x81, (radial, tt)) (base, (best, (reduction, tt))) (iterations, (converged, tt)) (lit< tt, (h, tt)) (i, (j, tt)) in
      rw (first, last) (rw (append-nil (digits 16 reduction)) at line)

  pub answer_written : (out : List ℕ) {l p q : List ℕ} → answer_length ≤ length out → l ≡ written head out → p ≡ written losses (take (length l - 4) (drop 4 l))
      → q ≡ written tail (take (length (put_mid 4 (length l - 4) l p) - 52) (drop 52 (put_mid 4 (length l - 4) l p)))
      → put_mid 52 (length (put_mid 4 (length l - 4) l p) - 52) (put_mid 4 (length l - 4) l p) q ≡ written (frame_text answer fields) out
  answer_written out room e f g =
      let long : length losses ≡ 48 = simp (length-append, length_digits) in
      let short : length tail ≡ 7 = simp (length-append, length_digits) in
      three_written head losses tail out 4 52 (length_digits 4 _) (omega arith) (omega arith) e f g ∙ rw pieces
