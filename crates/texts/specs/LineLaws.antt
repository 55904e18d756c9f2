-- A line with a float in it, as it is written: the fields before the float are one number, those behind it another.
use Rattle.std.specs.Prelude.{◌≡◌, refl, Bool, true, false, List, [], ◌∷◌, ◌++◌, ℕ, ◌+◌, ◌*◌, ◌-◌, ◌^◌, ◌<◌, ◌≤◌, length, take, drop}
use Rattle.std.proofs.Common.{sym, ap, ◌∙◌, append-nil, arith, lit<, length-append}
use mir.Val.{bool_byte}
use borrow.Rule.Slice.PartMut.{put_mid}
use Rattle.lines.specs.Hex.{digits, Fields, write_fields, Fit, total}
use Rattle.lines.specs.HexLaws.{length_digits}
use Rattle.slices.specs.Written.{written, last_digits}
use Rattle.slices.specs.WrittenLaws.{written_short}
use Rattle.slices.specs.DigitLaws.{all_digits}
use Rattle.frames.specs.Acceptable.{status_byte, flags_byte}
use Rattle.printing.specs.FrameNumbers.{number_of, joined, frame_pieces, three_written}

-- ---- as `write_around` writes it
abbrev pub around : ℕ → ℕ → ℕ → ℕ → ℕ → List ℕ
around front first bits back last = (last_digits front first ++ digits 16 bits) ++ (last_digits back last ++ (10 ∷ []))

module _ (front first bits back last : ℕ) where
  length_around : length (around front first bits back last) ≡ front + 16 + back + 1
  length_around = simp (length-append, length_digits) (omega arith)

  module _ (out : List ℕ) where
    pub around_short : {f b : ℕ} → f ≡ front → b ≡ back → length out < f + 16 + b + 1 → out ≡ written (around front first bits back last) out
    around_short p q h = sym (written_short (around front first bits back last) out (omega (arith, length_around)))

    pub around_written : bits < 16 ^ 16 → front + 16 + back + 1 ≤ length out → {l p q : List ℕ}
        → l ≡ written (last_digits front first) out → p ≡ written (last_digits 16 bits) (take (length l - front) (drop front l))
        → q ≡ written (last_digits back last ++ (10 ∷ [])) (take (length (put_mid front (length l - front) l p) - (front + 16)) (drop (front + 16) (put_mid front (length l - front) l p)))
        → put_mid (front + 16) (length (put_mid front (length l - front) l p) - (front + 16)) (put_mid front (length l - front) l p) q ≡ written (around front first bits back last) out
    around_written h room e f g =
        let line : length (last_digits back last ++ (10 ∷ [])) ≡ back + 1 = simp (length-append, length_digits) in
        three_written _ _ _ out front (front + 16) (length_digits front _) (ap (λ (k : ℕ). front + k) (length_digits 16 _)) (omega arith) e f g ∙ rw (all_digits 16 bits h)

-- ---- and it is the line of its fields
around_fields : (front back : List ℕ) (f : Fields front) (bits : ℕ) (b : Fields back) → Fit front f → Fit back b → {first last : ℕ} → first ≡ number_of front f → last ≡ number_of back b
    → around (total front) first bits (total back) last ≡ write_fields (front ++ (16 ∷ back)) (joined front (16 ∷ back) f (bits, b)) ++ (10 ∷ [])
unfolding write_fields
around_fields front back f bits b h i e g =
    let line = frame_pieces front (16 ∷ []) back f (bits, tt) b h i in
    rw (e, g) (rw (append-nil (digits 16 bits)) at line)

pub around_line : (front back : List ℕ) (f : Fields front) (bits : ℕ) (b : Fields back) (out : List ℕ) {after : List ℕ} {first last : ℕ}
    → after ≡ written (around (total front) first bits (total back) last) out → Fit front f → Fit back b → first ≡ number_of front f → last ≡ number_of back b
    → after ≡ written (write_fields (front ++ (16 ∷ back)) (joined front (16 ∷ back) f (bits, b)) ++ (10 ∷ [])) out
around_line front back f bits b out a h i e g = a ∙ ap (λ (line : List ℕ). written line out) (around_fields front back f bits b h i e g)

-- ---- a byte that says whether it is so, as the library makes it: the status byte of a branch, and the flags byte of a switch, put together
pub status_byte_lem : (b : Bool) → bool_byte b ≡ status_byte b
status_byte_lem true = refl
status_byte_lem false = refl

pub flags_byte_lem : (tie operable : Bool) {t o : ℕ} → t ≡ bool_byte tie → o ≡ bool_byte operable → (t + 2 * o ≡ flags_byte tie operable) × (flags_byte tie operable < 16 ^ 2)
flags_byte_lem true true e f = (rw (e, f), lit< tt)
flags_byte_lem true false e f = (rw (e, f), lit< tt)
flags_byte_lem false true e f = (rw (e, f), lit< tt)
flags_byte_lem false false e f = (rw (e, f), lit< tt)
