-- A frame whose fields are put together into one number: its digits are those of the fields, one behind the other. A longer frame is written in three
-- pieces: the fields of the first and of the last are one number each.
use Rattle.std.specs.Prelude.{◌≡◌, refl, List, [], ◌∷◌, ◌++◌, ℕ, ◌+◌, ◌*◌, ◌-◌, ◌^◌, ◌<◌, ◌≤◌, length, take, drop}
use Rattle.std.proofs.Common.{sym, ◌∙◌, append_assoc, arith, lit<, length-append, pow-add}
use Rattle.std.proofs.Math.Arith.{digits_lt}
use borrow.Rule.Slice.PartMut.{put_mid}
use Rattle.lines.specs.Hex.{digits, Fields, write_fields, Fit, total}
use Rattle.lines.specs.Frames.{Frame, layout, frame_text}
use Rattle.slices.specs.Written.{written, last_digits}
use Rattle.slices.specs.WrittenLaws.{written_short, written_append}
use Rattle.slices.specs.DigitLaws.{all_digits, digits_join}
use Rattle.printing.specs.LineTexts.{length_frame}

-- the fields, each with room for those behind it
abbrev pub number_of : (ws : List ℕ) → Fields ws → ℕ
number_of [] f = 0
number_of (w ∷ ws) f = f.0 * 16 ^ total ws + number_of ws f.1

number_fits : (ws : List ℕ) (f : Fields ws) → Fit ws f → number_of ws f < 16 ^ total ws
number_fits [] f h = lit< tt
number_fits (w ∷ ws) f h = rw pow-add (digits_lt h.0 (number_fits ws f.1 h.1))

pub fields_number : (ws : List ℕ) (f : Fields ws) → Fit ws f → last_digits (total ws) (number_of ws f) ≡ write_fields ws f
unfolding digits write_fields
fields_number [] f h = refl
fields_number (w ∷ ws) f h =
    digits_join w (total ws) f.0 (number_of ws f.1) (number_fits ws f.1 h.1)
    ∙ rw (all_digits w f.0 h.0, fields_number ws f.1 h.1)

-- the line that is written for a frame of one number
pub frame_line : (F : Frame) (f : Fields F.widths) (out : List ℕ) → Fit (layout F) (F.kind, f) → {n : ℕ} → n ≡ number_of (layout F) (F.kind, f)
    → {after : List ℕ} → after ≡ written (last_digits (total (layout F)) n ++ (10 ∷ [])) out → after ≡ written (frame_text F f) out
unfolding frame_text
frame_line F f out h e a = a ∙ rw (e, fields_number (layout F) (F.kind, f) h)

-- ---- in pieces
pub frame_short : (F : Frame) (f : Fields F.widths) (out : List ℕ) → length out < total (layout F) + 1 → out ≡ written (frame_text F f) out
frame_short F f out h = sym (written_short (frame_text F f) out (omega (arith, length_frame F f)))

-- fields, and others behind them
abbrev pub joined : (ws vs : List ℕ) → Fields ws → Fields vs → Fields (ws ++ vs)
joined [] vs f g = g
joined (w ∷ ws) vs f g = (f.0, joined ws vs f.1 g)

fields_joined : (ws vs : List ℕ) (f : Fields ws) (g : Fields vs) → write_fields (ws ++ vs) (joined ws vs f g) ≡ write_fields ws f ++ write_fields vs g
unfolding write_fields
fields_joined [] vs f g = refl
fields_joined (w ∷ ws) vs f g = rw (fields_joined ws vs f.1 g) (sym (append_assoc (digits w f.0) (write_fields ws f.1) (write_fields vs g)))

-- the line of a frame in three pieces
pub frame_pieces : (front middle back : List ℕ) (f : Fields front) (m : Fields middle) (b : Fields back) → Fit front f → Fit back b
    → (last_digits (total front) (number_of front f) ++ write_fields middle m) ++ (last_digits (total back) (number_of back b) ++ (10 ∷ []))
    ≡ write_fields (front ++ (middle ++ back)) (joined front (middle ++ back) f (joined middle back m b)) ++ (10 ∷ [])
frame_pieces front middle back f m b h i =
    rw (fields_number front f h, fields_number back b i, fields_joined front (middle ++ back) f (joined middle back m b), fields_joined middle back m b)
    (simp append_assoc)

-- a, b behind it, and c behind both
pub three_written : (a b c out : List ℕ) (n m : ℕ) {l p q : List ℕ} → length a ≡ n → n + length b ≡ m → m + length c ≤ length out
    → l ≡ written a out → p ≡ written b (take (length l - n) (drop n l))
    → q ≡ written c (take (length (put_mid n (length l - n) l p) - m) (drop m (put_mid n (length l - n) l p)))
    → put_mid m (length (put_mid n (length l - n) l p) - m) (put_mid n (length l - n) l p) q ≡ written ((a ++ b) ++ c) out
three_written a b c out n m la lb room e f g =
    written_append (a ++ b) c out m (length-append a b ∙ omega arith) room (written_append a b out n la (omega arith) e f) g
