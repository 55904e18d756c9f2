-- Lines: how many bytes a frame's line has, that those which are printed have the lengths of `Lengths`, and lines of one length, one for each entry of a list.
use Rattle.std.specs.Prelude.{◌≡◌, Bool, ℕ, ◌+◌, ◌*◌, length}
use Rattle.std.proofs.Math.Path.{refl, ap}
use Rattle.std.proofs.Common.{sym, ◌∙◌, arith, mul-suc}
use mathlib.Core.List.{List, [], ◌∷◌, ◌++◌, flat_map, append_assoc, append-nil}
use Rattle.std.proofs.Math.Nat.{mul-zero}
use Rattle.std.proofs.Math.ListN.{length-append}
use Rattle.graph.specs.declared.form.Form.{Form}
use Rattle.lines.specs.Hex.{digits, Fields, total}
use Rattle.lines.specs.Frames.{Frame, layout, frame_text}
use Rattle.lines.specs.HexLaws.{length_digits, length_fields}
use Rattle.printing.specs.declared.writer.SwitchOperation.{SwitchOperation}
use Rattle.printing.specs.Printed.{answer, answer_text, form_frame, form_fields, form_text, operation, operation_text, ids_text, pair_text, dropped, dropped_text, refusal, refusal_text}
use Rattle.printing.specs.Lengths.{answer_length, form_length, operation_length, pair_head_length, id_length, dropped_length, refusal_length}

-- its line feed included
pub length_frame : (F : Frame) (f : Fields F.widths) → length (frame_text F f) ≡ total (layout F) + 1
unfolding frame_text
length_frame F f = rw (length-append, length_fields)

pub length_answer : (radial : Bool) (base best reduction iterations : ℕ) (converged : Bool) → length (answer_text radial base best reduction iterations converged) ≡ answer_length
unfolding answer_text
length_answer radial base best reduction iterations converged = length_frame answer _

pub length_form : (f : Form) → length (form_text f) ≡ form_length
unfolding form_text
length_form f = length_frame form_frame (form_fields f)

pub length_operation : (o : SwitchOperation) → length (operation_text o) ≡ operation_length
unfolding operation_text
length_operation o = length_frame operation _

pub length_dropped : (line reason : ℕ) → length (dropped_text line reason) ≡ dropped_length
unfolding dropped_text
length_dropped line reason = length_frame dropped _

pub length_refusal : (number place : ℕ) → length (refusal_text number place) ≡ refusal_length
unfolding refusal_text
length_refusal number place = length_frame refusal _

module _ {A : Type 0} (line : A → List ℕ) where
  pub lines_append : (l m : List A) → flat_map line (l ++ m) ≡ flat_map line l ++ flat_map line m
  unfolding flat_map
  lines_append [] m = refl
  lines_append (x ∷ l) m = rw (lines_append l m) (sym (append_assoc (line x) (flat_map line l) (flat_map line m)))

  pub lines_more : (l : List A) (x : A) → flat_map line (l ++ (x ∷ [])) ≡ flat_map line l ++ line x
  unfolding flat_map
  lines_more l x = lines_append l (x ∷ []) ∙ ap (λ (b : List ℕ). flat_map line l ++ b) (append-nil (line x))

  pub length_lines : (width : ℕ) → ((x : A) → length (line x) ≡ width) → (l : List A) → length (flat_map line l) ≡ width * length l
  unfolding flat_map
  length_lines width h [] = rw mul-zero
  length_lines width h (x ∷ l) = simp length-append (rw (h x, length_lines width h l, mul-suc) (omega arith))

-- ---- 86
-- a pair's line by its ids
length_ids : (ids : List ℕ) → length (ids_text ids) ≡ 2 + id_length * length ids
length_ids ids = simp length-append (rw (length_digits, length_lines (digits 4) id_length (length_digits 4) ids))

pub length_pair : (closes opens : List ℕ) → length (pair_text closes opens) ≡ pair_head_length + id_length * (length closes + length opens)
unfolding pair_text
length_pair closes opens = rw (length-append, length_digits, length-append, length_ids closes, length-append, length_ids opens) (omega arith)
