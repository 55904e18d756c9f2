-- The frames that are printed (document 01, section Triangle; 84, 86 and 87 by document 02, points 5 to 7).
use Rattle.std.specs.Prelude.{Bool, cond, ℕ, length}
use mathlib.Core.List.{List, [], ◌∷◌, ◌++◌, flat_map}
use Rattle.printing.specs.declared.writer.SwitchAction.{SwitchAction}
use Rattle.printing.specs.declared.writer.SwitchOperation.{SwitchOperation}
use Rattle.printing.specs.declared.writer.SwitchAction.TheVariants.{Open, Close}
use Rattle.printing.specs.declared.writer.DropReason.{DropReason}
use Rattle.printing.specs.declared.writer.DropReason.TheVariants.{Branch, Switch}
use Rattle.graph.specs.declared.form.Form.{Form}
use Rattle.graph.specs.Form.{islands_field, branch_field}
use Rattle.lines.specs.Hex.{digits, Fields}
use Rattle.lines.specs.Frames.{Frame, frame_text}

-- ---- 81
-- "radial byte of the best state, base loss, best loss, reduction percent, iterations (u16), converged"
abbrev pub answer : Frame
answer = record { kind = 0x81; widths = 2 ∷ 16 ∷ 16 ∷ 16 ∷ 4 ∷ 2 ∷ [] }

-- a radial or converged byte: 01 where it is so, as in the triangle's answer, else 00
abbrev pub truth_byte : Bool → ℕ
truth_byte b = cond b 1 0

-- the losses and the reduction by their "f64 bits"
abbrev pub answer_fields : Bool → ℕ → ℕ → ℕ → ℕ → Bool → Fields answer.widths
answer_fields radial base best reduction iterations converged = (truth_byte radial, (base, (best, (reduction, (iterations, (truth_byte converged, tt))))))

unfoldable pub answer_text : Bool → ℕ → ℕ → ℕ → ℕ → Bool → List ℕ
answer_text radial base best reduction iterations converged = frame_text answer (answer_fields radial base best reduction iterations converged)

-- ---- 84
-- "islands u16, then branch u16 or FFFF"
abbrev pub form_frame : Frame
form_frame = record { kind = 0x84; widths = 4 ∷ 4 ∷ [] }

abbrev pub form_fields : Form → Fields form_frame.widths
form_fields f = (islands_field f, (branch_field f, tt))

unfoldable pub form_text : Form → List ℕ
form_text f = frame_text form_frame (form_fields f)

-- ---- 82
-- "switch id, 00 open or 01 close"
abbrev pub operation : Frame
operation = record { kind = 0x82; widths = 4 ∷ 2 ∷ [] }

-- "00 open or 01 close": what is done to the switch. A state's byte says how a switch stands, 00 closed and 01 open
abbrev pub action_byte : SwitchAction → ℕ
action_byte Open = 0
action_byte Close = 1

abbrev pub operation_fields : SwitchOperation → Fields operation.widths
operation_fields o = (o.switch_id, (action_byte o.action, tt))

unfoldable pub operation_text : SwitchOperation → List ℕ
operation_text o = frame_text operation (operation_fields o)

-- ---- 86
-- "a count byte, the closed ids, a count byte, the opened ids, each id u16, in list order"
abbrev pub ids_text : List ℕ → List ℕ
ids_text ids = digits 2 (length ids) ++ flat_map (digits 4) ids

unfoldable pub pair_text : List ℕ → List ℕ → List ℕ
pair_text closes opens = digits 2 0x86 ++ (ids_text closes ++ (ids_text opens ++ (10 ∷ [])))

-- ---- 87
-- "old line number u16, reason byte 01 branch or 02 switch"
abbrev pub dropped : Frame
dropped = record { kind = 0x87; widths = 4 ∷ 2 ∷ [] }

abbrev pub reason_byte : DropReason → ℕ
reason_byte Branch = 1
reason_byte Switch = 2

unfoldable pub dropped_text : ℕ → ℕ → List ℕ
dropped_text line reason = frame_text dropped (line, (reason, tt))

-- ---- 8F
-- "number byte, place (u16)"
abbrev pub refusal : Frame
refusal = record { kind = 0x8F; widths = 2 ∷ 4 ∷ [] }

unfoldable pub refusal_text : ℕ → ℕ → List ℕ
refusal_text number place = frame_text refusal (number, (place, tt))
