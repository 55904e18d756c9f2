-- Records in bytes are refused by 2 to 9, 14 or 15, or by 13, and never by 1: each line of their text is ended, and has two digits for each byte and nothing else.
use Rattle.std.specs.Prelude.{◌≡◌, refl, ◌⊎◌, Bool, true, false, ℕ, zero, suc, ◌*◌, ◌%◌, ◌≤◌, ◌<◌, length, take, drop}
use Rattle.std.proofs.Common.{sym, ap, subst, ◌∙◌, inl, inr, arith, lit≤, ne_eqb}
use mathlib.Core.List.{List, [], ◌∷◌, ◌++◌, flat_map, append_assoc, append-nil}
use Rattle.numbers.specs.Every.{every, every_append}
use Rattle.numbers.specs.Tests.{clash}
use Rattle.network.specs.Answers.{Answer, accepted, refused, ◌and_then◌, Fault, ◌if◌, judge, Judgement}
use Rattle.network.specs.AnswerLaws.{no_refusal}
use Rattle.network.specs.Inside.{Each}
use Rattle.network.specs.EachLaws.{each_take, each_drop}
use Rattle.network.specs.Limits.{Head}
use Rattle.network.specs.Records.{Network}
use Rattle.network.specs.declared.bus.Bus.{Bus}
use Rattle.network.specs.declared.branch.Branch.{Branch}
use Rattle.network.specs.declared.switch.Switch.{Switch}
use Rattle.network.specs.Faults.{head_faults, bus_faults, branch_faults, switch_faults}
use Rattle.feeders.specs.Supply.{supply_faults}
use Rattle.lines.specs.Hex.{is_digit, digits, Fields, write_fields}
use Rattle.lines.specs.HexLaws.{length_digits, every_fields}
use Rattle.lines.specs.Lines.{Line, cut, is_miswritten}
use Rattle.lines.specs.CutLaws.{cut_ended, digit_lines}
use Rattle.record_lines.specs.Kinds.{head, bus, branch, switch, supply, fields_of, head_line_faults, bus_line_faults, branch_line_faults, switch_line_faults}
use Rattle.frames.specs.Conditions.{LineConditions, conditions, judge_lines, judgement_of}
use Rattle.frames.specs.ConditionLaws.{OfKinds, all_each}
use Rattle.frames.specs.Proof.{claim}
use Rattle.frames.specs.Text.{supply_line_faults, read_text}
use Rattle.frames.specs.Lengths.{longest_text}
use Rattle.printing.specs.CallLaws.{call_refusals}
use Rattle.printing.specs.LineTexts.{length_lines}
use Rattle.texts.specs.TextLaws.{text_short}
use Rattle.record_bytes.specs.RecordBytes.{frame_bytes, line_of_bytes, lines_of_bytes, text_of_bytes, written_records}
use Rattle.record_bytes.specs.RecordBytesLaws.{Byte}

-- ---- the lines of the text
abbrev Well : Line → Type 0
Well l = is_miswritten l ≡ false

bytes_digits : (frame : List ℕ) → Each Byte frame → every is_digit (flat_map (digits 2) frame) ≡ true
unfolding every flat_map
bytes_digits [] h = refl
bytes_digits (b ∷ frame) h =
    let two : every is_digit (digits 2 b) ≡ true = unfold write_fields in rw append-nil at (every_fields (2 ∷ []) (b, tt) (h.0, tt)) in
    every_append is_digit (digits 2 b) (flat_map (digits 2) frame) two (bytes_digits frame h.1)

abbrev line_from : List ℕ → Line
line_from frame = record { chars = flat_map (digits 2) frame; ended = true }

line_well : (frame : List ℕ) → Each Byte frame → Well (line_from frame)
line_well frame h =
    let long : length (flat_map (digits 2) frame) ≡ 2 * length frame = length_lines (digits 2) 2 (length_digits 2) frame in
    rw (ne_eqb (length (flat_map (digits 2) frame) % 2) 1 (λ e. omega arith), bytes_digits frame h)

frame_cut : (frame rest : List ℕ) → Each Byte frame → cut (line_of_bytes frame ++ rest) ≡ line_from frame ∷ cut rest
frame_cut frame rest h =
    ap cut (append_assoc (flat_map (digits 2) frame) (10 ∷ []) rest)
    ∙ cut_ended (flat_map (digits 2) frame) rest (digit_lines (line_from frame ∷ []) (record { is_ended = refl; is_digits = bytes_digits frame h }, tt)).0

lines_well : (more : ℕ) (bytes : List ℕ) → Each Byte bytes → Each Well (cut (lines_of_bytes more bytes))
unfolding lines_of_bytes cut
lines_well zero bytes h = tt
lines_well (suc more) [] h = tt
lines_well (suc more) (kind ∷ bytes) h =
    let n = frame_bytes kind (length (kind ∷ bytes)) in
    let frame = take n (kind ∷ bytes) in
    let small = each_take Byte n (kind ∷ bytes) h in
    subst (Each Well) (sym (frame_cut frame (lines_of_bytes more (drop n (kind ∷ bytes))) small))
    (line_well frame small, lines_well more (drop n (kind ∷ bytes)) (each_drop Byte n (kind ∷ bytes) h))

-- ---- the refusals of such lines
-- rows 2 to 9 of document 01's table, and document 02's 14, 15 and 17
abbrev Row : ℕ → Type 0
Row n = ((2 ≤ n) × (n ≤ 9)) ⊎ (((14 ≤ n) × (n ≤ 15)) ⊎ (n ≡ 17))

abbrev ByRow : Judgement → Type 0
ByRow (accepted u) = Unit {0}
ByRow (refused number place) = Row number

-- a condition that is met is one of these rows
abbrev Rows : List Fault → Type 0
Rows [] = Unit {0}
Rows ((n if b) ∷ fs) = (b ≡ true → Row n) × Rows fs

judge_rows : (fs : List Fault) (p : ℕ) → Rows fs → ByRow (judge fs p)
unfolding judge
judge_rows [] p h = tt
judge_rows ((n if true) ∷ fs) p h = h.0 refl
judge_rows ((n if false) ∷ fs) p h = judge_rows fs p h.1

then_rows : (v w : Judgement) → ByRow v → ByRow w → ByRow (v and_then w)
unfolding ◌and_then◌
then_rows (accepted u) w h k = k
then_rows (refused n p) w h k = h

-- behind the condition on lines over 36 characters
abbrev RowsOf : LineConditions → Type 0
RowsOf c = Rows c.others

lines_rows : (p : ℕ) (cs : List LineConditions) → Each RowsOf cs → ByRow (judge_lines p cs)
unfolding judge_lines
lines_rows p [] h = tt
lines_rows p (c ∷ cs) h = then_rows _ _ (judge_rows ((2 if c.over) ∷ c.others) p (λ e. inl (lit≤ tt, lit≤ tt), h.0)) (lines_rows (suc p) cs h.1)

-- a line that is not miswritten, with the conditions of its fields
others_rows : (l : Line) (wrong : Bool) (fields : List Fault) → Well l → Rows fields → Rows ((1 if is_miswritten l) ∷ (2 if wrong) ∷ fields)
others_rows l wrong fields w h = (λ e. clash e w, (λ e. inl (lit≤ tt, lit≤ tt), h))

head_rows : (f : Fields head.widths) → Rows (head_line_faults f)
unfolding head_faults
head_rows f = (λ e. inl (lit≤ tt, lit≤ tt), (λ e. inl (lit≤ tt, lit≤ tt), (λ e. inl (lit≤ tt, lit≤ tt), (λ e. inl (lit≤ tt, lit≤ tt), tt))))

bus_rows : (before : List Bus) (f : Fields bus.widths) → Rows (bus_line_faults before f)
unfolding bus_faults
bus_rows before f = (λ e. inl (lit≤ tt, lit≤ tt), (λ e. inl (lit≤ tt, lit≤ tt), tt))

branch_rows : (buses : List Bus) (f : Fields branch.widths) → Rows (branch_line_faults false buses f)
unfolding branch_faults
branch_rows buses f = (λ e. inl (lit≤ tt, lit≤ tt), (λ e. inl (lit≤ tt, lit≤ tt), (λ e. inl (lit≤ tt, lit≤ tt), (λ e. inr (inr refl), tt))))

switch_rows : (h : Head) (before : List Switch) (f : Fields switch.widths) → Rows (switch_line_faults h before f)
unfolding switch_faults
switch_rows h before f = (λ e. inl (lit≤ tt, lit≤ tt), (λ e. inl (lit≤ tt, lit≤ tt), (λ e. inl (lit≤ tt, lit≤ tt), (λ e. inl (lit≤ tt, lit≤ tt), (λ e. inl (lit≤ tt, lit≤ tt), tt)))))

supply_rows : (buses : List Bus) (branches : List Branch) (switches : List Switch) (f : Fields supply.widths) → Rows (supply_line_faults false buses branches switches f)
unfolding supply_faults
supply_rows buses branches switches f = (λ e. inr (inl (lit≤ tt, lit≤ tt)), (λ e. inr (inl (lit≤ tt, lit≤ tt)), tt))

-- each kind's conditions, of lines that are not miswritten
rows_kinds : OfKinds false Well RowsOf
rows_kinds = record {
  of_missing = (λ e. inl (lit≤ tt, lit≤ tt), tt);
  of_surplus = λ l w. others_rows l _ [] w tt;
  of_head = λ l w. others_rows l _ (head_line_faults (fields_of head l)) w (head_rows (fields_of head l));
  of_bus = λ before l w. others_rows l _ (bus_line_faults before (fields_of bus l)) w (bus_rows before (fields_of bus l));
  of_branch = λ buses l w. others_rows l _ (branch_line_faults false buses (fields_of branch l)) w (branch_rows buses (fields_of branch l));
  of_switch = λ h before l w. others_rows l _ (switch_line_faults h before (fields_of switch l)) w (switch_rows h before (fields_of switch l));
  of_supply = λ buses branches switches l w. others_rows l _ (supply_line_faults false buses branches switches (fields_of supply l)) w (supply_rows buses branches switches (fields_of supply l));
}

-- ---- the answer
text_rows : (bytes : List ℕ) → Each Byte bytes → ByRow (judgement_of (read_text (text_of_bytes bytes)))
unfolding text_of_bytes
text_rows bytes h =
    subst ByRow (sym (claim.first (text_of_bytes bytes)))
    (lines_rows 1 (conditions false (cut (text_of_bytes bytes))) (all_each false Well RowsOf rows_kinds (cut (text_of_bytes bytes)) (lines_well (length bytes) bytes h)))

-- a row of the table, or 13 where the slice is shorter than the text
pub records_refusals : (bytes out : List ℕ) → Each Byte bytes → (number place : ℕ) → (written_records bytes out).answer ≡ refused number place
    → (((2 ≤ number) × (number ≤ 9)) ⊎ (((14 ≤ number) × (number ≤ 15)) ⊎ (number ≡ 17))) ⊎ ((number ≡ 13) × (place ≡ 0) × (length out < length (text_of_bytes bytes)))
unfolding written_records
records_refusals bytes out h number place e = go (call_refusals (judgement_of (read_text (text_of_bytes bytes))) (length (text_of_bytes bytes)) (text_of_bytes bytes) out e)
  where
    go : (judgement_of (read_text (text_of_bytes bytes)) ≡ refused number place)
        ⊎ ((judgement_of (read_text (text_of_bytes bytes)) ≡ accepted tt) × (number ≡ 13) × (place ≡ 0) × (length out < length (text_of_bytes bytes)))
        → (((2 ≤ number) × (number ≤ 9)) ⊎ (((14 ≤ number) × (number ≤ 15)) ⊎ (number ≡ 17))) ⊎ ((number ≡ 13) × (place ≡ 0) × (length out < length (text_of_bytes bytes)))
    go (inl tests) = inl (subst ByRow tests (text_rows bytes h))
    go (inr (passed, n, p, short)) = inr (n, p, short)

-- 27,436 bytes are room for every text: then only the text's own refusal can come
pub records_room : (bytes out : List ℕ) → longest_text ≤ length out → (number place : ℕ) → (written_records bytes out).answer ≡ refused number place → read_text (text_of_bytes bytes) ≡ refused number place
unfolding written_records judgement_of
records_room bytes out room number place e =
    go (read_text (text_of_bytes bytes)) refl (call_refusals (judgement_of (read_text (text_of_bytes bytes))) (length (text_of_bytes bytes)) (text_of_bytes bytes) out e)
  where
    go : (a : Answer Network) → read_text (text_of_bytes bytes) ≡ a
        → (judgement_of (read_text (text_of_bytes bytes)) ≡ refused number place)
        ⊎ ((judgement_of (read_text (text_of_bytes bytes)) ≡ accepted tt) × (number ≡ 13) × (place ≡ 0) × (length out < length (text_of_bytes bytes)))
        → read_text (text_of_bytes bytes) ≡ refused number place
    go (accepted N) q (inl tests) = no_refusal (sym tests ∙ ap judgement_of q)
    go (accepted N) q (inr (passed, n, p, short)) = let a = (claim.accepted_texts (text_of_bytes bytes) N).0 q in absurd (omega (arith, text_short N a.inside, ap length a.text))
    go (refused n p) q (inl tests) = q ∙ same (sym (ap judgement_of q) ∙ tests)
      where
        same : ◌≡◌ {A = Judgement} (refused n p) (refused number place) → ◌≡◌ {A = Answer Network} (refused n p) (refused number place)
        same e = let number_same : n ≡ number = cc in let place_same : p ≡ place = cc in rw (number_same, place_same)
    go (refused n p) q (inr (passed, n13, p0, short)) = no_refusal (sym (ap judgement_of q) ∙ passed)
