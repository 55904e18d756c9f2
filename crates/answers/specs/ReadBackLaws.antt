-- Laws of reading back: lines of other kinds give nothing, and what is read of a line of a kind is what was written into it.
use Rattle.std.specs.Prelude.{◌≡◌, ◌≢◌, true, ℕ, ◌+◌, ◌*◌, ◌^◌, ◌<◌, ◌≤◌, min, length, take, drop}
use Rattle.std.proofs.Math.Path.{refl}
use Rattle.std.proofs.Common.{sym, ap, ap₂, ◌∙◌, arith, lit<, lit≤, length-append, drop-drop, take_at, drop_at, eq-eqb, ne_eqb}
use mathlib.Core.List.{List, [], ◌∷◌, ◌++◌, map, flat_map, append_assoc, append-nil}
use Rattle.numbers.specs.Every.{every, every_append}
use Rattle.network.specs.Inside.{Each}
use Rattle.lines.specs.Hex.{is_digit, value, digit, number, number_at, digits, Fields, read_fields, write_fields}
use Rattle.lines.specs.HexLaws.{length_digits, number_digits, fields_kept}
use Rattle.lines.specs.CutLaws.{no_feed, cut_ended, digits_written_no_feed}
use Rattle.lines.specs.Lines.{Line, cut}
use Rattle.lines.specs.Frames.{layout}
use Rattle.graph.specs.declared.form.Form.{Form}
use Rattle.graph.specs.Form.{islands_field, branch_field, fields_of}
use Rattle.frames.specs.Acceptable.{Short}
use Rattle.frames.specs.LineLaws.{line_of}
use Rattle.printing.specs.declared.writer.SwitchAction.{SwitchAction}
use Rattle.printing.specs.declared.writer.SwitchAction.TheVariants.{Open, Close}
use Rattle.printing.specs.declared.writer.SwitchOperation.{SwitchOperation}
use Rattle.printing.specs.Printed.{answer, form_frame, form_fields, operation, action_byte, operation_fields, ids_text, pair_text}
use Rattle.printing.specs.LineTexts.{length_lines}
use Rattle.plan.specs.Plan.{Moves}
use Rattle.answers.specs.ReadBack.{kind_of, of_kind, read_form, read_action, read_operation, ids_at, read_pair}

-- ---- lines of the kind and of other kinds
module _ {A B : Type 0} (kind : ℕ) (read : List ℕ → A) (line : B → Line) where
  pub own_kind : ((b : B) → kind_of (line b) ≡ kind) → (l : List B) (rest : List Line)
      → of_kind kind read (map line l ++ rest) ≡ map (λ b. read (line b).chars) l ++ of_kind kind read rest
  unfolding of_kind
  own_kind h [] rest = refl
  own_kind h (b ∷ l) rest = rw (eq-eqb (kind_of (line b)) kind (h b), own_kind h l rest)

  pub other_kind : ((b : B) → kind_of (line b) ≢ kind) → (l : List B) (rest : List Line) → of_kind kind read (map line l ++ rest) ≡ of_kind kind read rest
  unfolding of_kind
  other_kind h [] rest = refl
  other_kind h (b ∷ l) rest = rw (ne_eqb (kind_of (line b)) kind (h b)) (other_kind h l rest)

-- the kind byte of each kind with fields of fixed widths; the fourth, of a pair, is `pair_kind` below
pub answer_kind : (f : Fields answer.widths) → kind_of (line_of answer f) ≡ 0x81
unfolding line_of write_fields digits digit number value is_digit
answer_kind f = refl

pub form_kind : (f : Fields form_frame.widths) → kind_of (line_of form_frame f) ≡ 0x84
unfolding line_of write_fields digits digit number value is_digit
form_kind f = refl

pub operation_kind : (f : Fields operation.widths) → kind_of (line_of operation f) ≡ 0x82
unfolding line_of write_fields digits digit number value is_digit
operation_kind f = refl

-- ---- what is read is what was written
-- the second field begins behind four digits
second_at : (width : ℕ) (cs : List ℕ) → number (take width (drop 6 cs)) ≡ number (take width (drop 4 (drop 2 cs)))
second_at width cs = ap (λ (x : List ℕ). number (take width x)) (sym (drop-drop 4 2 cs))

action_byte_lem : (a : SwitchAction) → action_byte a < 16 ^ 2
action_byte_lem Open = lit< tt
action_byte_lem Close = lit< tt

action_kept : (a : SwitchAction) → read_action (action_byte a) ≡ a
unfolding read_action
action_kept Open = refl
action_kept Close = refl

pub operation_kept : (o : SwitchOperation) → Short o.switch_id → read_operation (line_of operation (operation_fields o)).chars ≡ o
unfolding read_operation line_of read_fields
operation_kept o short =
    let chars = write_fields (layout operation) (0x82, operation_fields o) in
    let kept = fields_kept (layout operation) (0x82, operation_fields o) (lit< tt, (short, (action_byte_lem o.action, tt))) in
    let id : number_at 2 4 chars ≡ o.switch_id = ap (λ (f : Fields (layout operation)). f.1.0) kept in
    let byte : number_at 6 2 chars ≡ action_byte o.action = second_at 2 chars ∙ ap (λ (f : Fields (layout operation)). f.1.1.0) kept in
    ap₂ (λ (x : ℕ) (a : SwitchAction). record { switch_id = x; action = a }) id (ap read_action byte ∙ action_kept o.action)

-- two fields of four digits
two_numbers : (kind : ℕ) → kind < 16 ^ 2 → (x y : ℕ) → Short x × Short y
    → let chars = write_fields (2 ∷ 4 ∷ 4 ∷ []) (kind, (x, (y, tt))) in (number_at 2 4 chars ≡ x) × (number_at 6 4 chars ≡ y)
unfolding read_fields
two_numbers kind small x y short =
    let chars = write_fields (2 ∷ 4 ∷ 4 ∷ []) (kind, (x, (y, tt))) in
    let kept = fields_kept (2 ∷ 4 ∷ 4 ∷ []) (kind, (x, (y, tt))) (small, (short.0, (short.1, tt))) in
    (ap (λ (f : Fields (2 ∷ 4 ∷ 4 ∷ [])). f.1.0) kept, second_at 4 chars ∙ ap (λ (f : Fields (2 ∷ 4 ∷ 4 ∷ [])). f.1.1.0) kept)

pub form_kept : (f : Form) → Short (islands_field f) × Short (branch_field f) → read_form (line_of form_frame (form_fields f)).chars ≡ fields_of f
unfolding read_form line_of
form_kept f short =
    let kept = two_numbers 0x84 (lit< tt) (islands_field f) (branch_field f) short in
    ap₂ (λ (x y : ℕ). record { islands = x; branch = y }) kept.0 kept.1

-- ---- 86: lists of ids
-- the characters of a pair's line
abbrev pub pair_chars : Moves → List ℕ
pair_chars m = digits 2 0x86 ++ (ids_text m.closes ++ ids_text m.opens)

abbrev pub pair_line : Moves → Line
pair_line m = record { chars = pair_chars m; ended = true }

pub pair_kind : (m : Moves) → kind_of (pair_line m) ≡ 0x86
unfolding digits digit number value is_digit
pair_kind m = refl

ids_no_feed : (ids : List ℕ) → every no_feed (flat_map (digits 4) ids) ≡ true
unfolding flat_map every
ids_no_feed [] = refl
ids_no_feed (x ∷ ids) = every_append no_feed (digits 4 x) _ (digits_written_no_feed 4 x) (ids_no_feed ids)

list_no_feed : (ids : List ℕ) → every no_feed (ids_text ids) ≡ true
list_no_feed ids = every_append no_feed (digits 2 (length ids)) _ (digits_written_no_feed 2 (length ids)) (ids_no_feed ids)

pub cut_pair : (m : Moves) (rest : List ℕ) → cut (pair_text m.closes m.opens ++ rest) ≡ pair_line m ∷ cut rest
unfolding pair_text
cut_pair m rest =
    let same : pair_text m.closes m.opens ++ rest ≡ pair_chars m ++ (10 ∷ rest) = simp append_assoc in
    ap cut same
    ∙ cut_ended (pair_chars m) rest
    (every_append no_feed (digits 2 0x86) _ (digits_written_no_feed 2 0x86) (every_append no_feed (ids_text m.closes) _ (list_no_feed m.closes) (list_no_feed m.opens)))

-- a number of w digits behind others
number_behind : (front : List ℕ) {at : ℕ} → length front ≡ at → (w n : ℕ) → w ≤ 16 → n < 16 ^ w → (rest : List ℕ) → number_at at w (front ++ (digits w n ++ rest)) ≡ n
number_behind front {at} long w n few small rest =
    let all : min w 16 ≡ w = omega arith in
    rw (all, drop_at front (digits w n ++ rest) at long, take_at (digits w n) rest w (length_digits w n), number_digits w n small)

-- ids behind others
ids_behind : (front : List ℕ) {at : ℕ} → length front ≡ at → (ids : List ℕ) → Each Short ids → (rest : List ℕ) → ids_at at (length ids) (front ++ (flat_map (digits 4) ids ++ rest)) ≡ ids
unfolding ids_at flat_map
ids_behind front long [] short rest = refl
ids_behind front {at} long (x ∷ ids) short rest =
    let more = flat_map (digits 4) ids ++ rest in
    let here : front ++ ((digits 4 x ++ flat_map (digits 4) ids) ++ rest) ≡ front ++ (digits 4 x ++ more) = ap (λ (cs : List ℕ). front ++ cs) (append_assoc (digits 4 x) (flat_map (digits 4) ids) rest) in
    let behind : front ++ (digits 4 x ++ more) ≡ (front ++ digits 4 x) ++ more = sym (append_assoc front (digits 4 x) more) in
    let next : length (front ++ digits 4 x) ≡ at + 4 = length-append front (digits 4 x) ∙ rw (long, length_digits) in
    ap₂ (λ (y : ℕ) (ys : List ℕ). y ∷ ys)
    (ap (number_at at 4) here ∙ number_behind front long 4 x (lit≤ tt) short.0 more)
    (ap (ids_at (at + 4) (length ids)) (here ∙ behind) ∙ ids_behind (front ++ digits 4 x) next ids short.1 rest)

-- ids of four digits, and counts of two
abbrev pub Named : Moves → Type 0
Named m = Each Short m.closes × Each Short m.opens × (length m.closes < 256) × (length m.opens < 256)

pub pair_kept : (m : Moves) → Named m → read_pair (pair_chars m) ≡ m
unfolding read_pair
pair_kept m (ids, others, few, fewer) =
    let kind = digits 2 0x86 in
    let count = digits 2 (length m.closes) in
    let closed = flat_map (digits 4) m.closes in
    let number = digits 2 (length m.opens) in
    let opened = flat_map (digits 4) m.opens in
    let chars = pair_chars m in
    let n = length m.closes in
    let one : chars ≡ kind ++ (count ++ (closed ++ (number ++ opened))) = simp append_assoc in
    let two : chars ≡ (kind ++ count) ++ (closed ++ (number ++ opened)) = simp append_assoc in
    let three : chars ≡ ((kind ++ count) ++ closed) ++ (number ++ opened) = simp append_assoc in
    let four : chars ≡ (((kind ++ count) ++ closed) ++ number) ++ (opened ++ []) = simp (append_assoc, append-nil) in
    let long : length ((kind ++ count) ++ closed) ≡ 4 + 4 * n = simp (length-append, length_digits, length_lines (digits 4) 4 (length_digits 4) m.closes) in
    let all : length (((kind ++ count) ++ closed) ++ number) ≡ 4 + 4 * n + 2 = length-append ((kind ++ count) ++ closed) number ∙ rw (long, length_digits) in
    let first : number_at 2 2 chars ≡ n = ap (number_at 2 2) one ∙ number_behind kind (length_digits 2 0x86) 2 n (lit≤ tt) few (closed ++ (number ++ opened)) in
    let second : number_at (4 + 4 * n) 2 chars ≡ length m.opens = ap (number_at (4 + 4 * n) 2) three ∙ number_behind ((kind ++ count) ++ closed) long 2 (length m.opens) (lit≤ tt) fewer opened in
    let closes : ids_at 4 n chars ≡ m.closes = ap (ids_at 4 n) two ∙ ids_behind (kind ++ count) (simp (length-append, length_digits)) m.closes ids (number ++ opened) in
    let opens : ids_at (4 + 4 * n + 2) (length m.opens) chars ≡ m.opens = ap (ids_at (4 + 4 * n + 2) (length m.opens)) four ∙ ids_behind (((kind ++ count) ++ closed) ++ number) all m.opens others [] in
    rw (first, second, closes, opens)
