-- A line of a kind without a fault is its fields.
use Rattle.std.proofs.Math.Path.{◌≡◌, ap}
use Rattle.std.specs.Prelude.{refl, Bool, true, ◌||◌, ℕ, ◌%◌, ◌^◌, ◌≤◌, ◌<◌, length}
use Rattle.std.proofs.Common.{sym, ap₂, ◌∙◌, lit<, lit≤}
use Rattle.std.proofs.Math.Bool.{false, not}
use mathlib.Core.List.{List, [], ◌∷◌, ◌++◌, map, flat_map, append_assoc}
use Rattle.std.proofs.Math.Dec.{ltb, eqb}
use borrow.Author.Tests.{le-ltb, eq-eqb, eqb-true}
use Rattle.numbers.specs.Every.{every}
use Rattle.numbers.specs.Tests.{both}
use Rattle.network.specs.Answers.{accepted, Fault, judge}
use Rattle.lines.specs.Hex.{is_digit, Fields, read_fields, write_fields, Fit, total}
use Rattle.lines.specs.HexLaws.{length_fields, every_fields, fields_kept, chars_kept}
use Rattle.lines.specs.Lines.{Line, line_faults, cut}
use Rattle.lines.specs.CutLaws.{cut_ended, DigitLine, written_no_feed}
use Rattle.lines.specs.JudgeLaws.{judge_past, line_passed}
use Rattle.lines.specs.Frames.{Frame, layout, frame_text}
use Rattle.record_lines.specs.Kinds.{head, bus, branch, switch, supply, is_frame, fields_of}

-- ---- lines of a kind
pub record Sound (F : Frame) : Type 0 where
  pub byte : F.kind < 16 ^ 2
  pub short : total (layout F) ≤ 36
  pub even : eqb (total (layout F) % 2) 1 ≡ false

pub head_sound : Sound head
head_sound = record { byte = lit< tt; short = lit≤ tt; even = refl }

pub bus_sound : Sound bus
bus_sound = record { byte = lit< tt; short = lit≤ tt; even = refl }

pub branch_sound : Sound branch
branch_sound = record { byte = lit< tt; short = lit≤ tt; even = refl }

pub switch_sound : Sound switch
switch_sound = record { byte = lit< tt; short = lit≤ tt; even = refl }

pub supply_sound : Sound supply
supply_sound = record { byte = lit< tt; short = lit≤ tt; even = refl }

-- the line that fields make
unfoldable pub line_of : (F : Frame) → Fields F.widths → Line
line_of F f = record { chars = write_fields (layout F) (F.kind, f); ended = true }

-- a frame's text is one line
pub cut_frame : (F : Frame) (f : Fields F.widths) (rest : List ℕ) → cut (frame_text F f ++ rest) ≡ line_of F f ∷ cut rest
unfolding frame_text line_of
cut_frame F f rest =
    let chars = write_fields (layout F) (F.kind, f) in
    ap cut (append_assoc chars (10 ∷ []) rest) ∙ cut_ended chars rest (written_no_feed (layout F) (F.kind, f))

-- where each text is one line, the texts of many are their lines
pub cut_each : {A : Type 0} (text : A → List ℕ) (line : A → Line) → ((a : A) (rest : List ℕ) → cut (text a ++ rest) ≡ line a ∷ cut rest) → (l : List A) (rest : List ℕ)
    → cut (flat_map text l ++ rest) ≡ map line l ++ cut rest
unfolding flat_map
cut_each text line one [] rest = refl
cut_each text line one (a ∷ l) rest =
    ap cut (append_assoc (text a) (flat_map text l) rest) ∙ one a (flat_map text l ++ rest) ∙ ap (λ (ls : List Line). line a ∷ ls) (cut_each text line one l rest)

pub cut_frames : {A : Type 0} (F : Frame) (fields : A → Fields F.widths) (l : List A) (rest : List ℕ)
    → cut (flat_map (λ a. frame_text F (fields a)) l ++ rest) ≡ map (λ a. line_of F (fields a)) l ++ cut rest
cut_frames F fields = cut_each (λ a. frame_text F (fields a)) (λ a. line_of F (fields a)) (λ a. cut_frame F (fields a))

module _ (F : Frame) (s : Sound F) where
  pub line_digits : (f : Fields F.widths) → Fit F.widths f → DigitLine (line_of F f)
  unfolding line_of
  line_digits f h = record { is_ended = refl; is_digits = every_fields (layout F) (F.kind, f) (s.byte, h) }

  pub line_long : (f : Fields F.widths) → length (line_of F f).chars ≡ total (layout F)
  unfolding line_of
  line_long f = length_fields (layout F) (F.kind, f)

  line_fields : (f : Fields F.widths) → Fit F.widths f → read_fields (layout F) (line_of F f).chars ≡ (F.kind, f)
  unfolding line_of
  line_fields f h = fields_kept (layout F) (F.kind, f) (s.byte, h)

  pub fields_line : (f : Fields F.widths) → Fit F.widths f → fields_of F (line_of F f) ≡ f
  unfolding fields_of
  fields_line f h = ap (λ (g : Fields (layout F)). g.1) (line_fields f h)

  line_is_frame : (f : Fields F.widths) → Fit F.widths f → is_frame F (line_of F f) ≡ true
  unfolding is_frame read_fields
  line_is_frame f h = rw (eq-eqb _ _ (line_long f), eq-eqb _ _ (ap (λ (g : Fields (layout F)). g.0) (line_fields f h)))

  -- the line that fields make meets none of the conditions of lines
  pub line_clear : (f : Fields F.widths) → Fit F.widths f → (fs : List Fault) (p : ℕ) → judge (line_faults (is_frame F (line_of F f)) (line_of F f) ++ fs) p ≡ judge fs p
  unfolding line_faults
  line_clear f h fs p =
      let l = line_of F f in
      let pl = line_digits f h in
      let long = line_long f in
      let b1 : ltb 36 (length l.chars) ≡ false = rw long (le-ltb 36 _ s.short) in
      let b2 : (not l.ended || eqb (length l.chars % 2) 1 || not (every is_digit l.chars)) ≡ false = rw (pl.is_ended, long, s.even, pl.is_digits) in
      let b3 : not (is_frame F l) ≡ false = rw (line_is_frame f h) in
      judge_past 2 _ _ p b1 ∙ judge_past 1 _ _ p b2 ∙ judge_past 2 _ _ p b3

  -- a line that meets none is the line of its fields
  pub line_kept : (l : Line) (fs : List Fault) (p : ℕ) → judge (line_faults (is_frame F l) l ++ fs) p ≡ accepted tt
      → (l ≡ line_of F (fields_of F l)) × Fit F.widths (fields_of F l) × (judge fs p ≡ accepted tt)
  unfolding is_frame fields_of line_of read_fields
  line_kept l fs p e =
      let h = line_passed (is_frame F l) l fs p e in
      let read : Fields (layout F) = read_fields (layout F) l.chars in
      let like = both (eqb (length l.chars) (total (layout F))) (eqb read.0 F.kind) h.2 in
      let kept = chars_kept (layout F) l.chars (eqb-true _ _ like.0) h.1 in
      let kind : ◌≡◌ {A = Fields (layout F)} (F.kind, read.1) read = ap (λ (k : ℕ). (k, read.1)) (sym (eqb-true _ _ like.1)) in
      let same : write_fields (layout F) (F.kind, read.1) ≡ l.chars = ap (write_fields (layout F)) kind ∙ kept.0 in
      (ap₂ (λ (cs : List ℕ) (b : Bool). record { chars = cs; ended = b }) (sym same) h.0, kept.1.1, h.3)
