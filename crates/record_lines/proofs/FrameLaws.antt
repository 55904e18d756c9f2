-- One frame of a text, at the position where its line begins: its line is there, and reading it is reading its fields.
use mathlib.Core.Path.{◌≡◌, sym, ap, ◌∙◌}
use mathlib.Core.List.{List}
use Prim.Native.Nat.{ℕ, ◌+◌, ◌-◌, ◌<◌}
use native.Mathlib.Omega.{arith}
use lib.ListN.{length, take, drop, length-drop}
use lib.Seq.{length-take-le}
use Rattle.std.proofs.Common.{Result, Ok, Err}
use Rattle.network.specs.declared.error.Refusal.{Refusal}
use Rattle.network.specs.Answers.{Answer, accepted, refused, answer_of, number_of, place_of, ◌and_then◌, Fault, judge}
use Rattle.lines.specs.Hex.{Fields, read_fields}
use Rattle.lines.specs.Lines.{cut}
use Rattle.lines.specs.Frames.{Frame}
use Rattle.record_lines.specs.Kinds.{read_one, without}
use Rattle.record_lines.specs.JudgementLaws.{without_then}
use Rattle.lines.specs.FirstLine.{judge_frame}
use Rattle.record_lines.specs.FramedLaws.{framed, size, one_refused, one_framed}
use Rattle.numbers.specs.Parts.{part_rest, part_is}

-- the part of the text that the code takes for a line of n characters, and the part behind its kind byte
module _ (text : List ℕ) (at n : ℕ) where
  abbrev line : List ℕ
  line = take (at + n - at) (drop at text)

  abbrev behind_kind : List ℕ
  behind_kind = take (length line - 2) (drop 2 line)

  behind_kind_lem : behind_kind ≡ drop 2 (take n (drop at text))
  behind_kind_lem = part_rest line 2 ∙ ap (drop 2) (part_is text at n)

-- all its characters are there
module _ (text : List ℕ) (at kind n p : ℕ) (e : accepted tt ≡ judge_frame kind n p (cut (drop at text))) where
  pub frame_long : length (take n (drop at text)) ≡ n
  frame_long = length-take-le n (drop at text) (omega (arith, (framed kind n p (drop at text) (sym e)).room))

-- what is judged of it
module _ (text : List ℕ) (at p kind n : ℕ) (v : Result (Unit {0}) Refusal) (e : answer_of v ≡ judge_frame kind n p (cut (drop at text))) where
  pub frame_room : {u : Unit {0}} → v ≡ Ok u → at + n < length text
  frame_room q = omega (arith, (framed kind n p (drop at text) (sym e ∙ ap answer_of q)).room, length-drop at text)

  -- the characters are those of the frame F
  module _ {A : Type 0} (F : Frame) (k : kind ≡ F.kind) (s : n ≡ size F) (make : Fields F.widths → A) (bytes : Fields F.widths → List Fault) where
    judged : answer_of v ≡ judge_frame F.kind (size F) p (cut (drop at text))
    judged = rw (k, s) at e

    pub frame_refused : {r : Refusal} → v ≡ Err r → refused (number_of r) (place_of r) ≡ without (read_one F make bytes p (cut (drop at text)))
    unfolding without
    frame_refused q = sym (ap without (one_refused F make bytes p (cut (drop at text)) (sym judged ∙ ap answer_of q)))

    pub frame_read : {u : Unit {0}} → v ≡ Ok u → {x : Answer A}
        → x ≡ (judge (bytes (read_fields F.widths (behind_kind text at n))) p and_then accepted (make (read_fields F.widths (behind_kind text at n)))) → x ≡ without (read_one F make bytes p (cut (drop at text)))
    frame_read q f =
        f ∙ ap (λ (y : List ℕ). judge (bytes (read_fields F.widths y)) p and_then accepted (make (read_fields F.widths y))) (behind_kind_lem text at n ∙ ap (λ (m : ℕ). drop 2 (take m (drop at text))) s)
        ∙ sym (ap without (one_framed F make bytes p (drop at text) (sym judged ∙ ap answer_of q)) ∙ without_then _ _ _)
