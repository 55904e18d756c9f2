-- A line that passes rows 1 and 2 of a kind stands whole at the front of the text: its characters, and the lines behind it; and reading it is reading its fields.
use Rattle.std.specs.Prelude.{◌≡◌, ℕ, suc, ◌<◌, eqb, drop}
use Rattle.std.proofs.Math.Path.{refl, sym, ap}
use Rattle.std.proofs.Common.{◌∙◌, arith, length-append, take_at, drop_at, eqb-true}
use Rattle.std.proofs.Math.Bool.{true}
use mathlib.Core.List.{List, [], ◌∷◌, ◌++◌}
use Rattle.std.proofs.Math.ListN.{length, take}
use Rattle.std.proofs.Math.Seq.{append_snoc}
use Rattle.network.specs.Answers.{Answer, accepted, refused, ◌and_then◌, Fault, judge, Judgement}
use Rattle.lines.specs.Hex.{number, Fields, read_fields, total}
use Rattle.lines.specs.Lines.{Line, cut, line_faults}
use Rattle.lines.specs.Frames.{Frame, layout}
use Rattle.record_lines.specs.Kinds.{is_frame, fields_of, read_one, without}
use Rattle.lines.specs.JudgeLaws.{judge_append, line_passed}
use Rattle.record_lines.specs.JudgementLaws.{then_accepted, without_then}
use Rattle.network.specs.AnswerLaws.{same_value, no_refusal}
use Rattle.numbers.specs.Tests.{both}
use Rattle.lines.specs.FirstLine.{judge_first, wanted, judge_frame}
use Rattle.lines.specs.CutLaws.{joined, first_ended}

-- ---- a line of this length that passes rows 1 and 2
pub record Framed (t : List ℕ) (size : ℕ) : Type 0 where
  pub room : size < length t
  pub line : cut t ≡ record { chars = take size t; ended = true } ∷ cut (drop (suc size) t)

behind : (cs : List ℕ) (c : ℕ) (t : List ℕ) (n : ℕ) → length cs ≡ n → drop (suc n) (cs ++ (c ∷ t)) ≡ t
behind cs c t n e = rw (← append_snoc cs c t) (drop_at (cs ++ (c ∷ [])) t (suc n) (length-append cs (c ∷ []) ∙ omega arith))

line_framed : (kind size p : ℕ) (t : List ℕ) (l : Line) (ls : List Line) → cut t ≡ l ∷ ls → judge (line_faults (wanted kind size l) l) p ≡ accepted tt → Framed t size
unfolding line_faults
line_framed kind size p t l ls q a =
    let h = line_passed (wanted kind size l) l [] p a in
    let long : length l.chars ≡ size = eqb-true _ _ (both (eqb (length l.chars) size) (eqb (number (take 2 l.chars)) kind) h.2).0 in
    let f = first_ended t l ls q h.0 in
    let chars : l.chars ≡ take size t = sym (ap (take size) f.0 ∙ take_at l.chars _ size long) in
    let rest : cut (drop (suc size) t) ≡ ls = ap (λ x. cut (drop (suc size) x)) f.0 ∙ ap cut (behind l.chars 10 (joined ls) size long) ∙ f.1 in
    record {
      room = omega (arith, simp length-append at (ap length f.0));
      line = q ∙ (λ i. record { chars = chars i; ended = h.0 i } ∷ sym rest i);
    }

pub framed : (kind size p : ℕ) (t : List ℕ) → judge_frame kind size p (cut t) ≡ accepted tt → Framed t size
unfolding judge_frame judge_first
framed kind size p t e = go (cut t) refl e
  where
    go : (ls : List Line) → cut t ≡ ls → judge_frame kind size p ls ≡ accepted tt → Framed t size
    go [] q a = no_refusal a
    go (l ∷ ls) q a = line_framed kind size p t l ls q a

-- ---- reading one line of a kind
abbrev pub size : Frame → ℕ
size F = total (layout F)

-- the fields behind the kind byte of a line at the front of a text
abbrev pub fields_at : (F : Frame) → List ℕ → Fields F.widths
fields_at F t = read_fields F.widths (drop 2 (take (size F) t))

module _ {A : Type 0} (F : Frame) (make : Fields F.widths → A) (bytes : Fields F.widths → List Fault) (p : ℕ) where
  -- rows 1 and 2 come first
  pub one_refused : (ls : List Line) {m q : ℕ} → judge_frame F.kind (size F) p ls ≡ refused m q → read_one F make bytes p ls ≡ refused m q
  unfolding judge_frame judge_first read_one is_frame ◌and_then◌
  one_refused [] e = ap (λ (v : Judgement). v and_then refused 2 p) e
  one_refused (l ∷ ls) e = rw (judge_append (line_faults (is_frame F l) l) (bytes (fields_of F l)) p, e)

  -- then the fields
  pub one_framed : (t : List ℕ) → judge_frame F.kind (size F) p (cut t) ≡ accepted tt
      → read_one F make bytes p (cut t) ≡ (judge (bytes (fields_at F t)) p and_then accepted (make (fields_at F t), cut (drop (suc (size F)) t)))
  unfolding judge_frame judge_first read_one is_frame fields_of read_fields ◌and_then◌
  one_framed t e =
      let f = framed F.kind (size F) p t e in
      let l : Line = record { chars = take (size F) t; ended = true } in
      let rest = cut (drop (suc (size F)) t) in
      let clear : judge (line_faults (is_frame F l) l) p ≡ accepted tt = sym (ap (judge_frame F.kind (size F) p) f.line) ∙ e in
      ap (read_one F make bytes p) f.line ∙ rw (judge_append (line_faults (is_frame F l) l) (bytes (fields_of F l)) p, clear)

-- ---- a refusal
pub without_refused : {A : Type 0} (x : Answer (A × List Line)) {m q : ℕ} → without x ≡ refused m q → x ≡ refused m q
unfolding without
without_refused (accepted r) e = no_refusal (sym e)
without_refused (refused n p) e = cc

-- ---- the line that is read is the one at the front
module _ {A : Type 0} (F : Frame) (make : Fields F.widths → A) (bytes : Fields F.widths → List Fault) (p : ℕ) where
  pub one_made : (t : List ℕ) {a : A} → without (read_one F make bytes p (cut t)) ≡ accepted a
      → (read_one F make bytes p (cut t) ≡ accepted (a, cut (drop (suc (size F)) t))) × (size F < length t)
  unfolding without ◌and_then◌
  one_made t {a} e = go (judge_frame F.kind (size F) p (cut t)) refl
    where
      go : (v : Judgement) → judge_frame F.kind (size F) p (cut t) ≡ v → (read_one F make bytes p (cut t) ≡ accepted (a, cut (drop (suc (size F)) t))) × (size F < length t)
      go (refused m q) f = no_refusal (sym (ap without (one_refused F make bytes p (cut t) f)) ∙ e)
      go (accepted u) f =
          let rest : List Line = cut (drop (suc (size F)) t) in
          let v : Judgement = judge (bytes (fields_at F t)) p in
          let o = one_framed F make bytes p t f in
          let k = then_accepted v (accepted (make (fields_at F t))) (sym (without_then v (make (fields_at F t)) rest) ∙ sym (ap without o) ∙ e) in
          (o ∙ ap (λ (x : Judgement). x and_then accepted (make (fields_at F t), rest)) k.0 ∙ ap (λ (x : A). accepted (x, rest)) (same_value k.1), (framed F.kind (size F) p t f).room)
