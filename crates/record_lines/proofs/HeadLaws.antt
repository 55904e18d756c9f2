-- A head line: the head that its fields make is judged behind its method byte.
use Rattle.std.proofs.Common.{◌≡◌, refl, sym, ap, ◌∙◌, append_assoc, List, [], ◌∷◌, ◌++◌, Result, Ok, Err}
use Rattle.network.specs.declared.error.Refusal.{Refusal}
use Rattle.network.specs.Answers.{Answer, accepted, refused, answer_of, number_of, place_of, ◌and_then◌, judge, Judgement}
use Rattle.network.specs.AnswerLaws.{accepted_so, refused_so}
use Rattle.network.specs.Limits.{Head}
use Rattle.network.specs.Faults.{head_faults}
use Rattle.lines.specs.Lines.{Line, line_faults}
use Rattle.lines.specs.JudgeLaws.{judge_append}
use Rattle.record_lines.specs.declared.head.Head as Heads
use Rattle.record_lines.specs.Kinds.{head, head_from, head_bytes, head_line_faults, is_frame, fields_of, read_one, without}
use Rattle.record_lines.specs.LineAnswers.{head_made, head_of_code}
use Rattle.record_lines.specs.JudgementLaws.{without_then}

-- the head that stands in a line, judged
abbrev judged : Answer Heads.Head → Answer Head
judged (accepted h) = judge (head_faults (head_of_code h)) 1 and_then accepted (head_of_code h)
judged (refused n q) = refused n q

judged_then : (v : Judgement) (h : Heads.Head) → judged (v and_then accepted h) ≡ ((v and_then judge (head_faults (head_of_code h)) 1) and_then accepted (head_of_code h))
unfolding ◌and_then◌
judged_then (accepted u) h = refl
judged_then (refused n q) h = refl

head_judged : (ls : List Line) → judged (without (read_one head head_made head_bytes 1 ls)) ≡ without (read_one head head_from head_line_faults 1 ls)
unfolding read_one without
head_judged [] = refl
head_judged (l ∷ ls) =
    let f = fields_of head l in
    let own = line_faults (is_frame head l) l in
    let more = head_faults (head_from f) in
    let line = judge_append (own ++ head_bytes f) more 1 in
    ap judged (without_then (judge (own ++ head_bytes f) 1) (head_made f) ls) ∙ judged_then (judge (own ++ head_bytes f) 1) (head_made f)
    ∙ ap (λ (v : Judgement). v and_then accepted (head_from f)) (sym line ∙ ap (λ fs. judge fs 1) (append_assoc own (head_bytes f) more))
    ∙ sym (without_then _ (head_from f) ls)

module _ (ls : List Line) {v : Result Heads.Head Refusal} (e : answer_of v ≡ without (read_one head head_made head_bytes 1 ls)) where
  pub head_refused : {r : Refusal} → v ≡ Err r → refused (number_of r) (place_of r) ≡ without (read_one head head_from head_line_faults 1 ls)
  head_refused q = sym (ap judged (refused_so q e)) ∙ head_judged ls

  pub head_read : {h : Heads.Head} → v ≡ Ok h
      → (judge (head_faults (head_of_code h)) 1 and_then accepted (head_of_code h)) ≡ without (read_one head head_from head_line_faults 1 ls)
  head_read q = sym (ap judged (accepted_so q e)) ∙ head_judged ls
