-- A judgement before an answer.
use Rattle.std.specs.Prelude.{◌≡◌, refl, List}
use Rattle.network.specs.Answers.{Answer, accepted, refused, ◌and_then◌, Judgement}
use Rattle.network.specs.AnswerLaws.{no_refusal}
use Rattle.lines.specs.Lines.{Line}
use Rattle.record_lines.specs.Kinds.{without}

pub then_accepted : {A : Type 0} (v : Judgement) (b : Answer A) {a : A} → (v and_then b) ≡ accepted a → (v ≡ accepted tt) × (b ≡ accepted a)
unfolding ◌and_then◌
then_accepted (accepted u) b e = (refl, e)
then_accepted (refused n p) b e = no_refusal e

pub without_then : {A : Type 0} (v : Judgement) (a : A) (ls : List Line) → without (v and_then accepted (a, ls)) ≡ (v and_then accepted a)
unfolding without ◌and_then◌
without_then (accepted u) a ls = refl
without_then (refused n p) a ls = refl
