-- `judge_line` meets its contract: what the characters are refused for comes first, then length and kind byte.
use Rattle.std.proofs.Common.{sym, ◌∙◌}
use Rattle.numbers.specs.Parts.{part_rest}
use Rattle.network.specs.AnswerLaws.{refused_on, accepted_so, accepted_then}
use Rattle.lines.specs.FirstLineLaws.{clear_at, other_size, other_kind, as_wanted, frame_then, frame_missing}
use Rattle.lines.proofs.line.judge_line.Goals.{then-n-size-via-then-n-size, then-n-size-via-else-n-size+then-number_at-from}
use Rattle.lines.proofs.line.judge_line.Goals as goal

pub returns-then-at-text : goal.returns-then-at-text
returns-then-at-text c = frame_missing _ _ _ _ _ c.if-at-text.true

pub returns-in_err-judge_characters : goal.returns-in_err-judge_characters
returns-in_err-judge_characters c =
    refused_on _ _ c.from_residual.ensures.1 c.in_err-judge_characters.was (rw part_rest at c.judge_characters.ensures) ∙ sym (frame_then _ _ _ _)

pub returns-then-n-size : goal.returns-then-n-size
returns-then-n-size c =
    let ends = rw part_rest at c.line_length-n.ensures in
    let judged = rw part_rest at c.judge_characters.ensures in
    let clear = clear_at _ _ _ _ ends c.if-at-text.false (sym (accepted_so c.in_ok-judge_characters.was judged)) in
    sym (frame_then _ _ _ _ ∙ sym (accepted_then _ c.in_ok-judge_characters.was judged)
    ∙ elim c.then-n-size.branch [
      | then-n-size-via-then-n-size w ↦ other_size _ _ _ _ _ _ clear w.if-n-size.true
      | then-n-size-via-else-n-size+then-number_at-from w ↦
          other_kind _ _ _ _ _ _ clear (λ q. w.if-number_at-from.true ((rw part_rest at w.number_at.ensures) ∙ q ∙ sym w.from.ensures))
    ])

pub returns : goal.returns
returns c =
    let ends = rw part_rest at c.line_length-n.ensures in
    let judged = rw part_rest at c.judge_characters.ensures in
    let clear = clear_at _ _ _ _ ends c.if-at-text.false (sym (accepted_so c.in_ok-judge_characters.was judged)) in
    sym (frame_then _ _ _ _ ∙ sym (accepted_then _ c.in_ok-judge_characters.was judged)
    ∙ as_wanted _ _ _ _ _ _ clear c.if-n-size.false (sym (rw part_rest at c.number_at.ensures) ∙ c.if-number_at-from.false ∙ c.from.ensures))
