-- `judge_end` meets its contract: nothing behind the last frame is accepted; a line there is refused for its characters, else 2.
use Rattle.std.proofs.Common.{sym, ◌∙◌, arith, length-drop}
use Rattle.numbers.specs.Parts.{part_rest}
use Rattle.network.specs.AnswerLaws.{refused_on, accepted_then}
use Rattle.lines.specs.FirstLineLaws.{end_then, end_missing}
use Rattle.lines.proofs.line.judge_end.Goals as goal

pub returns-then-at-text : goal.returns-then-at-text
returns-then-at-text c = end_missing _ _ _ c.if-at-text.true

pub returns-in_err-judged : goal.returns-in_err-judged
returns-in_err-judged c =
    let l = length-drop c.args.at c.args.text.now in
    refused_on _ _ c.from_residual.ensures.1 c.in_err-judged.was (rw part_rest at c.judge_characters-judged.ensures) ∙ sym (end_then _ _ (omega arith))

pub returns : goal.returns
returns c =
    let l = length-drop c.args.at c.args.text.now in
    accepted_then _ c.in_ok-judged.was (rw part_rest at c.judge_characters-judged.ensures) ∙ sym (end_then _ _ (omega arith))
