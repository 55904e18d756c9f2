-- `print_text` meets its contract: what is made of the call's answer is what is printed, by `printed_by_call`.
use Rattle.std.proofs.Common.{◌≡◌, ◌∙◌, ap, arith, length, rules}
use Rattle.slices.specs.WrittenLaws.{take_written}
use Rattle.printing.specs.Printed.{refusal_text}
use Rattle.printing.specs.LineTexts.{length_refusal}
use Rattle.answers.specs.Printing.{printed_by}
use Rattle.answers.specs.PrintingLaws.{printed_short, printed_count, printed_by_call}
use Rattle.input.specs.CountLaws.{counts}
use Rattle.feeder.proofs.print_text.Goals as goal

pub returns-in-Ok-clause-prefix_len : goal.returns-in-Ok-clause-prefix_len
returns-in-Ok-clause-prefix_len c =
    let text = c.args.text.now in
    let e = rw c.in-Ok.is at c.answer_text.ensures in
    let long : length c.answer_text.new.out ≡ length c.args.out.now = search rules in
    let same = printed_count text _ e in
    counts _ _ (omega (arith, printed_short text, c.requires))

pub returns-in-Ok-clause-out_after : goal.returns-in-Ok-clause-out_after
returns-in-Ok-clause-out_after c =
    let text = c.args.text.now in
    let e = rw c.in-Ok.is at c.answer_text.ensures in
    rw c.from.ensures (ap printed_by e ∙ printed_by_call text _ c.requires)

pub returns-in-Err-clause-out_after : goal.returns-in-Err-clause-out_after
returns-in-Err-clause-out_after c =
    let e = rw c.in-Err.is at c.answer_text.ensures in
    let kept : length c.answer_text.new.out ≡ length c.args.out.now = search rules in
    let line = take_written (refusal_text _ _) _ (length_refusal _ _) (omega (arith, c.requires)) c.write_refusal.ensures in
    line ∙ rw (c.number.ensures, c.place.ensures) (ap printed_by e ∙ printed_by_call c.args.text.now _ c.requires)
