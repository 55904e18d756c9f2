-- `print_repair` meets its contract: what is made of the call's answer is what is printed.
use Rattle.std.proofs.Common.{◌≡◌, ◌∙◌, arith, length, rules}
use Rattle.slices.specs.WrittenLaws.{take_written}
use Rattle.printing.specs.Printed.{refusal_text}
use Rattle.printing.specs.LineTexts.{length_refusal}
use Rattle.repairs.specs.PrintedLaws.{printed_written, printed_refused}
use Rattle.input.specs.CountLaws.{counts}
use Rattle.repair.proofs.print_repair.Goals as goal

pub returns-in-Ok-clause-prefix_len : goal.returns-in-Ok-clause-prefix_len
returns-in-Ok-clause-prefix_len c =
    let e = rw c.in-Ok.is at c.repair_text.ensures in
    rw c.from.ensures (counts _ _ (printed_written c.args.text.now _ e).0)

pub returns-in-Ok-clause-out_after : goal.returns-in-Ok-clause-out_after
returns-in-Ok-clause-out_after c =
    let e = rw c.in-Ok.is at c.repair_text.ensures in
    rw c.from.ensures (printed_written c.args.text.now _ e).1

pub returns-in-Err-clause-out_after : goal.returns-in-Err-clause-out_after
returns-in-Err-clause-out_after c =
    let e = rw c.in-Err.is at c.repair_text.ensures in
    let kept : length c.repair_text.new.out ≡ length c.args.out.now = search rules in
    let line = take_written (refusal_text _ _) _ (length_refusal _ _) (omega (arith, c.requires)) c.write_refusal.ensures in
    line ∙ rw (c.number.ensures, c.place.ensures) (printed_refused c.args.text.now _ c.requires e)
