-- `write_operations` meets its contract: a checked network's base and best state have their operations listed.
use Rattle.std.proofs.Common.{◌∙◌}
use Rattle.network.specs.AnswerLaws.{no_refusal, same_value}
use Rattle.answers.proofs.PrinterLaws.{operations_printed, operations_long}
use Rattle.answers.proofs.printer.write_operations.Goals as goal

pub returns-in_default : goal.returns-in_default
returns-in_default c = no_refusal (operations_printed _ c.requires.0.0 _ c.requires.1 c.requires.0.1 c.requires.0.2 c.in_default.ensures).0

pub returns : goal.returns
returns c =
    let printed = operations_printed _ c.requires.0.0 _ c.requires.1 c.requires.0.1 c.requires.0.2 c.in-Ok.ensures in
    (operations_long _ c.requires.0.0 c.args.out.now (c.from.ensures ∙ same_value printed.0), printed.1)
