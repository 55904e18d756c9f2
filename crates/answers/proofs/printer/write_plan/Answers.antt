-- `write_plan` meets its contract: a radial base has its plan to the best state written, another base has none.
use Rattle.answers.proofs.PrinterLaws.{plan_printed}
use Rattle.answers.proofs.printer.write_plan.Goals as goal

pub returns-in_default : goal.returns-in_default
returns-in_default c = plan_printed _ c.requires.0.0 _ c.requires.1 c.requires.0.1 c.requires.0.2 c.in_default.ensures

pub returns : goal.returns
returns c = plan_printed _ c.requires.0.0 _ c.requires.1 c.requires.0.1 c.requires.0.2 c.in-Ok.ensures
