-- `feeder_loss` meets its contract: the answer in numbers.
use Rattle.std.proofs.Common.{ap, ◌∙◌}
use Rattle.controller.specs.Calls.{numbers_of}
use Rattle.controller.specs.CallLaws.{call_numbers}
use Rattle.controller.proofs.calls.feeder_loss.Goals as goal

pub returns : goal.returns
returns c = call_numbers _ c.in_numbers.ensures ∙ ap numbers_of c.loss_of.ensures
