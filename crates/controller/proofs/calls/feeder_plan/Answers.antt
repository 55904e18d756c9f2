-- `feeder_plan` meets its contract: the answer in numbers.
use Rattle.controller.specs.Calls.{numbers_of}
use Rattle.controller.specs.CallLaws.{call_numbers, numbers_beside}
use Rattle.controller.proofs.calls.feeder_plan.Goals as goal

pub returns : goal.returns
returns c = numbers_beside numbers_of (call_numbers _ c.in_numbers.ensures) c.plan_of.ensures
