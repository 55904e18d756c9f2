-- `feeder_resume` meets its contract: the answer in numbers.
use Rattle.controller.specs.CallLaws.{call_numbers, numbers_beside_both}
use Rattle.controller.proofs.calls.feeder_resume.Goals as goal

pub returns : goal.returns
returns c = numbers_beside_both (call_numbers _ c.in_numbers.ensures) c.moves_left_of.ensures
