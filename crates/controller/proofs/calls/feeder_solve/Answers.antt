-- `feeder_solve` meets its contract: the answer in numbers.
use Rattle.controller.specs.Calls.{solved_numbers}
use Rattle.controller.specs.CallLaws.{search_numbers, numbers_beside}
use Rattle.controller.proofs.calls.feeder_solve.Goals as goal

pub returns : goal.returns
returns c = numbers_beside solved_numbers (search_numbers _ c.in_numbers.ensures) c.solution_of.ensures
