-- `repaired_length` meets its contract: the text that is left is as long as `text_length` says, and each dropped line has a frame 87.
use Rattle.std.proofs.Common.{arith}
use Rattle.network.specs.InsideLaws.{check_inside}
use Rattle.states.specs.Listed.{few_branches, few_switches}
use Rattle.repairs.specs.RepairLaws.{left_branches, left_switches, value_length, repaired_short}
use Rattle.repairs.proofs.repair.repaired_length.Goals as goal

pub overflow_sub-branches : goal.overflow_sub-branches
overflow_sub-branches c = left_branches _ _ c.requires

pub overflow_sub-switches : goal.overflow_sub-switches
overflow_sub-switches c = left_switches _ _ c.requires

pub overflow_add-branches : goal.overflow_add-branches
overflow_add-branches c = omega (arith, few_branches c.args.network c.requires.read, few_switches c.args.network c.requires.read)

pub overflow_add-result : goal.overflow_add-result
overflow_add-result c =
    let long = value_length _ _ c.requires c.text_length.ensures in
    omega (arith, long, repaired_short _ ((check_inside _).0 c.requires.read), c.from.ensures)

pub returns : goal.returns
returns c = omega (arith, value_length _ _ c.requires c.text_length.ensures, c.from.ensures)
