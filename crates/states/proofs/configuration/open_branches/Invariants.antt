-- `open_branches` meets its contract: the flags are those of the switches so far.
use Rattle.std.proofs.Common.{◌≡◌, length, take}
use Rattle.numbers.specs.UpTo.{table}
use Rattle.states.specs.Live.{open_on}
use Rattle.states.proofs.configuration.open_branches.Given as goal

abbrev pub invariant-loop-switch : goal.invariant-loop-switch
invariant-loop-switch l = l.opened ≡ table (open_on (take (length l.yielded) l.switches) (take (length l.yielded) l.state)) 512
