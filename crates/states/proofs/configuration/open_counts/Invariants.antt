-- `open_counts` meets its contract: the counts are those among the switches so far.
use Rattle.std.proofs.Common.{◌≡◌, length}
use Rattle.numbers.specs.UpTo.{table}
use Rattle.network.specs.Records.{records_of}
use Rattle.states.specs.OpenCounts.{open_among}
use Rattle.states.proofs.configuration.open_counts.Given as goal

abbrev pub invariant-loop-switch : goal.invariant-loop-switch
invariant-loop-switch l = l.counts ≡ table (open_among (records_of l.fn.network) l.fn.configuration.switches (length l.yielded)) 512
