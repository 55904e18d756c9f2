-- `find_ties` meets its contract: the ties among the first switches are listed.
use Rattle.std.proofs.Common.{◌≡◌}
use Rattle.numbers.specs.Counts.{count}
use Rattle.network.specs.Records.{records_of}
use Rattle.states.specs.Switches.{is_tie}
use Rattle.exhaustive.specs.ExhaustiveValues.{ties_of}
use Rattle.exhaustive.proofs.exhaustive.find_ties.Given as goal

abbrev pub invariant-loop-switch : goal.invariant-loop-switch
invariant-loop-switch l = l.ties ≡ ties_of (records_of l.fn.network) (count (is_tie (records_of l.fn.network)) l.switch-index)
