-- `exhaustive_masks` meets its contract: the search stands where the definition does after the masks below `mask`; the step is `up_to_more`.
use Rattle.std.proofs.Common.{◌≡◌}
use Rattle.numbers.specs.UpTo.{up_to}
use Rattle.network.specs.Records.{records_of}
use Rattle.exhaustive.specs.Exhaustive.{no_mask, try_mask}
use Rattle.exhaustive.specs.ExhaustiveValues.{exhaustive_of}
use Rattle.exhaustive.proofs.exhaustive.exhaustive_masks.Given as goal

abbrev pub invariant-loop-mask : goal.invariant-loop-mask
invariant-loop-mask l = l.search ≡ exhaustive_of (up_to (try_mask (records_of l.network)) no_mask l.mask)
