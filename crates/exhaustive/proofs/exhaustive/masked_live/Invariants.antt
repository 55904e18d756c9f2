-- `masked_live` meets its contract: the first ties are opened or left closed, and their bits are taken.
use Rattle.std.proofs.Common.{◌≡◌, ◌/◌, ◌^◌}
use Rattle.numbers.specs.UpTo.{up_to}
use Rattle.exhaustive.specs.ExhaustiveValues.{opening}
use Rattle.exhaustive.proofs.exhaustive.masked_live.Given as goal

abbrev pub invariant-loop-branch : goal.invariant-loop-branch
invariant-loop-branch l =
    record {
      flags : l.live ≡ up_to (opening l.fn.ties l.mask) l.initial.live l.branch-index;
      bits : l.rest ≡ l.mask / 2 ^ l.branch-index;
    }
