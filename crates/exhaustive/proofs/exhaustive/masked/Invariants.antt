-- `masked` meets its contract: the first i bytes are the mask's, the others still 00, and the bits of the first i ties are taken.
use Rattle.std.proofs.Common.{◌≡◌, get_or}
use Rattle.numbers.specs.TableLaws.{filled}
use Rattle.network.specs.Records.{records_of}
use Rattle.exhaustive.specs.Exhaustive.{masked}
use Rattle.exhaustive.specs.ExhaustiveMasks.{bits_from}
use Rattle.exhaustive.proofs.exhaustive.masked.Given as goal

abbrev pub invariant-loop-i : goal.invariant-loop-i
invariant-loop-i l =
    record {
      bytes : l.configuration.switches ≡ filled (λ j. get_or (masked (records_of l.fn.network) l.mask) j 0) 0 512 l.i;
      bits : l.rest ≡ bits_from l.fn.network l.mask l.i;
    }
