-- `sections_of` meets its contract: the sections among the first i switches are listed; the step is `section_listed` or `other_skipped`.
use mathlib.Core.Path.{◌≡◌}
use Rattle.network.specs.Records.{records_of}
use Rattle.exchange.specs.ExchangeSwaps.{sections_among}
use Rattle.exchange.proofs.exchange.sections_of.Given as goal

abbrev pub invariant-loop-i : goal.invariant-loop-i
invariant-loop-i l = l.sections ≡ sections_among (records_of l.network) l.i
