-- `text_rounds` meets its contract: after so many rounds sum and slice are their `text_rounds`, and a round is `rounds_more`.
use Rattle.std.proofs.Common.{◌≡◌, length}
use Rattle.network.specs.Records.{records_of}
use Rattle.text_timing.specs.TextRounds.{Added, text_rounds}
use Rattle.text_timing.proofs.text_rounds.text_rounds.Given as goal

abbrev pub invariant-rounds : goal.invariant-rounds
invariant-rounds l = (length l.out ≡ length l.initial.out) × (◌≡◌ {A = Added} (record { sum = l.sum; out = l.out }) (text_rounds (records_of l.network) l.initial.out l.counter))
