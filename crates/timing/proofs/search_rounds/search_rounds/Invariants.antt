-- `search_rounds` meets its contract: after so many rounds the sum is their `total`, and a round is `total_more`.
use Rattle.std.proofs.Common.{◌≡◌}
use Rattle.network.specs.Records.{records_of}
use Rattle.timing.specs.Rounds.{value_of, search_value, total}
use Rattle.timing.proofs.search_rounds.search_rounds.Given as goal

abbrev pub invariant-rounds : goal.invariant-rounds
invariant-rounds l = l.sum ≡ total (value_of (search_value (records_of l.network))) (value_of (search_value (records_of l.network))) l.counter
