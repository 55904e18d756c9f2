-- `rounds` meets its contract: after i rounds the sum is `total` of i, and a round is `total_more`.
use Rattle.std.proofs.Common.{◌≡◌}
use Rattle.timing.specs.Rounds.{value_of, asked, total}
use Rattle.timing.proofs.rounds.rounds.Given as goal

abbrev pub invariant-loop-i : goal.invariant-loop-i
invariant-loop-i l = l.sum ≡ total (value_of (asked l.kind l.text l.a l.b)) (value_of (asked l.kind l.text l.b l.a)) l.i
