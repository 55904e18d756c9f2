-- `rounds` meets its contract: after i rounds the sum is `total` of i, and a round is `total_more`.
use Rattle.std.proofs.Common.{refl}
use Rattle.timing.specs.RoundLaws.{total_none, total_more}
use Rattle.timing.proofs.rounds.rounds.Goals as goal

pub loop-i-init : goal.loop-i-init
loop-i-init c = total_none _ _

pub loop-i-preserved : goal.loop-i-preserved
loop-i-preserved c = total_more _ _ _ _ _ _ _ c.loop-i.invariant c.round.ensures c.wrapping_add_u64-sum.ensures.value refl
