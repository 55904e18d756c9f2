-- `search_rounds` meets its contract: after so many rounds the sum is their `total`, and a round is `total_more`.
use Rattle.std.proofs.Common.{refl}
use Rattle.timing.specs.RoundLaws.{total_none, total_more, once_more}
use Rattle.timing.proofs.search_rounds.search_rounds.Goals as goal

pub rounds-init : goal.rounds-init
rounds-init c = total_none _ _

pub rounds-preserved : goal.rounds-preserved
rounds-preserved c = total_more _ _ _ _ _ _ _ c.rounds.invariant (once_more c.rounds.counter _ _ c.search.ensures) c.wrapping_add_u64-sum.ensures.value refl
