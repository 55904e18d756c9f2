-- `text_rounds` meets its contract: after so many rounds sum and slice are their `text_rounds`, and a round is `rounds_more`.
use Rattle.std.proofs.Common.{refl, rules}
use Rattle.text_timing.specs.TextRoundLaws.{rounds_none, rounds_more}
use Rattle.text_timing.proofs.text_rounds.text_rounds.Goals as goal

pub rounds-init : goal.rounds-init
rounds-init c = (refl, rounds_none _ _)

pub rounds-preserved : goal.rounds-preserved
rounds-preserved c = (search rules, rounds_more _ _ _ _ _ _ _ _ c.rounds.invariant.1 c.writing.ensures c.wrapping_add_u64-sum.ensures.value)
