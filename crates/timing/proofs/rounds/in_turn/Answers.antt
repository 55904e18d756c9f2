-- `in_turn` meets its contract: the test on i is the definition's.
use Rattle.timing.specs.RoundLaws.{in_even, in_odd}
use Rattle.timing.proofs.rounds.in_turn.Goals as goal

pub returns-then-i-eq0 : goal.returns-then-i-eq0
returns-then-i-eq0 c = in_even _ _ _ c.if-i-eq0.true

pub returns-else-i-eq0 : goal.returns-else-i-eq0
returns-else-i-eq0 c = in_odd _ _ _ c.if-i-eq0.false
