-- `end_at` meets its contract: a position below n is the id's first one, and any other says that it is not listed.
use Rattle.feeders.proofs.Resolving.{end_found, no_end}
use Rattle.feeders.proofs.feeder.end_at.Goals as goal

pub returns-then-at-n : goal.returns-then-at-n
returns-then-at-n c l long e = end_found _ _ _ _ c.requires c.position_of-at.ensures l long e c.if-at-n.true

pub returns-else-at-n : goal.returns-else-at-n
returns-else-at-n c l long e = no_end _ _ _ _ c.requires c.position_of-at.ensures l long e c.if-at-n.false
