-- `is_radial` meets its contract: each of its three answers is a law of Counting.
use Rattle.bfs.proofs.Counting.{no_buses_lem, wrong_count, right_count}
use Rattle.bfs.proofs.radial.is_radial.Goals as goal

pub returns-then-n-eq0 : goal.returns-then-n-eq0
returns-then-n-eq0 c = no_buses_lem _ _ c.if-n-eq0.true

pub returns-then-live_count-n : goal.returns-then-live_count-n
returns-then-live_count-n c = wrong_count _ _ c.if-n-eq0.false _ c.live_count.ensures c.if-live_count-n.true

pub returns : goal.returns
returns c = right_count _ _ c.if-n-eq0.false _ c.live_count.ensures _ c.if-live_count-n.false c.walk.ensures
