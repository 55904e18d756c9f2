-- `downstream_load_mw` meets its contract: the load is that of the walk.
use Rattle.losses.proofs.estimate.downstream_load_mw.Goals as goal

pub returns : goal.returns
returns c = rw c.walk_load.ensures
