-- `loads_of` meets its contract: it puts together what its parts answer.
use Rattle.losses.specs.LiveLoss.{loads_of}
use Rattle.losses.proofs.loads.loads_of.Goals as goal

pub returns : goal.returns
unfolding loads_of
returns c = rw (c.loads_at.ensures, c.supply_at.ensures)
