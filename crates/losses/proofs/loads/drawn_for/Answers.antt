-- `drawn_for` meets its contract.
use Rattle.losses.specs.LiveLoss.{drawn_graph_for}
use Rattle.losses.proofs.loads.drawn_for.Goals as goal

pub returns-in-Some : goal.returns-in-Some
unfolding drawn_graph_for
returns-in-Some c = rw c.in-Some.is c.drawn_from.ensures

pub returns-in-None : goal.returns-in-None
unfolding drawn_graph_for
returns-in-None c = rw c.in-None.is
