-- `start_of` meets its contract: each part has its own equation.
use Rattle.searches.specs.SearchValues.{start_of}
use Rattle.searches.proofs.start.start_of.Goals as goal

pub returns : goal.returns
unfolding start_of
returns c = rw (c.live_loss-loss.ensures, c.is_radial-radial.ensures, c.live_branches-live.ensures, c.build_base_configuration-base.ensures, c.loads_of-loads.ensures, c.graph_of-graph.ensures)
