-- `live_lists` meets its contract: after u turns the array has the lists of the first u buses, and a turn is `one_rowed`.
use Rattle.lists.proofs.Listing.{Rowing}
use Rattle.lists.proofs.lists.live_lists.Given as goal

abbrev pub invariant-loop-u : goal.invariant-loop-u
invariant-loop-u l = Rowing l.fn.graph.far l.fn.graph.first l.fn.graph.next l.live l.at l.entries l.u
