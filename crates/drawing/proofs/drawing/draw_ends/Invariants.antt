-- `draw_ends` meets its contract: after k turns the first k branches are drawn; the step is `one_turned` or `one_kept`.
use Rattle.drawing.proofs.DrawnEnds.{DrawnSoFar}
use Rattle.drawing.proofs.drawing.draw_ends.Given as goal

abbrev pub invariant-loop-k : goal.invariant-loop-k
invariant-loop-k l = DrawnSoFar l.graph.far l.live l.places l.from l.to l.k
