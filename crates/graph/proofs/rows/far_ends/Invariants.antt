-- `far_ends` meets its contract: after k turns the far ends of the first k branches stand in the array, and a turn is `one_far`.
use Rattle.graph.proofs.Building.{FarSoFar}
use Rattle.graph.proofs.rows.far_ends.Given as goal

abbrev pub invariant-loop-k : goal.invariant-loop-k
invariant-loop-k l = FarSoFar l.from l.to l.far l.k
