-- `new_positions` meets its contract. The invariant: the first k positions are numbered; the step is `one_numbered` or `none_more`.
use Rattle.own_loops.proofs.Placing.{Numbered}
use Rattle.own_loops.proofs.dropping.new_positions.Given as goal

abbrev pub invariant-loop-k : goal.invariant-loop-k
invariant-loop-k l = Numbered l.branches l.positions l.kept l.k
