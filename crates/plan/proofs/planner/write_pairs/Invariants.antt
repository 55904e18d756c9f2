-- `write_pairs` meets its contract. The invariant: the lines of the first i pairs have been written; the step is `line_written`.
use Rattle.plan.proofs.Lines.{Lines}
use Rattle.plan.proofs.planner.write_pairs.Given as goal

abbrev pub invariant-loop-pair : goal.invariant-loop-pair
invariant-loop-pair l = Lines l.pairs l.initial.out l.out l.at l.pair-index
