-- `write_moves` meets its contract. The invariant: the lines of the first moves have been written; the step is `lines_further`.
use Rattle.resumption.proofs.Moving.{Lines}
use Rattle.resumption.proofs.moves.write_moves.Given as goal

abbrev pub invariant-loop-i : goal.invariant-loop-i
invariant-loop-i l = Lines l.moves l.initial.out l.out l.i
