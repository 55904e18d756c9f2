-- `write_digits` meets its contract: the invariant is that the digits of `rest`, put at the front of `out`, would make the whole.
use Rattle.slices.proofs.Remaining.{Remaining}
use Rattle.slices.proofs.writer.write_digits.Given as goal

abbrev pub invariant-loop-i : goal.invariant-loop-i
invariant-loop-i l = Remaining l.initial.out l.width l.n l.out l.i l.rest
