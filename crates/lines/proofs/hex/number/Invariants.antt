-- `number` meets its contract: the invariant is that `n` is the number of the digits passed.
use Rattle.lines.proofs.DigitLaws.{Read}
use Rattle.lines.proofs.hex.number.Given as goal

abbrev pub invariant-loop-c : goal.invariant-loop-c
invariant-loop-c l = Read l.s l.n l.c-index
