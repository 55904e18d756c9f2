-- `leading` meets its contract: what is passed are digits. A value below 9,999,999 takes one digit more and stays small.
use Rattle.cases.proofs.Laws.{Read}
use Rattle.cases.proofs.leading.Given as goal

abbrev pub invariant-loop-digits : goal.invariant-loop-digits
invariant-loop-digits l = Read l.line l.value l.digits
