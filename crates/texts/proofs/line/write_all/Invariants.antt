-- `write_all` meets its contract: the invariant is that the lines of the records passed are written.
use Rattle.texts.proofs.Writing.{Lines}
use Rattle.texts.proofs.line.write_all.Given as goal

abbrev pub invariant-loop-record : goal.invariant-loop-record
invariant-loop-record g l = Lines g.R.Line.text l.records l.initial.out l.at l.out l.end l.record-index
