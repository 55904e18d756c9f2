-- `write_operations` meets its contract. The invariant: the lines of the first i switches have been written; the step is `lines_more`.
use Rattle.network.specs.Records.{records_of}
use Rattle.operations.specs.OperationLines.{Lines}
use Rattle.operations.proofs.operations.write_operations.Given as goal

abbrev pub invariant-loop-i : goal.invariant-loop-i
invariant-loop-i l = Lines (records_of l.fn.network) l.from l.to l.initial.out l.out l.at l.i
