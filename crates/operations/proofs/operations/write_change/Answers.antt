-- `write_change` meets its contract: the switch stands as it is to stand, or its line is written into the part of the slice from there on.
use Rattle.operations.specs.OperationLines.{change_none, change_written}
use Rattle.operations.proofs.operations.write_change.Goals as goal

pub returns-then-from-to : goal.returns-then-from-to
returns-then-from-to c = change_none _ _ _ _ _ c.if-from-to.true

pub returns : goal.returns
returns c = change_written _ _ _ _ _ c.if-from-to.false c.requires c.operation_to.ensures c.write_operation.ensures
