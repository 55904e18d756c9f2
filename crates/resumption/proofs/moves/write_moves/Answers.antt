-- `write_moves` meets its contract. The step of the loop is `lines_further`.
use Rattle.std.proofs.Common.{refl}
use Rattle.printing.specs.LineLoops.{no_lines, lines_further}
use Rattle.resumption.proofs.Moving.{lines_written}
use Rattle.resumption.proofs.moves.write_moves.Goals as goal

pub loop-i-init : goal.loop-i-init
loop-i-init c = no_lines _ _ _ _ _ _

pub loop-i-preserved : goal.loop-i-preserved
loop-i-preserved c = lines_further _ _ _ _ _ _ c.loop-i.invariant c.requires c.loop-i-test.true refl c.write_operation.ensures

pub returns : goal.returns
returns c = lines_written _ _ c.loop-i.invariant c.loop-i-test.false
