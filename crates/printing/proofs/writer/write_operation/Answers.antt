-- `write_operation` meets its contract: the fields make one number, whose digits are theirs.
use native.Mathlib.Omega.{arith}
use lib.Dec.{lit<}
use Rattle.printing.specs.Printed.{operation, operation_text}
use Rattle.printing.specs.FrameNumbers.{frame_line}
use borrow.Author.Rules.{rules}
use Rattle.printing.proofs.writer.write_operation.Goals as goal

pub returns : goal.returns
unfolding operation_text
returns c = frame_line operation (_, (_, tt)) _ (lit< tt, (search rules, (search rules, tt))) (omega arith) c.write_line.ensures
