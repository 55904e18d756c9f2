-- `write_dropped` meets its contract: the fields make one number, whose digits are theirs.
use native.Mathlib.Omega.{arith}
use lib.Dec.{lit<}
use Rattle.printing.specs.Printed.{dropped, dropped_text}
use Rattle.printing.specs.FrameNumbers.{frame_line}
use borrow.Author.Rules.{rules}
use Rattle.printing.proofs.writer.write_dropped.Goals as goal

pub returns : goal.returns
unfolding dropped_text
returns c = frame_line dropped (_, (_, tt)) _ (lit< tt, (search rules, (search rules, tt))) (omega arith) c.write_line.ensures
