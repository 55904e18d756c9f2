-- `write_refusal` meets its contract: the fields make one number, whose digits are theirs.
use native.Mathlib.Omega.{arith}
use lib.Dec.{lit<}
use Rattle.printing.specs.Printed.{refusal, refusal_text}
use Rattle.printing.specs.FrameNumbers.{frame_line}
use borrow.Author.Rules.{rules}
use Rattle.printing.proofs.writer.write_refusal.Goals as goal

pub returns : goal.returns
unfolding refusal_text
returns c = frame_line refusal (_, (_, tt)) _ (lit< tt, (search rules, (search rules, tt))) (omega arith) c.write_line.ensures
