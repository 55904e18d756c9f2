-- `write_answer` meets its contract: the slice is too short for the frame, or its pieces are written one behind the other.
use mathlib.Core.Path.{◌∙◌}
use Rattle.printing.specs.Printed.{answer, answer_text}
use Rattle.printing.specs.FrameNumbers.{frame_short}
use Rattle.printing.proofs.AnswerPieces.{answer_written}
use borrow.Author.Rules.{rules}
use Rattle.printing.proofs.writer.write_answer.Goals as goal

pub returns-then-out-lt-ANSWER_LENGTH : goal.returns-then-out-lt-ANSWER_LENGTH
unfolding answer_text
returns-then-out-lt-ANSWER_LENGTH c = frame_short answer (_, (_, (_, (_, (_, (_, tt)))))) _ c.if-out-lt-ANSWER_LENGTH.true

pub returns : goal.returns
unfolding answer_text
returns c =
    let radial = c.truth_byte in
    let converged = c.truth_byte-2 in
    answer_written radial.result _ _ _ _ converged.result (search rules) (search rules) (search rules) _ c.if-out-lt-ANSWER_LENGTH.false c.write_digits.ensures c.write_losses.ensures c.write_line.ensures
    ∙ rw (radial.ensures, converged.ensures)
