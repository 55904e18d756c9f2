-- `write_records` meets its contract: the text's beginning is made in memory of the call's own and read; it is refused, or it is the whole text and copied where the slice is.
use Rattle.std.specs.Prelude.{ℕ}
use Rattle.std.proofs.Common.{[], ap, ◌∙◌, arith}
use Rattle.network.specs.Answers.{Answer}
use Rattle.network.specs.AnswerLaws.{handed_on}
use Rattle.frames.specs.ReadingLaws.{read_accepted, read_refused}
use Rattle.record_bytes.specs.RecordCalls.{text_refused, text_within, text_no_room, text_copied}
use Rattle.record_bytes.proofs.records.write_records.Goals as goal

pub returns-in_err-read_text : goal.returns-in_err-read_text
returns-in_err-read_text c =
    ap (λ (a : Answer ℕ). record { answer = a; out = c.args.out.now }) (handed_on _ _ c.from_residual.ensures.1)
    ∙ text_refused _ _ _ c.write_frames-n.ensures _ (read_refused _ c.in_err-read_text.was c.read_text.ensures)

pub returns-then-out-n : goal.returns-then-out-n
returns-then-out-n c = text_no_room _ _ _ c.write_frames-n.ensures _ (read_accepted _ c.in_ok-read_text.was c.read_text.ensures) c.if-out-n.true

pub overflow_cast-result : goal.overflow_cast-result
overflow_cast-result c = omega (arith, text_within _ _ _ c.write_frames-n.ensures [] (read_accepted _ c.in_ok-read_text.was c.read_text.ensures))

pub returns : goal.returns
returns c =
    text_copied _ _ _ c.write_frames-n.ensures _ (read_accepted _ c.in_ok-read_text.was c.read_text.ensures) c.if-out-n.false c.write_bytes.ensures
