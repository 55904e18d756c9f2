-- `read_line` meets its contract: rows 1 and 2 come first, then the fields behind the kind byte.
use Rattle.std.proofs.Common.{◌∙◌, arith, rules}
use Rattle.network.specs.AnswerLaws.{handed_on}
use Rattle.record_lines.proofs.FrameLaws.{frame_room, frame_refused, frame_read}
use Rattle.record_lines.proofs.record.read_line.Goals as goal

pub returns-in_err-judge_line : goal.returns-in_err-judge_line
returns-in_err-judge_line g c =
    let R = g.R.Record in
    let law = g.met.R.Record in
    handed_on _ _ c.from_residual.ensures.1
    ∙ frame_refused c.args.text.now c.args.at _ _ _ _ c.judge_line.ensures R.frame (c.KIND.ensures ∙ law.of_kind) (c.SIZE-size.ensures ∙ law.of_size) R.made R.faults c.in_err-judge_line.was

pub overflow_add-line : goal.overflow_add-line
overflow_add-line g c = let room = frame_room c.args.text.now c.args.at _ _ _ _ c.judge_line.ensures c.in_ok-judge_line.was in search rules

pub slice_bounds-line-end : goal.slice_bounds-line-end
slice_bounds-line-end g c = omega (arith, frame_room c.args.text.now c.args.at _ _ _ _ c.judge_line.ensures c.in_ok-judge_line.was)

pub returns : goal.returns
returns g c =
    let R = g.R.Record in
    let law = g.met.R.Record in
    frame_read c.args.text.now c.args.at _ _ _ _ c.judge_line.ensures R.frame (c.KIND.ensures ∙ law.of_kind) (c.SIZE-size.ensures ∙ law.of_size) R.made R.faults c.in_ok-judge_line.was c.of_fields.ensures
