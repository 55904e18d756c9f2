-- `head_line` meets its contract: what the line and its method byte are refused for comes first, then what `judge_head` finds.
use Rattle.std.proofs.Common.{ap, ◌∙◌}
use Rattle.network.specs.Answers.{valued}
use Rattle.network.specs.AnswerLaws.{handed_on, refused_first, accepted_then}
use Rattle.network.specs.Faults.{head_faults}
use Rattle.record_lines.specs.LineAnswers.{head_of_code}
use Rattle.record_lines.proofs.HeadLaws.{head_refused, head_read}
use Rattle.record_lines.proofs.head.head_line.Goals as goal

pub returns-in_err-head : goal.returns-in_err-head
returns-in_err-head c = ap (valued head_of_code) (handed_on _ _ c.from_residual.ensures.1) ∙ head_refused _ c.read_line.ensures c.in_err-head.was

pub returns-in_err-judge_head : goal.returns-in_err-judge_head
unfolding head_faults
returns-in_err-judge_head c =
    ap (valued head_of_code) (handed_on _ _ c.from_residual-in_err-judge_head.ensures.1)
    ∙ refused_first _ c.in_err-judge_head.was c.judge_head.ensures ∙ head_read _ c.read_line.ensures c.in_ok-head.was

pub returns : goal.returns
unfolding head_faults
returns c = accepted_then _ c.in_ok-judge_head.was c.judge_head.ensures ∙ head_read _ c.read_line.ensures c.in_ok-head.was
