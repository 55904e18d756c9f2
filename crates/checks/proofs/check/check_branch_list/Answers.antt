-- `check_branch_list` meets its contract: the branches before `at` passed.
use Rattle.std.proofs.Common.{◌∙◌}
use Rattle.network.specs.AnswerLaws.{handed_on}
use Rattle.checks.specs.CheckLaws.{passed_none, passed_more, passed_refused, passed_all}
use Rattle.checks.specs.FaultLaws.{branch_judged}
use Rattle.checks.proofs.check.check_branch_list.Goals as goal

pub loop-at-init : goal.loop-at-init
loop-at-init c buses held = passed_none _ _ _

pub returns-in_err-judge_branch : goal.returns-in_err-judge_branch
returns-in_err-judge_branch c buses held =
    let judged = branch_judged buses held _ _ _ _ _ c.position_of-from.ensures c.position_of-to.ensures c.in_err-judge_branch.ensures in
    handed_on _ _ c.from_residual.ensures.1 ∙ passed_refused _ _ _ (c.loop-at.invariant buses held) _ c.loop-at-test.true judged

pub loop-at-preserved : goal.loop-at-preserved
loop-at-preserved c buses held =
    let judged = branch_judged buses held _ _ _ _ _ c.position_of-from.ensures c.position_of-to.ensures c.in_ok-judge_branch.ensures in
    passed_more _ _ _ (c.loop-at.invariant buses held) _ c.loop-at-test.true judged

pub returns : goal.returns
returns c buses held = passed_all _ _ _ (c.loop-at.invariant buses held) c.loop-at-test.false
