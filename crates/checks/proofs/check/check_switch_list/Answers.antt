-- `check_switch_list` meets its contract: the switches before `at` passed, they are counted on their branch positions, their ties are counted, and their ids are in rows.
use Rattle.std.proofs.Common.{refl, ◌∙◌, ◌<◌, get_or, arith}
use Rattle.network.specs.Limits.{switch_id, ties}
use Rattle.network.specs.Records.{no_switch}
use Rattle.ids.specs.PutIds.{none_held}
use Rattle.checks.specs.Counts.{no_counts}
use Rattle.network.specs.AnswerLaws.{handed_on}
use Rattle.checks.specs.CheckLaws.{passed_none, passed_more, passed_refused, passed_all}
use Rattle.checks.specs.FaultLaws.{switch_judged_by_rows, passed_so, count_more, ties_more, ties_before, put_more}
use Rattle.checks.proofs.check.check_switch_list.Goals as goal
use Rattle.checks.proofs.check.check_switch_list.Goals.{In_ok-judge_switch}

pub loop-at-init : goal.loop-at-init
unfolding ties
loop-at-init c = record { passed = λ h p q. passed_none _ _ _; counted_are = no_counts 512; ties_are = refl; held = rw c.new-rows.ensures none_held }

pub returns-in_err-judge_switch : goal.returns-in_err-judge_switch
returns-in_err-judge_switch c h p q =
    let inv = c.loop-at.invariant in
    let judged = switch_judged_by_rows h _ inv.held _ _ _ _ _ _ _ (omega (arith, p)) (omega arith) c.position_of.ensures (rw c.from-on.ensures at c.switches_on-before.ensures) inv.counted_are inv.ties_are (rw (p, q) c.in_err-judge_switch.ensures) in
    handed_on _ _ c.from_residual.ensures.1 ∙ passed_refused _ _ _ (inv.passed h p q) _ c.loop-at-test.true judged

-- a switch that passed is on a branch, and at most one before it is
on_branch : (c : In_ok-judge_switch) → (c.from-on.result < 512) × (c.switches_on-before.result < 2)
on_branch c =
    let so = passed_so (get_or c.args.switches.now c.loop-at.at no_switch) c.args.branch_count c.args.algorithm _ c.switches_on-before.result c.loop-at.ties _ c.in_ok-judge_switch.ensures in
    (omega (arith, c.from-on.ensures, so.0), so.1)

pub overflow_add-counted : goal.overflow_add-counted
overflow_add-counted c = omega (arith, (on_branch (goal.at.overflow_add-counted c).In_ok-judge_switch).1)

pub bounds-counted-on : goal.bounds-counted-on
bounds-counted-on c = (on_branch (goal.at.bounds-counted-on c).In_ok-judge_switch).0

pub overflow_add-ties : goal.overflow_add-ties
overflow_add-ties c =
    let more = ties_more _ _ _ _ c.loop-at-test.true c.loop-at.invariant.ties_are _ c.from-ties.ensures in
    omega (arith, ties_before _ _ _ more)

pub loop-at-preserved : goal.loop-at-preserved
loop-at-preserved c =
    let inv = c.loop-at.invariant in
    record {
      passed = λ h p q.
          let judged = switch_judged_by_rows h _ inv.held _ _ _ _ _ _ _ (omega (arith, p)) (omega arith) c.position_of.ensures (rw c.from-on.ensures at c.switches_on-before.ensures) inv.counted_are inv.ties_are (rw (p, q) c.in_ok-judge_switch.ensures) in
          passed_more _ _ _ (inv.passed h p q) _ c.loop-at-test.true judged;
      counted_are = count_more _ _ _ _ _ _ c.loop-at-test.true inv.counted_are c.from-on.ensures (on_branch (goal.at.loop-at-preserved c).In_ok-judge_switch).0 c.switches_on-before.ensures;
      ties_are = ties_more _ _ _ _ c.loop-at-test.true inv.ties_are _ c.from-ties.ensures;
      held = put_more switch_id _ _ inv.held c.loop-at-test.true (omega arith) _ (c.put.ensures.stored (omega arith));
    }

pub returns : goal.returns
returns c h p q = passed_all _ _ _ (c.loop-at.invariant.passed h p q) c.loop-at-test.false
