-- `check_buses_and_branches` meets its contract: the buses before `at` passed, and their ids are in rows.
use Rattle.std.proofs.Common.{◌≡◌, sym, ◌∙◌, length, take, arith, take_all}
use Rattle.network.specs.AnswerLaws.{handed_on, decides, gives_way}
use Rattle.network.specs.Limits.{bus_id}
use Rattle.ids.specs.PutIds.{none_held}
use Rattle.checks.specs.CheckLaws.{passed_none, passed_more, passed_refused, passed_all}
use Rattle.checks.specs.FaultLaws.{bus_judged, put_more}
use Rattle.checks.proofs.check.check_buses_and_branches.Goals as goal

pub loop-at-init : goal.loop-at-init
loop-at-init c = record { passed = passed_none _ _ _; held = rw c.new-rows.ensures none_held }

pub returns-in_err-judge_bus : goal.returns-in_err-judge_bus
returns-in_err-judge_bus c =
    let judged = bus_judged _ c.loop-at.invariant.held _ _ _ _ (omega arith) c.position_of.ensures c.in_err-judge_bus.ensures in
    handed_on _ _ c.from_residual.ensures.1 ∙ decides _ (sym (passed_refused _ _ _ c.loop-at.invariant.passed _ c.loop-at-test.true judged))

pub loop-at-preserved : goal.loop-at-preserved
loop-at-preserved c =
    let judged = bus_judged _ c.loop-at.invariant.held _ _ _ _ (omega arith) c.position_of.ensures c.in_ok-judge_bus.ensures in
    record {
      passed = passed_more _ _ _ c.loop-at.invariant.passed _ c.loop-at-test.true judged;
      held = put_more bus_id _ _ c.loop-at.invariant.held c.loop-at-test.true (omega arith) _ (c.put.ensures.stored (omega arith));
    }

pub returns : goal.returns
returns c =
    let buses = c.args.buses.now in
    let loop = c.loop-at in
    let all : loop.at ≡ length buses = omega arith in
    let whole : take (length buses) buses ≡ buses = take_all _ _ (omega arith) in
    c.check_branch_list.ensures buses (rw (all, whole) at loop.invariant.held) ∙ gives_way _ (sym (passed_all _ _ _ loop.invariant.passed c.loop-at-test.false))
