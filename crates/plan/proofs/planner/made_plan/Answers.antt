-- `made_plan` meets its contract: it is refused, and there are no pairs, or the pairs are the plan's.
use Rattle.changes.specs.Passing.{verdict_so, accepted_passed}
use Rattle.plan.specs.MadePlanLaws.{none_made, plan_made}
use Rattle.plan.proofs.planner.made_plan.Goals as goal

pub returns-in_err-change : goal.returns-in_err-change
returns-in_err-change c = none_made _ _ _ _ c.from_residual.ensures.1 c.in_err-change.was (verdict_so _ _ _ c.check_plan-change.result c.check_plan-change.ensures)

pub pairs_of-requires : goal.pairs_of-requires
pairs_of-requires c = accepted_passed _ c.in_ok-change.was c.check_plan-change.ensures

pub returns : goal.returns
returns c = plan_made _ _ _ c.in_ok-change.was (verdict_so _ _ _ c.check_plan-change.result c.check_plan-change.ensures) c.pairs_of.result c.pairs_of.ensures
