-- `check_as` meets its contract: the records' refusal first; without a supply they decide; then 14 where no bus has the id, and 15 where the base is not radial.
use Rattle.std.proofs.Common.{◌≡◌, sym, ◌∙◌, arith, rules}
use Rattle.network.specs.Answers.{accepted}
use Rattle.network.specs.AnswerLaws.{handed_on, decides, gives_way}
use Rattle.network.specs.Check.{check_records}
use Rattle.network.specs.InsideLaws.{lines_records}
use Rattle.network.specs.Records.{records_of}
use Rattle.states.specs.Listed.{few_buses, few_branches, few_switches}
use Rattle.states.specs.Live.{base_state}
use Rattle.feeders.specs.Feeder.{radial_in}
use Rattle.feeders.specs.Supply.{left_if, check_as}
use Rattle.feeders.specs.SupplyLaws.{left_checked}
use Rattle.feeders.proofs.Supplying.{records_decide, bus_missing, base_passes, base_fails}
use Rattle.feeders.proofs.supply.check_as.Goals as goal
use Rattle.feeders.proofs.supply.check_as.Goals.{In_ok-check, After-base_is_radial}

-- the records have passed
passed : (c : In_ok-check) → check_records (records_of c.args.network) ≡ accepted tt
passed c = lines_records c.args.stored (records_of c.args.network) (sym c.in_ok-check.ensures)

pub returns-in_err-check : goal.returns-in_err-check
unfolding check_as
returns-in_err-check c = handed_on _ _ c.from_residual.ensures.1 ∙ decides _ (sym c.in_err-check.ensures)

pub returns-in_default : goal.returns-in_default
unfolding check_as
returns-in_default c = records_decide _ _ c.in_default.is ∙ gives_way _ (sym c.in_ok-check.ensures)

pub overflow_add-line : goal.overflow_add-line
overflow_add-line c = let ok = passed (goal.at.overflow_add-line c).In_ok-check in omega (arith, few_buses _ ok)

pub overflow_add-line-2 : goal.overflow_add-line-2
overflow_add-line-2 c = let ok = passed (goal.at.overflow_add-line-2 c).In_ok-check in omega (arith, few_buses _ ok, few_branches _ ok)

pub overflow_add-line-3 : goal.overflow_add-line-3
overflow_add-line-3 c = let ok = passed (goal.at.overflow_add-line-3 c).In_ok-check in omega (arith, few_buses _ ok, few_branches _ ok, few_switches _ ok)

pub returns-then-is_none : goal.returns-then-is_none
unfolding check_as
returns-then-is_none c =
    bus_missing _ c.args.network (search rules) (passed (goal.at.returns-then-is_none c).In_ok-check) c.in-Some.is c.bus_index.ensures c.if-is_none.ensures
    ∙ gives_way _ (sym c.in_ok-check.ensures)

pub left_if-requires : goal.left_if-requires
left_if-requires c = passed (goal.at.left_if-requires c).In_ok-check

pub base_is_radial-requires : goal.base_is_radial-requires
base_is_radial-requires c = rw c.left_if.ensures (left_checked c.args.stored (records_of c.args.network) (passed (goal.at.base_is_radial-requires c).In_ok-check))

-- the base of the feeder that is fed
judged : (c : After-base_is_radial) → let F = left_if c.args.stored (records_of c.args.network) in c.base_is_radial.result ≡ radial_in F (base_state F)
judged c = rw (← c.left_if.ensures) c.base_is_radial.ensures

pub returns-then-not-base_is_radial : goal.returns-then-not-base_is_radial
unfolding check_as
returns-then-not-base_is_radial c =
    base_fails _ c.args.network (search rules) (passed (goal.at.returns-then-not-base_is_radial c).In_ok-check) c.in-Some.is c.bus_index.ensures c.if-is_none.ensures
    (sym (judged (goal.at.returns-then-not-base_is_radial c).After-base_is_radial) ∙ c.if-not-base_is_radial.true)
    ∙ gives_way _ (sym c.in_ok-check.ensures)

pub returns : goal.returns
unfolding check_as
returns c =
    base_passes _ c.args.network (search rules) (passed (goal.at.returns c).In_ok-check) c.in-Some.is c.bus_index.ensures c.if-is_none.ensures
    (sym (judged (goal.at.returns c).After-base_is_radial) ∙ c.if-not-base_is_radial.false)
    ∙ gives_way _ (sym c.in_ok-check.ensures)
