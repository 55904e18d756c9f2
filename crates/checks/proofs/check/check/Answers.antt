-- `check` meets its contract: the first of its parts that refuses decides, and an accepted head bounds the counts.
use Rattle.std.proofs.Common.{refl, sym, ◌∙◌, arith, rules}
use Rattle.numbers.specs.TableLaws.{length_table}
use Rattle.network.specs.AnswerLaws.{handed_on, decides, gives_way}
use Rattle.network.specs.Check.{head_of}
use Rattle.network.specs.Records.{records_of}
use Rattle.checks.specs.WholeCheck.{whole_check, parts_check, counts_inside}
use Rattle.checks.proofs.check.check.Goals as goal

pub returns-in_err-judge_head : goal.returns-in_err-judge_head
returns-in_err-judge_head c =
    handed_on _ _ c.from_residual.ensures.1 ∙ decides _ (sym c.in_err-judge_head.ensures) ∙ sym (whole_check _ c.args.network)

pub shared_ref_as_front-buses : goal.shared_ref_as_front-buses
shared_ref_as_front-buses c = omega (arith, c.from.ensures, (counts_inside c.args.network c.in_ok-judge_head.ensures).0)

pub shared_ref_as_front-branches : goal.shared_ref_as_front-branches
shared_ref_as_front-branches c = omega (arith, c.from-2.ensures, (counts_inside c.args.network c.in_ok-judge_head.ensures).1)

pub shared_ref_as_front-switches : goal.shared_ref_as_front-switches
shared_ref_as_front-switches c = omega (arith, c.from-3.ensures, (counts_inside c.args.network c.in_ok-judge_head.ensures).2)

pub returns-in_err-check_buses_and_branches : goal.returns-in_err-check_buses_and_branches
returns-in_err-check_buses_and_branches c =
    handed_on _ _ c.from_residual-in_err-check_buses_and_branches.ensures.1
    ∙ decides _ (sym c.in_err-check_buses_and_branches.ensures)
    ∙ sym (parts_check _ c.args.network c.from.ensures c.from-2.ensures c.from-3.ensures (search rules) (search rules) (search rules) c.in_ok-judge_head.ensures)

pub returns : goal.returns
unfolding head_of records_of
returns c =
    c.check_switch_list.ensures (head_of (records_of c.args.network)) (length_table _ _) refl
    ∙ gives_way _ (sym c.in_ok-check_buses_and_branches.ensures)
    ∙ sym (parts_check _ c.args.network c.from.ensures c.from-2.ensures c.from-3.ensures (search rules) (search rules) (search rules) c.in_ok-judge_head.ensures)
