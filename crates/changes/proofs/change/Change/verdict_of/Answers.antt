-- `verdict_of` meets its contract: the first of its parts that refuses decides.
use Rattle.std.proofs.Common.{◌≡◌, sym, ◌∙◌, rules}
use Rattle.network.specs.Answers.{accepted, ◌and_then◌, Judgement}
use Rattle.network.specs.AnswerLaws.{handed_on, decides, gives_way}
use Rattle.network.specs.Records.{records_of}
use Rattle.feeders.specs.StateCalls.{check_radial}
use Rattle.states.specs.Live.{check_state}
use Rattle.feeders.specs.Supply.{check_network}
use Rattle.feeders.specs.SupplyLaws.{network_records}
use Rattle.changes.specs.Change.{check_plan}
use Rattle.feeders.specs.StateCallLaws.{radial_judged}
use Rattle.changes.specs.Passing.{Checked, made_flags}
use Rattle.changes.proofs.change.Change.verdict_of.Goals as goal
use Rattle.changes.proofs.change.Change.verdict_of.Goals.{In_ok-check_state-2, In_ok-check_radial}

-- behind 10
checked : (c : In_ok-check_state-2) → Checked c.args.network c.args.present.now c.args.wanted.now
checked c = record { network = network_records _ (sym c.in_ok-check_network.ensures); present_good = sym c.in_ok-check_state.ensures; wanted_good = sym c.in_ok-check_state-2.ensures }

behind_states : (c : In_ok-check_state-2) {b : Judgement}
    → b ≡ (check_network (records_of c.args.network) and_then check_state (records_of c.args.network) c.args.present.now 0 and_then check_state (records_of c.args.network) c.args.wanted.now 1 and_then b)
behind_states c = gives_way _ (sym c.in_ok-check_state-2.ensures) ∙ gives_way _ (sym c.in_ok-check_state.ensures) ∙ gives_way _ (sym c.in_ok-check_network.ensures)

-- behind 11 of the present state
present_radial : (c : In_ok-check_radial) → Checked c.args.network c.args.present.now c.args.wanted.now → accepted tt ≡ check_radial (records_of c.args.network) c.args.present.now 0
present_radial c given = radial_judged _ (search rules) given.network _ 0 c.requires.graph (made_flags _ given c.requires).0 c.in_ok-check_radial.ensures

pub returns-in_err-check_network : goal.returns-in_err-check_network
unfolding check_plan
returns-in_err-check_network c = handed_on _ _ c.from_residual.ensures.1 ∙ decides _ (sym c.in_err-check_network.ensures)

pub returns-in_err-check_state : goal.returns-in_err-check_state
unfolding check_plan
returns-in_err-check_state c =
    handed_on _ _ c.from_residual-in_err-check_state.ensures.1
    ∙ decides _ (sym c.in_err-check_state.ensures)
    ∙ gives_way _ (sym c.in_ok-check_network.ensures)

pub returns-in_err-check_state-2 : goal.returns-in_err-check_state-2
unfolding check_plan
returns-in_err-check_state-2 c =
    handed_on _ _ c.from_residual-in_err-check_state-2.ensures.1
    ∙ decides _ (sym c.in_err-check_state-2.ensures)
    ∙ gives_way _ (sym c.in_ok-check_state.ensures)
    ∙ gives_way _ (sym c.in_ok-check_network.ensures)

pub returns-in_err-check_radial : goal.returns-in_err-check_radial
unfolding check_plan
returns-in_err-check_radial c =
    let given = checked (goal.at.returns-in_err-check_radial c).In_ok-check_state-2 in
    handed_on _ _ c.from_residual-in_err-check_radial.ensures.1
    ∙ decides _ (sym (radial_judged _ (search rules) given.network _ 0 c.requires.graph (made_flags _ given c.requires).0 c.in_err-check_radial.ensures))
    ∙ behind_states (goal.at.returns-in_err-check_radial c).In_ok-check_state-2

pub returns-in_err-check_radial-2 : goal.returns-in_err-check_radial-2
unfolding check_plan
returns-in_err-check_radial-2 c =
    let given = checked (goal.at.returns-in_err-check_radial-2 c).In_ok-check_state-2 in
    handed_on _ _ c.from_residual-in_err-check_radial-2.ensures.1
    ∙ decides _ (sym (radial_judged _ (search rules) given.network _ 1 c.requires.graph (made_flags _ given c.requires).1 c.in_err-check_radial-2.ensures))
    ∙ gives_way _ (sym (present_radial (goal.at.returns-in_err-check_radial-2 c).In_ok-check_radial given))
    ∙ behind_states (goal.at.returns-in_err-check_radial-2 c).In_ok-check_state-2

pub check_locked-requires-clause-checked : goal.check_locked-requires-clause-checked
check_locked-requires-clause-checked c = checked (goal.at.check_locked-requires-clause-checked c).In_ok-check_state-2

pub returns : goal.returns
unfolding check_plan
returns c =
    let given = checked (goal.at.returns c).In_ok-check_state-2 in
    c.check_locked.ensures
    ∙ gives_way _ (sym (radial_judged _ (search rules) given.network _ 1 c.requires.graph (made_flags _ given c.requires).1 c.in_ok-check_radial-2.ensures))
    ∙ gives_way _ (sym (present_radial (goal.at.returns c).In_ok-check_radial given))
    ∙ behind_states (goal.at.returns c).In_ok-check_state-2
