-- `verify_radiality` meets its contract: the first check that refuses decides; behind both, the rows of the graph and the flags of the live
-- branches say what the records and the state say.
use Rattle.std.proofs.Common.{sym, ap, ◌∙◌, rules}
use Rattle.network.specs.Answers.{accepted}
use Rattle.network.specs.AnswerLaws.{handed_on, decides, gives_way}
use Rattle.feeders.specs.FeederRowLaws.{state_flags, flags_form}
use Rattle.feeders.specs.SupplyLaws.{network_records}
use Rattle.radiality.proofs.radiality.verify_radiality.Goals as goal

pub returns-in_err-check_network : goal.returns-in_err-check_network
returns-in_err-check_network c = handed_on _ _ c.from_residual.ensures.1 ∙ decides _ (sym c.in_err-check_network.ensures)

pub returns-in_err-check_state : goal.returns-in_err-check_state
returns-in_err-check_state c =
    handed_on _ _ c.from_residual-in_err-check_state.ensures.1 ∙ decides _ (sym c.in_err-check_state.ensures) ∙ gives_way _ (sym c.in_ok-check_network.ensures)

pub returns : goal.returns
returns c =
    let ok = network_records _ (sym c.in_ok-check_network.ensures) in
    let good = sym c.in_ok-check_state.ensures in
    ap accepted
    (flags_form c.args.network (search rules) ok _ _ _ c.graph_of.ensures
    (state_flags _ _ 0 ok good _ _ c.of.ensures c.live_branches-live.ensures)
    _
    c.form_of.ensures)
    ∙ gives_way _ (sym c.in_ok-check_state.ensures)
    ∙ gives_way _ (sym c.in_ok-check_network.ensures)
