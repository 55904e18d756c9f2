-- `evaluate_config` meets its contract: the first test that refuses decides; behind all three, the loss by the rows of the graph and the flags of the live branches is
-- the feeder's loss in the state.
use Rattle.std.specs.Prelude.{◌≡◌, Bool, List, length}
use Rattle.std.proofs.Common.{refl, sym, ap, ◌∙◌}
use Rattle.network.specs.declared.topology.PowerNetwork.{PowerNetwork}
use Rattle.network.specs.Answers.{accepted, Judgement}
use Rattle.network.specs.AnswerLaws.{handed_on, decides, gives_way}
use Rattle.network.specs.Check.{check_records}
use Rattle.network.specs.Records.{records_of}
use Rattle.states.specs.Switches.{State}
use Rattle.graph.specs.declared.rows.Graph.{Graph}
use Rattle.graph.specs.Rows.{row_radial}
use Rattle.feeders.specs.FeederRows.{feeder_graph, live_flags}
use Rattle.network.proofs.ArrayLengths.{buses_256}
use Rattle.feeders.specs.FeederRowLaws.{state_flags, flags_radial}
use Rattle.feeders.specs.SupplyLaws.{network_records, network_supply}
use Rattle.losses.specs.FeederLoss.{feeder_loss}
use Rattle.losses.specs.LossCall.{check_fed, judge_fed, loss_call}
use Rattle.losses.specs.LossCallLaws.{fed_accepted, fed_judged}
use Rattle.losses.proofs.evaluation.evaluate_config.Goals as goal

pub returns-in_err-check_network : goal.returns-in_err-check_network
unfolding loss_call
returns-in_err-check_network c = handed_on _ _ c.from_residual.ensures.1 ∙ decides _ (sym c.in_err-check_network.ensures)

pub returns-in_err-check_state : goal.returns-in_err-check_state
unfolding loss_call
returns-in_err-check_state c =
    handed_on _ _ c.from_residual-in_err-check_state.ensures.1
    ∙ decides _ (sym c.in_err-check_state.ensures)
    ∙ gives_way _ (sym c.in_ok-check_network.ensures)

-- what it answers is 11 of the state
fed_so : (n : PowerNetwork) (s : State) (graph : Graph) (live : List Bool) (v : Judgement) → length n.buses ≡ 256 → check_records (records_of n) ≡ accepted tt
    → graph ≡ feeder_graph n → live ≡ live_flags (records_of n) s → v ≡ judge_fed n.supply (row_radial graph live) → v ≡ check_fed (records_of n) (records_of n).supply s
fed_so n s graph live v sized ok g f e = e ∙ ap (judge_fed n.supply) (flags_radial n sized ok s _ _ g f _ refl) ∙ fed_judged n s

pub returns-in_err-check_fed : goal.returns-in_err-check_fed
unfolding loss_call
returns-in_err-check_fed c =
    let n = c.args.network in
    let ok = network_records _ (sym c.in_ok-check_network.ensures) in
    let live = state_flags _ _ 0 ok (sym c.in_ok-check_state.ensures) _ _ c.of.ensures c.live_branches-live.ensures in
    let fed = fed_so n c.args.state.now _ _ _ (buses_256 n c.well_formed.0) ok c.graph_of-graph.ensures live c.in_err-check_fed.ensures in
    handed_on _ _ c.from_residual-in_err-check_fed.ensures.1
    ∙ decides _ (sym fed)
    ∙ gives_way _ (sym c.in_ok-check_state.ensures)
    ∙ gives_way _ (sym c.in_ok-check_network.ensures)

pub returns : goal.returns
unfolding loss_call
returns c =
    let n = c.args.network in
    let passed = sym c.in_ok-check_network.ensures in
    let ok = network_records _ passed in
    let sized = buses_256 n c.well_formed.0 in
    let live = state_flags _ _ 0 ok (sym c.in_ok-check_state.ensures) _ _ c.of.ensures c.live_branches-live.ensures in
    let fed = fed_so n c.args.state.now _ _ _ sized ok c.graph_of-graph.ensures live c.in_ok-check_fed.ensures in
    let radial = (fed_accepted _ _).0 (sym fed) in
    ap accepted (c.live_loss.ensures ∙ feeder_loss n sized ok (network_supply _ passed) _ radial _ _ _ c.graph_of-graph.ensures c.loads_of-loads.ensures live)
    ∙ gives_way _ (sym fed)
    ∙ gives_way _ (sym c.in_ok-check_state.ensures)
    ∙ gives_way _ passed
