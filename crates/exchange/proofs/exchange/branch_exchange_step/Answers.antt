-- `branch_exchange_step` meets its contract: `last` is the last improving trial of the first i switches. A switch is not seen, or has no trial, or one that does not improve, or one that takes the place of the one before.
use Rattle.std.proofs.Common.{◌≡◌, ◌<◌, refl, sym, ap, ◌∙◌, arith}
use Rattle.states.specs.Listed.{few_switches, switches_listed}
use Rattle.feeders.specs.SupplyLaws.{network_records}
use Rattle.states.specs.Switches.{size}
use Rattle.network.specs.Records.{records_of}
use Rattle.searches.specs.States.{state_of}
use Rattle.numbers.specs.Choose.{last_some}
use Rattle.numbers.specs.UpTo.{up_to}
use Rattle.exchange.specs.Exchange.{improving, round_of}
use Rattle.exchange.specs.ExchangeTrials.{seen_read, none_seen, none_tried, better_tried, other_tried}
use Rattle.exchange.specs.ExchangeValues.{trial_of}
use Rattle.exchange.proofs.exchange.branch_exchange_step.Goals as goal
use Rattle.exchange.proofs.exchange.branch_exchange_step.Goals.{then-is_seen+in-Some+then-improves, then-is_seen+in-Some+else-improves, then-is_seen+in_default, else-is_seen}

pub loop-i-init : goal.loop-i-init
unfolding last_some up_to trial_of
loop-i-init c = refl

pub bounds-network-i : goal.bounds-network-i
bounds-network-i c = omega (arith, few_switches c.args.network.now (network_records _ c.requires.0.0))

pub bounds-current-i : goal.bounds-current-i
bounds-current-i c = omega (arith, few_switches c.args.network.now (network_records _ c.requires.0.0))

pub loop-i-preserved : goal.loop-i-preserved
loop-i-preserved c =
    let n = c.args.network.now in
    let N = records_of n in
    let s = state_of n c.args.current.now.configuration in
    let current = c.args.current.now.loss in
    let i = c.loop-i.i in
    let listed : i < n.switch_count = omega arith in
    let seen = seen_read n c.args.current.now.configuration i listed _ c.is_seen.ensures in
    let last = c.loop-i.invariant in
    elim c.if-is_seen.branch [
      | then-is_seen+in-Some+then-improves w ↦
          w.last-is ∙ better_tried N s current i _ last (seen ∙ w.if-is_seen.true) _ w.trial.ensures w.in-Some.is (sym w.improves.ensures ∙ w.if-improves.true)
      | then-is_seen+in-Some+else-improves w ↦
          w.last-is ∙ other_tried N s current i _ last (seen ∙ w.if-is_seen.true) _ w.trial.ensures w.in-Some.is (sym w.improves.ensures ∙ w.if-improves.false)
      | then-is_seen+in_default w ↦ w.last-is ∙ none_tried N s current i _ last (seen ∙ w.if-is_seen.true) _ w.trial.ensures w.in_default.is
      | else-is_seen w ↦ w.last-is ∙ none_seen N s current i _ last (seen ∙ w.if-is_seen.false)
    ]

pub trial-requires : goal.trial-requires
trial-requires c =
    let n = c.args.network.now in
    let listed : c.loop-i.i < n.switch_count = omega arith in (
      record {
        started = c.requires.0;
        buses = c.requires.3;
        branches = c.requires.4;
        listed = c.requires.1;
        held = c.requires.2;
        live = c.live_branches.ensures;
        counts = c.open_counts.ensures;
      },
      listed,
      seen_read n c.args.current.now.configuration c.loop-i.i listed _ c.is_seen.ensures ∙ c.if-is_seen.true,
    )

pub returns : goal.returns
unfolding round_of
returns c =
    let N = records_of c.args.network.now in
    let all : c.loop-i.i ≡ size N = omega (arith, switches_listed c.args.network.now) in
    c.loop-i.invariant ∙ ap (λ m. trial_of N (last_some (improving N (state_of c.args.network.now c.args.current.now.configuration) c.args.current.now.loss) m)) all
