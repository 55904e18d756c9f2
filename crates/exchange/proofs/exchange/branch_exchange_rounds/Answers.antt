-- `branch_exchange_rounds` meets its contract: each round so far had an improving trial, and those that are left lead from where it stands to the definition's answer.
use Rattle.std.proofs.Common.{arith}
use Rattle.network.proofs.ArrayLengths.{branches_512, buses_256}
use Rattle.feeders.specs.SupplyLaws.{network_records}
use Rattle.searches.specs.StartLaws.{start_base}
use Rattle.exchange.specs.ExchangeRounds.{standing_base, standing_held, standing_ended, standing_done, standing_next}
use Rattle.exchange.proofs.exchange.branch_exchange_rounds.Goals as goal

pub sections_of-sections-requires : goal.sections_of-sections-requires
sections_of-sections-requires c = network_records _ c.requires.0

pub loop-round-init : goal.loop-round-init
loop-round-init c =
    standing_base c.args.network (network_records _ c.requires.0) _ _ (start_base c.args.network (buses_256 c.args.network c.well_formed.0) c.requires.0 c.requires.1)

pub branch_exchange_step-requires : goal.branch_exchange_step-requires
branch_exchange_step-requires c =
    let n = c.args.network in
    let held = standing_held n (network_records _ c.requires.0) _ _ c.loop-round.invariant in
    (c.requires, c.sections_of-sections.ensures, held, buses_256 n c.well_formed.0, branches_512 n c.well_formed.0)

pub returns-in_default : goal.returns-in_default
returns-in_default c =
    standing_ended c.args.network (network_records _ c.requires.0) _ _ c.loop-round.invariant c.loop-round-test.true _ c.branch_exchange_step.ensures c.in_default.is

pub loop-round-preserved : goal.loop-round-preserved
loop-round-preserved c =
    standing_next c.args.network (network_records _ c.requires.0) _ _ c.loop-round.invariant c.loop-round-test.true _ c.branch_exchange_step.ensures c.in-Some.is

pub returns : goal.returns
returns c = standing_done c.args.network (network_records _ c.requires.0) _ _ c.loop-round.invariant (omega arith)
