-- `tabu_rounds` meets its contract: the rounds that are left lead from where it stands to the definition's answer.
use Rattle.std.proofs.Common.{◌∙◌, arith}
use Rattle.network.specs.Records.{records_of}
use Rattle.network.proofs.ArrayLengths.{branches_512, buses_256}
use Rattle.feeders.specs.SupplyLaws.{network_records}
use Rattle.searches.specs.StartLaws.{start_base, start_radial}
use Rattle.tabu.specs.TabuRounds.{standing_base, standing_ended, standing_done, standing_next}
use Rattle.tabu.proofs.tabu.tabu_rounds.Goals as goal
use Rattle.tabu.proofs.tabu.tabu_rounds.Goals.{else-search-2, then-search-2}

pub loop-round-init : goal.loop-round-init
loop-round-init c =
    let n = c.args.network in
    let sized = buses_256 n c.well_formed.0 in
    standing_base _ _ (c.at_base-search.ensures n (start_base n sized c.requires.0 c.requires.1) (start_radial n sized (network_records (records_of n) c.requires.0) c.requires.1))

pub best_from_radial-step-requires : goal.best_from_radial-step-requires
best_from_radial-step-requires c = (network_records _ c.requires.0, branches_512 c.args.network c.well_formed.0)

pub best_from_other-step-requires : goal.best_from_other-step-requires
best_from_other-step-requires c = (c.requires, buses_256 c.args.network c.well_formed.0, branches_512 c.args.network c.well_formed.0)

pub loop-round-preserved : goal.loop-round-preserved
loop-round-preserved c =
    let w = c.loop-round.invariant in
    standing_next _ _ c.loop-round.round w c.loop-round-test.true c.if-search.false _
    (λ x s. elim c.if-search-2.branch [
      | then-search-2 b ↦ b.step-is ∙ b.best_from_radial-step.ensures x s b.if-search-2.true
      | else-search-2 b ↦ b.step-is ∙ b.best_from_other-step.ensures x s b.if-search-2.false
    ]) _ c.after_move.ensures

pub returns-then-search : goal.returns-then-search
returns-then-search c = standing_ended _ _ c.loop-round.round c.loop-round.invariant c.if-search.true

pub returns-after-loop-round : goal.returns-after-loop-round
returns-after-loop-round c = standing_done _ _ c.loop-round.round c.loop-round.invariant (λ h. omega arith)
