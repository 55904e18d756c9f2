-- `left_if` meets its contract: a stored text's feeder is what the dropping leaves of its records.
use mathlib.Core.Path.{ap, ◌∙◌, sym}
use Rattle.network.specs.Records.{records_of}
use Rattle.states.specs.Listed.{few_branches, few_switches}
use Rattle.own_loops.specs.OwnLoopLaws.{value_without_lem}
use Rattle.feeders.specs.Supply.{left_if}
use Rattle.feeders.proofs.supply.left_if.Goals as goal

pub returns-then-stored : goal.returns-then-stored
returns-then-stored c =
    let n = c.args.network in
    ap records_of c.without_own_loops.ensures ∙ value_without_lem n (few_branches n c.requires) (few_switches n c.requires) ∙ ap (λ b. left_if b (records_of n)) (sym c.if-stored.true)

pub returns : goal.returns
returns c = ap (λ b. left_if b (records_of c.args.network)) (sym c.if-stored.false)
