-- `first_swap` meets its contract: the first swap along the path is the first along what is left of it.
use Rattle.std.proofs.Common.{sym, ◌∙◌, arith}
use Rattle.numbers.specs.FirstLaws.{first_none}
use Rattle.exchange.specs.ExchangeTrials.{along_next, along_found}
use Rattle.exchange.specs.ExchangeValues.{row_swap}
use Rattle.exchange.proofs.exchange.Round.first_swap.Goals as goal

pub returns-then-is_some : goal.returns-then-is_some
returns-then-is_some c =
    let swap = row_swap c.args.self.now.start.now.graph c.args.self.now.sections.now c.args.self.now.current.now.configuration.switches c.args.live.now in
    along_found swap c.args.path.now c.loop-k.k-index _ c.swap_with-found.ensures c.loop-k-test.true c.loop-k.invariant (sym c.is_some.ensures ∙ c.if-is_some.true)

pub loop-k-preserved : goal.loop-k-preserved
loop-k-preserved c =
    let swap = row_swap c.args.self.now.start.now.graph c.args.self.now.sections.now c.args.self.now.current.now.configuration.switches c.args.live.now in
    along_next swap c.args.path.now c.loop-k.k-index _ c.swap_with-found.ensures c.loop-k-test.true c.loop-k.invariant (sym c.is_some.ensures ∙ c.if-is_some.false)

pub returns : goal.returns
returns c = sym (first_none _ c.args.path.now c.loop-k.k-index (omega arith)) ∙ c.loop-k.invariant
