-- `first_swap` meets its contract: the first swap along the path is the first along what is left of it.
use Rattle.std.proofs.Common.{◌≡◌, drop}
use Rattle.numbers.specs.Choose.{first_some}
use Rattle.exchange.specs.ExchangeValues.{row_swap}
use Rattle.exchange.proofs.exchange.Round.first_swap.Given as goal

abbrev pub invariant-loop-k : goal.invariant-loop-k
invariant-loop-k l =
    let swap = row_swap l.self.start.now.graph l.self.sections.now l.self.current.now.configuration.switches l.live in
    first_some swap (drop l.k-index l.path) ≡ first_some swap l.path
