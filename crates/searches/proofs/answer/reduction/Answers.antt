-- `reduction` meets its contract: the code's one test and three operations are those of the definition.
use Rattle.searches.specs.Results.{reduction}
use Rattle.searches.proofs.answer.reduction.Goals as goal

pub returns-then-base : goal.returns-then-base
unfolding reduction
returns-then-base c = rw c.if-base.true

pub returns : goal.returns
unfolding reduction
returns c = rw c.if-base.false
