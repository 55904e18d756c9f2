-- `new` meets its contract: nothing is listed.
use Rattle.numbers.specs.UpTo.{table}
use Rattle.exhaustive.specs.ExhaustiveTies.{no_ties}
use Rattle.exhaustive.proofs.exhaustive.Ties.new.Goals as goal

pub returns : goal.returns
unfolding table
returns c = λ N. no_ties N
