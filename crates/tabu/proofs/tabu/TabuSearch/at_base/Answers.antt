-- `at_base` meets its contract: what it holds is the start of the definition's rounds.
use Rattle.tabu.specs.TabuRounds.{base_held}
use Rattle.tabu.proofs.tabu.TabuSearch.at_base.Goals as goal

pub returns : goal.returns
returns c = λ n b r. rw c.new.ensures (base_held n _ _ _ b r)
