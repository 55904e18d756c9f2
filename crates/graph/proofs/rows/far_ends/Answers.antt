-- `far_ends` meets its contract: after k turns the far ends of the first k branches stand in the array, and a turn is `one_far`.
use Rattle.graph.proofs.Building.{none_far, one_far, all_far}
use borrow.Author.Rules.{rules}
use Rattle.graph.proofs.rows.far_ends.Goals as goal

pub loop-k-init : goal.loop-k-init
loop-k-init c = none_far _ _

pub loop-k-preserved : goal.loop-k-preserved
loop-k-preserved c = one_far _ _ _ c.loop-k.invariant (search rules)

pub returns : goal.returns
returns c = all_far _ _ _ c.loop-k.invariant (search rules)
