-- `pairs_of` meets its contract. The invariant: the first i switches are done with; the step is `one_made`, or the switch is passed by.
use Rattle.plan.specs.SwitchLists.{listed}
use Rattle.plan.proofs.Pairing.{Made}
use Rattle.plan.proofs.pairs.pairs_of.Given as goal

abbrev pub invariant-loop-switch : goal.invariant-loop-switch
invariant-loop-switch l = Made l.fn.network l.present l.wanted l.stage.live (listed l.stage.pairs) l.switch-index
