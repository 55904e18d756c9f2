-- `open_ids` meets its contract. The invariant: the ids of the first i switches are noted; the step is `open_noted`, or the switch is passed by.
use Rattle.plan.proofs.OpenIds.{Noted}
use Rattle.plan.proofs.pairs.open_ids.Given as goal

abbrev pub invariant-loop-i : goal.invariant-loop-i
invariant-loop-i l = Noted l.network l.state l.ids l.i
