-- `check_plan` meets its contract, from those of its calls.
use Rattle.std.proofs.Common.{refl}
use Rattle.changes.specs.Change.{judged}
use Rattle.changes.proofs.change.check_plan.Goals as goal

pub returns : goal.returns
unfolding judged
returns c = rw (c.verdict_of-change.ensures, c.graph_of.ensures, c.flags_in.ensures, c.flags_in-2.ensures) refl
