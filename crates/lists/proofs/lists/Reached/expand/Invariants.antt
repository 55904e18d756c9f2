-- `expand` meets its contract. The invariant: the buses of the list so far are entered; the step is `one_entered`.
use Rattle.std.proofs.Common.{ℕ}
use Rattle.lists.proofs.Listing.{ListEntering}
use Rattle.lists.proofs.lists.Reached.expand.Given as goal

abbrev pub invariant-loop-i : goal.invariant-loop-i
invariant-loop-i l = (barred : ℕ) → ListEntering l.near l.from l.to barred l.initial.self l.self l.i
