-- `check_locked` meets its contract. The invariant: none of the switches before `at` is locked where it must move.
use Rattle.changes.proofs.Locking.{NoneLocked}
use Rattle.changes.proofs.change.Change.check_locked.Given as goal

abbrev pub invariant-loop-at : goal.invariant-loop-at
invariant-loop-at l = NoneLocked l.fn.network l.present l.wanted l.at
