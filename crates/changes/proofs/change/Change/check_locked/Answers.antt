-- `check_locked` meets its contract. The invariant: none of the switches before `at` is locked where it must move.
use Rattle.std.proofs.Common.{arith, rules, length-take}
use Rattle.changes.specs.Passing.{checked_counts}
use Rattle.changes.proofs.Locking.{start_unlocked, bytes_long, one_unlocked, one_locked, all_unlocked}
use Rattle.changes.proofs.change.Change.check_locked.Goals as goal

pub slice_bounds-switches-end : goal.slice_bounds-switches-end
slice_bounds-switches-end c = omega (arith, c.from.ensures, (checked_counts _ c.requires.checked).2)

pub slice_bounds-listed-end : goal.slice_bounds-listed-end
slice_bounds-listed-end c = omega (arith, c.from.ensures, (checked_counts _ c.requires.checked).2, length-take c.from.result c.args.network.switches)

pub loop-at-init : goal.loop-at-init
loop-at-init c = start_unlocked _ _ _

pub bounds-present-at : goal.bounds-present-at
bounds-present-at c = rw (← (bytes_long _ _ _ c.requires.checked (search rules) c.from.ensures).0) c.loop-at-test.true

pub bounds-wanted-at : goal.bounds-wanted-at
bounds-wanted-at c = rw (← (bytes_long _ _ _ c.requires.checked (search rules) c.from.ensures).1) c.loop-at-test.true

pub returns-then-is_locked_difference : goal.returns-then-is_locked_difference
returns-then-is_locked_difference c =
    one_locked _ _ _ c.requires.checked (search rules) c.from.ensures c.loop-at.invariant c.requires.made c.loop-at-test.true c.flagged-before.ensures c.flagged-after.ensures
    c.is_locked_difference.ensures
    c.if-is_locked_difference.true

pub loop-at-preserved : goal.loop-at-preserved
loop-at-preserved c =
    one_unlocked _ _ _ c.requires.checked (search rules) c.from.ensures c.loop-at.invariant c.requires.made c.loop-at-test.true c.flagged-before.ensures c.flagged-after.ensures
    c.is_locked_difference.ensures
    c.if-is_locked_difference.false

pub returns : goal.returns
returns c = all_unlocked _ _ _ c.requires.checked (search rules) c.from.ensures c.loop-at.invariant c.loop-at-test.false
