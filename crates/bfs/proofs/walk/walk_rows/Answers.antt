-- `walk_rows` meets its contract. The invariant: the visits after as many turns as buses had theirs are reached; the step is `one_turned`.
use Rattle.std.proofs.Common.{arith, refl}
use Rattle.bfs.proofs.Turning.{start_turned, turned_few, one_turned, all_turned}
use Rattle.bfs.proofs.walk.walk_rows.Goals as goal

pub loop-head-init : goal.loop-head-init
loop-head-init c = start_turned _ _ _ c.from.ensures (omega arith)

pub bounds-reached-from-in-loop-head : goal.bounds-reached-from-in-loop-head
bounds-reached-from-in-loop-head c = omega (arith, turned_few _ _ _ c.loop-head.invariant)

pub loop-head-smaller : goal.loop-head-smaller
loop-head-smaller c = omega (arith, turned_few _ _ _ c.loop-head.invariant)

pub loop-head-preserved : goal.loop-head-preserved
loop-head-preserved c = one_turned _ _ _ c.loop-head.invariant _ _ c.from-in-loop-head.ensures refl c.loop-head-test.true (c.expand.ensures _ _)

pub expand-requires : goal.expand-requires
expand-requires c = (_, _, c.loop-head.invariant.walking)

pub returns : goal.returns
returns c = all_turned _ _ _ c.loop-head.invariant c.loop-head-test.false
