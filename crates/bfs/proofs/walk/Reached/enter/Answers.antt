-- `enter` meets its contract, by the laws of Entering. A bus that is not marked finds room, since no more buses are reached than marked.
use Rattle.std.proofs.Common.{arith}
use Rattle.bfs.proofs.Entering.{dead_stays, marked_stays, enters, one_fits}
use Rattle.bfs.proofs.walk.Reached.enter.Goals as goal
use Rattle.bfs.proofs.walk.Reached.enter.Goals.{then-not-live-via-then-not-live, then-not-live-via-else-not-live+then-self-at}

pub returns-then-not-live : goal.returns-then-not-live
returns-then-not-live c =
    elim c.then-not-live.branch [
      | then-not-live-via-then-not-live w ↦ dead_stays _ _ _ w.if-not-live.true
      | then-not-live-via-else-not-live+then-self-at w ↦ marked_stays _ _ _ _ c.from-at.ensures (omega arith) w.if-self-at.true
    ]

pub bounds-self-end : goal.bounds-self-end
bounds-self-end c = omega (arith, one_fits c.requires.2 _ (omega arith) c.if-self-at.false)

pub bounds-self-end-2 : goal.bounds-self-end-2
bounds-self-end-2 c = omega (arith, one_fits c.requires.2 _ (omega arith) c.if-self-at.false)

pub overflow_add-self : goal.overflow_add-self
overflow_add-self c = omega (arith, one_fits c.requires.2 _ (omega arith) c.if-self-at.false)

pub returns : goal.returns
returns c = enters _ _ _ _ c.from-at.ensures (omega arith) _ c.from-end.ensures c.if-not-live.false c.if-self-at.false
