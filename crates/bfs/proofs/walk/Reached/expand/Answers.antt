-- `expand` meets its contract. The invariant: what is left of the row, entered after what is done, gives the whole; the step is `one_expanded`.
use Rattle.bfs.proofs.Expanding.{none_expanded, one_expanded, row_ended, row_cut}
use Rattle.bfs.proofs.walk.Reached.expand.Goals as goal

pub loop-init : goal.loop-init
loop-init c barred = rw c.from.ensures (none_expanded _ _ _ barred _)

pub returns-then-h-ge-NO_HALF : goal.returns-then-h-ge-NO_HALF
returns-then-h-ge-NO_HALF c barred = row_ended _ _ _ barred _ (c.loop.invariant barred) c.if-h-ge-NO_HALF.true

pub enter-requires : goal.enter-requires
enter-requires c =
    let s = c.requires in
    let b = (c.loop.invariant s.0).loop.left s.1 s.2 in
    (s.0, b.so_far, b.holds)

pub loop-preserved : goal.loop-preserved
loop-preserved c barred =
    one_expanded _ _ _ barred _ (c.loop.invariant barred) _ _ c.loop-test.true c.if-h-ge-NO_HALF.false c.from-half.ensures c.from-at.ensures
    (c.enter.ensures barred)

pub returns : goal.returns
returns c barred = row_cut _ _ _ barred _ (c.loop.invariant barred) c.loop-test.false
