-- `list_row` meets its contract. The invariant: what is left of the row, listed behind what is done, gives the whole; the step is `half_listed`.
use Rattle.lists.proofs.Listing.{none_listed, half_listed, row_ended, row_cut}
use Rattle.lists.proofs.lists.Entries.list_row.Goals as goal

pub loop-init : goal.loop-init
loop-init c = none_listed _ _ _ _ _

pub returns-then-h-ge-NO_HALF : goal.returns-then-h-ge-NO_HALF
returns-then-h-ge-NO_HALF c = row_ended _ _ _ _ _ c.loop.invariant c.if-h-ge-NO_HALF.true

pub loop-preserved : goal.loop-preserved
loop-preserved c = half_listed _ _ _ _ _ c.loop.invariant _ c.loop-test.true c.if-h-ge-NO_HALF.false c.from-half.ensures c.put_behind.ensures

pub returns : goal.returns
returns c = row_cut _ _ _ _ _ c.loop.invariant c.loop-test.false
