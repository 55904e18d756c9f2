-- `put_behind` meets its contract, by the laws of Listing.
use Rattle.std.proofs.Common.{arith}
use Rattle.lists.proofs.Listing.{dead_stays, full_stays, one_listed}
use Rattle.lists.proofs.lists.Entries.put_behind.Goals as goal
use Rattle.lists.proofs.lists.Entries.put_behind.Goals.{else-live-via-then-live+else-at-lt-MAX_HALVES, else-live-via-else-live}

pub returns-then-at-lt-MAX_HALVES : goal.returns-then-at-lt-MAX_HALVES
returns-then-at-lt-MAX_HALVES c = one_listed _ _ _ c.from-at.ensures c.if-live.true c.if-at-lt-MAX_HALVES.true

pub returns-else-live : goal.returns-else-live
returns-else-live c =
    elim c.else-live.branch [
      | else-live-via-then-live+else-at-lt-MAX_HALVES w ↦ full_stays _ _ w.if-live.true (omega arith)
      | else-live-via-else-live w ↦ dead_stays _ _ w.if-live.false
    ]
