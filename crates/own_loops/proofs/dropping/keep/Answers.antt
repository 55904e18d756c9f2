-- `keep` meets its contract. The step of the loop is `one_made` or `none_made`.
use Rattle.std.proofs.Common.{arith}
use Rattle.own_loops.proofs.Keeping.{one_made, none_made}
use Rattle.own_loops.proofs.dropping.keep.Goals as goal
use Rattle.own_loops.proofs.dropping.keep.Goals.{in-Some, in_default}

pub loop-record-preserved : goal.loop-record-preserved
loop-record-preserved g c = (
  elim c.match-place.branch [ in-Some w ↦ omega arith | in_default w ↦ omega arith ],
  λ make same.
      elim c.match-place.branch [
        | in-Some w ↦ rw (w.left-is, w.kept-is) (one_made make _ _ _ c.loop-record-test.true _ c.record-item.is (same _ _ c.place.ensures) (c.loop-record.invariant.1 make same) w.in-Some.is (omega arith))
        | in_default w ↦ rw (w.left-is, w.kept-is) (none_made make _ _ _ c.loop-record-test.true _ c.record-item.is (same _ _ c.place.ensures) (c.loop-record.invariant.1 make same) w.in_default.is)
      ],
)
