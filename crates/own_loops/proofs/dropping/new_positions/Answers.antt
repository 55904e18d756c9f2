-- `new_positions` meets its contract. The step of the loop is `one_numbered` or `none_more`.
use Rattle.std.proofs.Common.{arith}
use Rattle.own_loops.proofs.Placing.{none_numbered, few, read, one_numbered, none_more, all_numbered}
use Rattle.own_loops.proofs.dropping.new_positions.Goals as goal
use Rattle.own_loops.proofs.dropping.new_positions.Goals.{then-not-is_own_loop, else-not-is_own_loop}

pub loop-k-init : goal.loop-k-init
loop-k-init c = none_numbered c.args.branches.now

pub overflow_add-kept : goal.overflow_add-kept
overflow_add-kept c = omega (arith, few c.args.branches.now c.loop-k.positions c.loop-k.kept c.loop-k.k c.loop-k.invariant)

pub loop-k-preserved : goal.loop-k-preserved
loop-k-preserved c =
    elim c.if-not-is_own_loop.branch [
      | then-not-is_own_loop w ↦ rw (w.positions-is, w.kept-is) (one_numbered c.args.branches.now c.loop-k.invariant (omega arith) (read c.args.branches.now c.loop-k.k _ c.loop-k-test.true c.is_own_loop.ensures w.if-not-is_own_loop.true))
      | else-not-is_own_loop w ↦ rw (w.positions-is, w.kept-is) (none_more c.args.branches.now c.loop-k.invariant (read c.args.branches.now c.loop-k.k _ c.loop-k-test.true c.is_own_loop.ensures w.if-not-is_own_loop.false))
    ]

pub returns : goal.returns
returns c = all_numbered c.args.branches.now c.loop-k.invariant (omega arith)
