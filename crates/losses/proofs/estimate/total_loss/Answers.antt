-- `total_loss` meets its contract: after k turns the total is `list_total` of the first k branches. A turn is `total_live` or `total_dead`.
use mathlib.Core.Path.{◌≡◌}
use Prim.Native.Nat.{◌<◌}
use native.Mathlib.Omega.{arith}
use lib.ListN.{length}
use borrow.Author.Rules.{rules}
use Rattle.losses.proofs.Laws.{total_none, total_live, total_dead}
use Rattle.losses.proofs.estimate.total_loss.Goals as goal
use Rattle.losses.proofs.estimate.total_loss.Goals.{else-live-k, then-live-k}

pub loop-k-init : goal.loop-k-init
loop-k-init c = (omega arith, total_none _ _ _ _ _ _)

pub bounds-live-k : goal.bounds-live-k
bounds-live-k c = omega (arith, c.requires)

pub loop-k-preserved : goal.loop-k-preserved
loop-k-preserved c =
    -- the arrays have an entry for each of n branches
    let branches-long : length c.args.branches ≡ 512 = search rules in
    let inside : c.loop-k.k < length c.args.branches = omega (arith, c.requires, branches-long, c.loop-k-test.true) in (
      omega arith,
      elim c.if-live-k.branch [
        | then-live-k w ↦
            total_live _ _ _ _ _ _ _ _ _ _ _ _ inside c.loop-k.invariant.1 w.if-live-k.true w.downstream_load_mw-load.ensures w.branch_term-total.ensures
            w.total-is
        | else-live-k w ↦
            total_dead _ _ _ _ _ _ _ _ _ c.loop-k.invariant.1 w.if-live-k.false w.total-is
      ],
    )

pub returns : goal.returns
returns c =
    let end : c.loop-k.k ≡ c.args.n = omega (arith, c.loop-k.invariant.0, c.loop-k-test.false) in
    rw (← end) c.loop-k.invariant.1
