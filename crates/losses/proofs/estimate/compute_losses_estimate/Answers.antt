-- `compute_losses_estimate` meets its contract: the total over the branches that are counted and have a flag, and so the loss of the net by `net_loss`.
use mathlib.Core.Path.{◌≡◌}
use Prim.Native.Nat.{min}
use native.Mathlib.Omega.{arith}
use lib.ListN.{length}
use borrow.Author.Rules.{rules}
use Rattle.losses.specs.ListLossLaws.{net_loss}
use Rattle.losses.proofs.Laws.{loss_none, loss_all}
use Rattle.losses.proofs.estimate.compute_losses_estimate.Goals as goal

pub returns-then-graph-eq0 : goal.returns-then-graph-eq0
returns-then-graph-eq0 c =
    let live-long : length c.args.live ≡ 512 = search rules in
    let e = loss_none _ _ _ _ _ c.if-graph-eq0.true in
    (e, net_loss _ _ _ _ c.args.live (omega (arith, live-long)) _ e)

pub returns : goal.returns
returns c =
    let live-long : length c.args.live ≡ 512 = search rules in
    let end : c.at_most-n.result ≡ min c.args.graph.branch_count (length c.args.live) =
    omega (arith, c.at_most-n.ensures, c.wide16.ensures.0, live-long) in
    let e = loss_all _ _ _ _ _ _ _ _ _ c.if-graph-eq0.false end c.live_lists-lists.ensures c.megawatts-mw.ensures c.total_loss.ensures in
    (e, net_loss _ _ _ _ c.args.live (omega (arith, live-long)) _ e)
