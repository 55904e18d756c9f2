-- `total_loss` meets its contract: after k turns the total is `list_total` of the first k branches. A turn is `total_live` or `total_dead`.
use mathlib.Core.Path.{◌≡◌}
use Prim.Native.Nat.{◌≤◌}
use Rattle.losses.specs.ListLoss.{list_total}
use Rattle.losses.proofs.estimate.total_loss.Given as goal

abbrev pub invariant-loop-k : goal.invariant-loop-k
invariant-loop-k l = (l.k ≤ l.n) × (l.total ≡ list_total l.lists l.far l.mw l.live l.branches l.base_mva l.k)
