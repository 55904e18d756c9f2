-- `Graph::new` meets its contract. The invariant: the graph has the listed branches from k on in its rows; the step is `one_built`.
use Rattle.std.proofs.Common.{◌≡◌, arith, ◌∙◌}
use Rattle.graph.proofs.Building.{none_built, one_built, all_built}
use Rattle.graph.proofs.rows.Graph.new.Goals as goal

pub loop-k-init : goal.loop-k-init
loop-k-init c = rw c.far_ends.ensures (none_built _ _ _ _ c.min-n.result (omega arith))

pub loop-k-preserved : goal.loop-k-preserved
loop-k-preserved c = (rw c.loop-k.invariant at c.put_branch.ensures) ∙ one_built _ _ _ _ c.loop-k.k (omega arith) (omega arith)

pub returns : goal.returns
returns c =
    let none : c.loop-k.k ≡ 0 = omega arith in
    (rw none at c.loop-k.invariant) ∙ all_built _ _ _ _
