-- `Graph::new` meets its contract. The invariant: the graph has the listed branches from k on in its rows; the step is `one_built`.
use Rattle.std.proofs.Common.{◌≡◌}
use Rattle.graph.proofs.Building.{built_from}
use Rattle.graph.proofs.rows.Graph.new.Given as goal

abbrev pub invariant-loop-k : goal.invariant-loop-k
invariant-loop-k l = l.graph ≡ built_from l.from l.to l.branch_count l.bus_count l.k
