-- `walk_rows` meets its contract. The invariant: the visits after as many turns as buses had theirs are reached; the step is `one_turned`.
use Rattle.std.proofs.Common.{◌-◌}
use Rattle.graph.specs.Rows.{row_neighbours}
use Rattle.bfs.proofs.Turning.{Turning}
use Rattle.bfs.proofs.walk.walk_rows.Given as goal

abbrev pub invariant-loop-head : goal.invariant-loop-head
invariant-loop-head l =
    Turning (row_neighbours l.graph l.live) l.start l.start l.reached.seen l.reached.walk.bus l.reached.walk.by l.reached.walk.count l.head

abbrev pub decreases-loop-head : goal.decreases-loop-head
decreases-loop-head l = 256 - l.head
