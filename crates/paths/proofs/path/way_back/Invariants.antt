-- `way_back` meets its contract. The invariant: the branches so far, and those that are left, are the whole way back; the step is `one_led`.
use Rattle.std.proofs.Common.{◌≡◌, ◌<◌, List}
use Rattle.graph.specs.Walk.{Visit}
use Rattle.graph.specs.Rows.{row_net}
use Rattle.paths.specs.Ways.{ways_by}
use Rattle.paths.proofs.Leading.{Led}
use Rattle.paths.proofs.path.way_back.Given as goal

abbrev pub invariant-loop-i : goal.invariant-loop-i
invariant-loop-i l = record { small : l.at < 256; led : (o : List Visit) → l.ways ≡ ways_by o → Led (row_net l.graph) o l.start l.b l.branch l.at l.i }
