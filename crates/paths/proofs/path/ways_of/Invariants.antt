-- `ways_of` meets its contract. The invariant: the visits so far are noted; the step is `one_noted`.
use Rattle.std.proofs.Common.{◌≡◌, List, length, take}
use Rattle.graph.specs.Walk.{Visit}
use Rattle.graph.specs.Rows.{walked}
use Rattle.paths.specs.Ways.{ways_by}
use Rattle.paths.proofs.path.ways_of.Given as goal

abbrev pub invariant-loop-x : goal.invariant-loop-x
invariant-loop-x l = (o : List Visit) → l.walk ≡ walked o → l.ways ≡ ways_by (take (length l.yielded) o)
