-- What stands in the code in the middle of a walk.
use Rattle.std.specs.Prelude.{List, ℕ}
use Rattle.graph.specs.Walk.{Visit}
use Rattle.graph.specs.Walking.{Walking}
use Rattle.bfs.specs.declared.walk.Reached.{Reached}

-- these visits are reached, and the barred bus and they are marked
abbrev pub Reaches : ℕ → List Visit → Reached → Type 0
Reaches barred o r = Walking barred o r.seen r.walk.bus r.walk.by r.walk.count
