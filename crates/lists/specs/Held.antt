-- What the code holds in the middle of a listing and of a walk.
use Rattle.std.specs.Prelude.{List, ℕ}
use Rattle.graph.specs.Walk.{Visit}
use Rattle.lists.specs.Lists.{Listing, Reaching}
use Rattle.lists.specs.declared.lists.Entries.{Entries}
use Rattle.lists.specs.declared.lists.Reached.{Reached}

-- these buses are listed
abbrev pub Listed : List ℕ → Entries → Type 0
Listed l e = Listing l e.near e.end

-- these visits are reached, and the barred bus and they are marked
abbrev pub Reaches : ℕ → List Visit → Reached → Type 0
Reaches barred o r = Reaching barred o r.seen r.bus r.count
