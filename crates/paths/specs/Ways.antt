-- The branch by which a walk reached each bus.
use Rattle.std.specs.Prelude.{cond, List, [], ◌∷◌, ℕ, eqb, Option, Some, None}
use Rattle.numbers.specs.UpTo.{table}
use Rattle.graph.specs.Walk.{Visit}

-- none where the bus was not reached
unfoldable pub way_to : List Visit → ℕ → Option ℕ
way_to [] b = None
way_to (v ∷ o) b = cond (eqb b v.bus) (Some v.by) (way_to o b)

-- of all bus positions
abbrev pub ways_by : List Visit → List (Option ℕ)
ways_by o = table (way_to o) 256
