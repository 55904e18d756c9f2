-- Document 01's radiality, as it is computed.
use Rattle.std.specs.Prelude.{Bool, ◌&&◌, ◌||◌, List, ℕ, suc, eqb, length}
use Rattle.numbers.specs.Counts.{count}
use Rattle.graph.specs.Graph.{Net}
use Rattle.graph.specs.Walk.{Visit, neighbours, walk_by}

-- "true for zero buses; else n−1 live branches, and all n buses reached", from the first, by a walk with these neighbours; of n buses and so many live branches. A walk reaches no bus twice and none
-- that is not listed, so its length counts them (`WalkLaws.walk_distinct`, `walk_count`)
abbrev pub radial_by : (ℕ → List Visit) → ℕ → ℕ → Bool
radial_by next n branches = eqb n 0 || (eqb (suc branches) n && eqb (length (walk_by next 0 0)) n)

-- by document 01's scan
unfoldable pub radial : Net → (ℕ → Bool) → Bool
radial N E = radial_by (neighbours N E) N.buses (count E N.branches)
