-- The lookups of a feeder's records.
use Rattle.std.specs.Prelude.{cond, List, map, ℕ, ltb, length, Option, Some, None}
use Rattle.numbers.specs.Choose.{index_of}
use Rattle.network.specs.declared.bus.Bus.{Bus}
use Rattle.network.specs.Limits.{bus_id}
use Rattle.network.specs.Records.{Network}

-- how many buses are listed
unfoldable pub bus_count : Network → ℕ
bus_count N = length N.buses

-- how many branches are listed
unfoldable pub branch_count : Network → ℕ
branch_count N = length N.branches

-- the first position of a bus with this id
unfoldable pub bus_index : List Bus → ℕ → Option ℕ
bus_index buses id = let i = index_of id (map bus_id buses) in cond (ltb i (length buses)) (Some i) None
