-- The rows of a feeder's records: its ids resolved to positions once, for any value handed over.
use Rattle.std.specs.Prelude.{Bool, cond, List, map, ℕ, ltb, get_or, take}
use Rattle.numbers.specs.UpTo.{table}
use Rattle.numbers.specs.Choose.{index_of, among}
use Rattle.network.specs.declared.branch.Branch.{Branch}
use Rattle.network.specs.declared.topology.PowerNetwork.{PowerNetwork}
use Rattle.network.specs.Records.{Network, no_branch}
use Rattle.network.specs.Limits.{bus_id}
use Rattle.states.specs.Live.{live}
use Rattle.graph.specs.declared.rows.Graph.{Graph}
use Rattle.graph.specs.Graph.{Net}
use Rattle.graph.specs.Rows.{net_of, graph_of}

-- the ids of the listed buses, of at most 256
abbrev pub listed_ids : PowerNetwork → List ℕ
listed_ids n = map bus_id (take n.bus_count n.buses)

-- the first position of an id; 0 where it is not listed
unfoldable pub end_at : List ℕ → ℕ → ℕ
end_at ids id = cond (among id ids) (index_of id ids) 0

-- one end of each of the first branches as a position among these ids, and 0 behind them
abbrev pub ends_of : (Branch → ℕ) → List ℕ → List Branch → ℕ → List ℕ
ends_of end ids branches count = table (λ k. cond (ltb k count) (end_at ids (end (get_or branches k no_branch))) 0) 512

abbrev pub from_ends : PowerNetwork → List ℕ
from_ends n = ends_of (λ b. b.from_bus) (listed_ids n) n.branches n.branch_count

abbrev pub to_ends : PowerNetwork → List ℕ
to_ends n = ends_of (λ b. b.to_bus) (listed_ids n) n.branches n.branch_count

-- the net of these ends
abbrev pub ends_net : PowerNetwork → Net
ends_net n = net_of n.bus_count n.branch_count (from_ends n) (to_ends n)

unfoldable pub feeder_graph : PowerNetwork → Graph
feeder_graph n = graph_of n.bus_count n.branch_count (from_ends n) (to_ends n)

-- the flags of a state's live branches, as the code has them
abbrev pub live_flags : Network → List ℕ → List Bool
live_flags N s = table (live N s) 512
