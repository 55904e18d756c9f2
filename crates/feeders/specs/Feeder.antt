-- A feeder's records as a graph: ids become positions. And what its live branches are in a state of the switches: radial, or what instead.
use Rattle.std.specs.Prelude.{Bool, List, map, ℕ, length, get_or}
use Rattle.numbers.specs.Choose.{index_of}
use Rattle.network.specs.Records.{Network, no_branch}
use Rattle.network.specs.Limits.{bus_id}
use Rattle.states.specs.Live.{live}
use Rattle.graph.specs.Graph.{Net, Branches, Live}
use Rattle.graph.specs.Walk.{bfs_path}
use Rattle.graph.specs.declared.form.Form.{Form}
use Rattle.graph.specs.Form.{form, is_tree}

-- the position of the bus with this id; the number of buses where none has it, which refusal 6 rules out
unfoldable pub position : Network → ℕ → ℕ
position N id = index_of id (map bus_id N.buses)

unfoldable pub feeder : Network → Net
feeder N =
    record {
      buses = length N.buses;
      branches = length N.branches;
      from = λ k. position N (get_or N.branches k no_branch).from_bus;
      to = λ k. position N (get_or N.branches k no_branch).to_bus;
    }

-- the path that joins the ends of branch k over the flagged branches, from its from bus
unfoldable pub ends_path : Network → (ℕ → Bool) → ℕ → List ℕ
ends_path N E k = bfs_path (feeder N) E ((feeder N).from k) ((feeder N).to k)

-- the live branches of a state, as a set
abbrev pub LiveIn : Network → List ℕ → Branches
LiveIn N s = Live (feeder N) (live N s)

-- what `verify_radiality` answers: a tree, or what the live branches are instead
unfoldable pub form_in : Network → List ℕ → Form
form_in N s = form (feeder N) (live N s)

-- radial: that answer is a tree
unfoldable pub radial_in : Network → List ℕ → Bool
radial_in N s = is_tree (form_in N s)
