-- The loss of live branches as the code takes it of a feeder: with the loads by bus position and the supply's. FeederLoss shows that it is an accepted feeder's.
use Rattle.std.specs.Prelude.{Bool, List, ℕ, Float, Option, Some, None}
use Rattle.std.specs.Option.{option_map}
use Rattle.network.specs.declared.branch.Branch.{Branch}
use Rattle.network.specs.declared.topology.PowerNetwork.{PowerNetwork}
use Rattle.graph.specs.declared.rows.Graph.{Graph}
use Rattle.drawing.specs.Drawing.{drawn_graph}
use Rattle.feeders.specs.FeederRows.{listed_ids, end_at}
use Rattle.losses.specs.declared.loads.Loads.{Loads}
use Rattle.losses.specs.ListLoss.{list_loss, loads_at}

-- where the supply stands among the listed buses, where one is named; 0 where none is listed with its id
abbrev pub supply_at : PowerNetwork → Option ℕ
supply_at n = option_map (end_at (listed_ids n)) n.supply

-- the loads of a feeder by bus position, and its supply, as the code has them
unfoldable pub loads_of : PowerNetwork → Loads
loads_of n = record { pd = loads_at n.buses; supply_at = supply_at n }

-- the graph as the code's loss takes it: where there is a supply, drawn by the order of a walk from there; in a tree that is away from it (drawing/specs/DrawingLaws)
unfoldable pub drawn_graph_for : Graph → List Bool → Option ℕ → Graph
drawn_graph_for g live None = g
drawn_graph_for g live (Some z) = drawn_graph g live z

-- the loss with these branches live. FeederLoss shows that this is an accepted feeder's, in every state without a supply and in every radial one with it
unfoldable pub live_loss : Graph → Loads → List Branch → Float → List Bool → Float
live_loss g loads branches base live = list_loss (drawn_graph_for g live loads.supply_at) loads.pd branches base live
