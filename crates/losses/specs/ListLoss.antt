-- The loss as the code takes it: the neighbours of each bus by live branches are listed off a graph's rows, and the walks go by the lists.
-- ListLossLaws shows that on every graph of `Graph::new` with at most 256 buses whose ends are buses of it this is document 01's loss, FeederLoss that it is an accepted
-- feeder's.
use Rattle.std.specs.Prelude.{◌≡◌, Bool, cond, List, map, ℕ, ◌+◌, ◌*◌, ◌≤◌, eqb, get_or, Float}
use Rattle.std.specs.Float.{nan}
use Rattle.numbers.specs.Constants.{zero64}
use Rattle.numbers.specs.UpTo.{table}
use Rattle.network.specs.declared.branch.Branch.{Branch}
use Rattle.network.specs.declared.bus.Bus.{Bus}
use Rattle.network.specs.declared.bus.Power.{Power}
use Rattle.network.specs.Records.{no_bus, no_branch}
use Rattle.graph.specs.declared.rows.Graph.{Graph}
use Rattle.graph.specs.Walk.{walk_by}
use Rattle.graph.specs.Graph.{Sound}
use Rattle.graph.specs.Rows.{flag, net_of, graph_of}
use Rattle.lists.specs.declared.lists.LiveLists.{LiveLists}
use Rattle.lists.specs.Lists.{live_lists, listed, bus_load}
use Rattle.losses.specs.Loss.{total_of, loss}

abbrev pub no_power : Power
no_power = record { 0 = zero64 }

-- loads as plain numbers
unfoldable pub megawatts_of : List Power → List Float
megawatts_of loads = map (λ (p : Power). p.0) loads

-- the load behind branch k, "from the to bus, never entering the from bus": a walk by the lists
unfoldable pub load_behind : LiveLists → List ℕ → List Float → ℕ → Float
load_behind lists far mw k = bus_load mw (walk_by (listed lists.at lists.near) (get_or far (2 * k) 0) (get_or far (2 * k + 1) 0))

-- the total of the live ones among the first n branches
unfoldable pub list_total : LiveLists → List ℕ → List Float → List Bool → List Branch → Float → ℕ → Float
list_total lists far mw live branches base n = total_of (flag live) (λ k. (get_or branches k no_branch).r) (load_behind lists far mw) base n

-- "Zero buses lose 0"
unfoldable pub list_loss : Graph → List Power → List Branch → Float → List Bool → Float
list_loss g loads branches base live =
    cond (eqb g.bus_count 0) zero64 (list_total (live_lists g live) g.far (megawatts_of loads) live branches base g.branch_count)

-- a graph of `Graph::new` whose ends are buses loses what document 01 says of its net, in which the branches are scanned by rising position
abbrev pub NetLoss : Graph → List Power → List Branch → Float → List Bool → Float → Type 0
NetLoss g loads branches base live r =
    (n m : ℕ) (from to : List ℕ) → n ≤ 256 → Sound (net_of n m from to) → g ≡ graph_of n m from to
    → r ≡ loss (net_of n m from to) (flag live) (λ b. get_or (megawatts_of loads) b nan) (λ k. (get_or branches k no_branch).r) base

-- the loads of 256 buses
abbrev pub loads_at : List Bus → List Power
loads_at buses = table (λ i. (get_or buses i no_bus).pd) 256
