-- The loss by the lists of a graph that `Graph::new` made, of at most 256 buses and with ends among them, is document 01's loss: a walk by them reaches the buses of the walk by scan, in the same order.
use Rattle.std.specs.Prelude.{◌≡◌, refl, Bool, true, List, map, ℕ, ◌<◌, ◌≤◌, eqb, Float, length, get_or}
use Rattle.std.proofs.Math.Path.{ap}
use Rattle.std.proofs.Common.{◌∙◌, arith}
use Rattle.std.proofs.Math.Bool.{cond}
use Rattle.std.specs.Float.{nan}
use Rattle.std.proofs.lemmas.List.{length-map}
use Rattle.std.proofs.Math.ListN.{get_or-map}
use Rattle.numbers.specs.Constants.{zero64}
use Rattle.numbers.specs.UpTo.{up_to_cong}
use Rattle.network.specs.declared.branch.Branch.{Branch}
use Rattle.network.specs.declared.bus.Power.{Power}
use Rattle.network.specs.Records.{no_branch}
use Rattle.graph.specs.declared.rows.Graph.{Graph}
use Rattle.graph.specs.Graph.{Sound}
use Rattle.graph.specs.Walk.{Visit, start_at}
use Rattle.graph.specs.Rows.{flag, net_of, graph_of}
use Rattle.graph.specs.RowsHold.{far_hold}
use Rattle.lists.specs.declared.lists.LiveLists.{LiveLists}
use Rattle.lists.specs.Lists.{live_lists, forget, bus_load}
use Rattle.lists.specs.GraphLists.{flag_inside, list_walk_is_walk}
use Rattle.losses.specs.Loss.{walk_load, downstream, loss}
use Rattle.losses.specs.LossSame.{total_same}
use Rattle.losses.specs.ListLoss.{megawatts_of, load_behind, list_total, list_loss, NetLoss}

-- a load is added by buses, whatever branches led to them
load_forget : (mw : List Float) (o : List Visit) → bus_load mw (map forget o) ≡ walk_load (λ b. get_or mw b nan) o
unfolding bus_load walk_load
load_forget mw o = rw length-map (up_to_cong _ _ zero64 (length o) (λ t i l. rw (get_or-map forget o i (start_at 0))))

module _ (n m : ℕ) (from to : List ℕ) (live : List Bool) (few : n ≤ 256) (short : length live ≤ 512) (sound : Sound (net_of n m from to)) where
  abbrev lists : LiveLists
  lists = live_lists (graph_of n m from to) live

  load_behind_lem : (mw : List Float) (k : ℕ) → k < m → flag live k ≡ true
      → load_behind lists (graph_of n m from to).far mw k ≡ walk_load (λ b. get_or mw b nan) (downstream (net_of n m from to) (flag live) k)
  unfolding load_behind downstream graph_of
  load_behind_lem mw k l e =
      let f = far_hold from to k (omega (arith, flag_inside live k e)) in
      rw (f.0, f.1) (ap (bus_load mw) (list_walk_is_walk n m from to live few short sound (get_or to k 0) (get_or from k 0) (sound k l).1) ∙ load_forget mw _)

  pub list_loss_lem : (loads : List Power) (branches : List Branch) (base : Float)
      → list_loss (graph_of n m from to) loads branches base live ≡ loss (net_of n m from to) (flag live) (λ b. get_or (megawatts_of loads) b nan) (λ k. (get_or branches k no_branch).r) base
  unfolding list_loss list_total loss graph_of
  list_loss_lem loads branches base =
      ap (λ t. cond (eqb n 0) zero64 t) (total_same (flag live) (flag live) _ _ _ _ base m (λ k h. refl) (λ k h. refl) (λ k h e. load_behind_lem (megawatts_of loads) k h e))

-- so the loss by the lists of such a graph is that of its net
pub net_loss : (g : Graph) (loads : List Power) (branches : List Branch) (base : Float) (live : List Bool) → length live ≤ 512 → (r : Float)
    → r ≡ list_loss g loads branches base live → NetLoss g loads branches base live r
net_loss g loads branches base live short r e n m from to few sound made =
    e ∙ ap (λ (h : Graph). list_loss h loads branches base live) made ∙ list_loss_lem n m from to live few short sound loads branches base
