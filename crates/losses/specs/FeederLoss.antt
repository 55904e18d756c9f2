-- The loss by the lists of a feeder that is accepted is the feeder's loss, for the live branches of a state: as they were drawn, and drawn away from the supply where one
-- is named and the state is radial.
use Rattle.std.specs.Option.{option_map}
use Rattle.std.specs.Prelude.{◌≡◌, Bool, Option, Some, None, ℕ, ◌<◌, ◌≤◌, Float, length}
use Rattle.std.proofs.Math.Path.{refl, sym, ap}
use Rattle.std.proofs.Common.{◌∙◌, arith}
use Rattle.std.proofs.Math.Bool.{true}
use mathlib.Core.List.{List}
use Rattle.std.specs.Float.Ieee.{nan}
use Rattle.std.proofs.Math.ListN.{get_or}
use Rattle.numbers.specs.TableLaws.{length_table, get_or_table, map_table}
use Rattle.network.specs.declared.bus.Power.{Power}
use Rattle.network.specs.declared.topology.PowerNetwork.{PowerNetwork}
use Rattle.network.specs.Answers.{accepted}
use Rattle.network.specs.Check.{check_records}
use Rattle.network.specs.Inside.{Inside}
use Rattle.network.specs.InsideLaws.{check_inside}
use Rattle.network.specs.Records.{Network, no_bus, no_branch, records_of}
use Rattle.states.specs.Live.{live}
use Rattle.states.specs.Switches.{State}
use Rattle.graph.specs.declared.rows.Graph.{Graph}
use Rattle.graph.specs.Graph.{Net, Sound, Live, Tree}
use Rattle.graph.specs.Radial.{radial}
use Rattle.graph.specs.RadialLaws.{radial_tree}
use Rattle.graph.specs.Rows.{flag, net_of, graph_of}
use Rattle.graph.specs.SameEnds.{radial_same, away_same}
use Rattle.graph.specs.Sides.{away}
use Rattle.graph.specs.SideLaws.{away_sound}
use Rattle.drawing.specs.Drawing.{drawn_graph}
use Rattle.drawing.specs.DrawingLaws.{drawn_froms, drawn_tos, drawn_graph_lem, drawn_ends_lem}
use Rattle.feeders.specs.Feeder.{position, feeder}
use Rattle.feeders.specs.FeederLaws.{feeder_sound, feeder_small, feeder_few, radial_in_lem, position_listed}
use Rattle.feeders.specs.FeederRowLaws.{flags_live, same_buses, same_branches, end_position, feeder_ends}
use Rattle.feeders.specs.FeederRows.{listed_ids, end_at, feeder_graph, live_flags, from_ends, to_ends, ends_net}
use Rattle.feeders.specs.Supply.{check_supply}
use Rattle.feeders.specs.SupplyLaws.{records_supplied, value_supply}
use Rattle.losses.specs.declared.loads.Loads.{Loads}
use Rattle.losses.specs.Loss.{load_at, resistance_at, loss, loss_in}
use Rattle.losses.specs.LossSame.{loss_same}
use Rattle.losses.specs.ListLoss.{megawatts_of, list_loss, loads_at}
use Rattle.losses.specs.LiveLoss.{loads_of, drawn_graph_for, live_loss}
use Rattle.losses.specs.ListLossLaws.{list_loss_lem}
use Rattle.losses.specs.SupplySide.{Fed, unsupplied_loss, supplied_loss}

-- of records inside the limits
module _ (n : PowerNetwork) (sized : length n.buses ≡ 256) (ok : check_records (records_of n) ≡ accepted tt) where
  abbrev N : Network
  N = records_of n

  inside : Inside N
  inside = (check_inside N).0 ok

  small : n.bus_count ≤ 256
  small = omega (arith, feeder_small N inside, same_buses n sized ok)

  few : n.branch_count ≤ 512
  few = omega (arith, feeder_few N inside, same_branches n sized ok)

  loads_there : (i : ℕ) → i < n.bus_count → load_at N i ≡ get_or (megawatts_of (loads_at n.buses)) i nan
  unfolding records_of megawatts_of
  loads_there i h =
      ap (λ b. b.pd.0) (get_or_table (λ i. get_or n.buses i no_bus) n.bus_count i no_bus h)
      ∙ sym
      (ap (λ (l : List Float). get_or l i nan) (map_table (λ (p : Power). p.0) (λ i. (get_or n.buses i no_bus).pd) 256)
      ∙ get_or_table (λ i. (get_or n.buses i no_bus).pd.0) 256 i nan (omega (arith, small)))

  resistances_there : (k : ℕ) → k < n.branch_count → resistance_at N k ≡ (get_or n.branches k no_branch).r
  unfolding records_of
  resistances_there k h = ap (λ b. b.r) (get_or_table (λ i. get_or n.branches i no_branch) n.branch_count k no_branch h)

  -- arrays of the ends of a net that is sound make a sound net
  module _ (from to : List ℕ) (M : Net) (m : M.branches ≡ n.branch_count) (b : M.buses ≡ n.bus_count) (good : Sound M)
      (ends : (k : ℕ) → k < M.branches → (M.from k ≡ get_or from k 0) × (M.to k ≡ get_or to k 0)) where
    ends_sound : Sound (net_of n.bus_count n.branch_count from to)
    ends_sound k l =
        let inner : k < M.branches = omega arith in
        let e = ends k inner in
        let s = good k inner in
        (omega (arith, s.0, e.0), omega (arith, s.1, e.1))

  module _ (flags : List Bool) (short : length flags ≤ 512) where
    abbrev loss_by : Graph → Float
    loss_by g = list_loss g (loads_at n.buses) n.branches n.base_mva flags

    abbrev loss_of : Net → Float
    loss_of M = loss M (flag flags) (load_at N) (resistance_at N) N.base

    -- an array of ends has the loss of any net with these ends
    ends_loss : (from to : List ℕ) (M : Net) → M.buses ≡ n.bus_count → M.branches ≡ n.branch_count → Sound M
        → ((k : ℕ) → k < M.branches → (M.from k ≡ get_or from k 0) × (M.to k ≡ get_or to k 0)) → loss_by (graph_of n.bus_count n.branch_count from to) ≡ loss_of M
    unfolding records_of
    ends_loss from to M b m good ends =
        list_loss_lem _ _ from to flags small short (ends_sound from to M m b good ends) (loads_at n.buses) n.branches n.base_mva
        ∙ sym
        (loss_same M (net_of n.bus_count n.branch_count from to) (flag flags) (flag flags) b m (λ k l. refl) ends _ _ _ _ n.base_mva good
        (λ i l. loads_there i (omega arith)) (λ k l. resistances_there k (omega arith)))

    -- as the branches were drawn
    plain_loss : loss_by (feeder_graph n) ≡ loss_of (feeder N)
    unfolding feeder_graph
    plain_loss = ends_loss (from_ends n) (to_ends n) (feeder N) (same_buses n sized ok) (same_branches n sized ok) (feeder_sound N inside) (feeder_ends n sized ok)

    -- and drawn away from a bus, where the flagged branches are radial
    module _ (z : ℕ) (here : z < (feeder N).buses) (tree : radial (feeder N) (flag flags) ≡ true) where
      ends_net_sound : Sound (ends_net n)
      ends_net_sound = ends_sound (from_ends n) (to_ends n) (feeder N) (same_branches n sized ok) (same_buses n sized ok) (feeder_sound N inside) (feeder_ends n sized ok)

      ends_net_tree : Tree (ends_net n) (Live (ends_net n) (flag flags))
      ends_net_tree =
          (radial_tree (ends_net n) (flag flags) ends_net_sound small).0
          (sym (radial_same (feeder N) (ends_net n) (flag flags) (flag flags) (same_buses n sized ok) (same_branches n sized ok) (λ k l. refl) (feeder_ends n sized ok)) ∙ tree)

      drawn_loss : loss_by (drawn_graph (feeder_graph n) flags z) ≡ loss_of (away (feeder N) (flag flags) z)
      unfolding feeder_graph
      drawn_loss =
          ap loss_by (drawn_graph_lem _ _ (from_ends n) (to_ends n) flags z)
          ∙ ends_loss (drawn_froms _ _ (from_ends n) (to_ends n) flags z) (drawn_tos _ _ (from_ends n) (to_ends n) flags z) (away (feeder N) (flag flags) z)
          (unfold away in same_buses n sized ok) (unfold away in same_branches n sized ok) (away_sound (feeder N) (flag flags) z (feeder_sound N inside)) drawn_same
        where
          drawn_same : (k : ℕ) → k < (away (feeder N) (flag flags) z).branches
              → ((away (feeder N) (flag flags) z).from k ≡ get_or (drawn_froms n.bus_count n.branch_count (from_ends n) (to_ends n) flags z) k 0)
              × ((away (feeder N) (flag flags) z).to k ≡ get_or (drawn_tos n.bus_count n.branch_count (from_ends n) (to_ends n) flags z) k 0)
          drawn_same k l =
              let inner : k < (feeder N).branches = unfold away in l in
              let a = away_same (feeder N) (ends_net n) (flag flags) (flag flags) (same_buses n sized ok) (same_branches n sized ok) (λ j h. refl) (feeder_ends n sized ok) z k inner in
              let d = drawn_ends_lem _ _ (from_ends n) (to_ends n) flags z small few short ends_net_sound ends_net_tree (omega (arith, same_buses n sized ok)) k (omega (arith, same_branches n sized ok)) in
              (a.0 ∙ d.0, a.1 ∙ d.1)

-- of a feeder whose records and supply are checked: in every state without a supply, in every radial one with it
module _ (n : PowerNetwork) (sized : length n.buses ≡ 256) (ok : check_records (records_of n) ≡ accepted tt) (fed-so : check_supply (records_of n) ≡ accepted tt) (s : State) (fed : Fed (records_of n) s) where
  abbrev M : Network
  M = records_of n

  abbrev flags : List Bool
  flags = live_flags M s

  short : length flags ≤ 512
  short = omega (arith, length_table (live M s) 512)

  live_so : flag flags ≡ live M s
  live_so = flags_live M s ((check_inside M).0 ok).counts.1

  by_flags : (net : (ℕ → Bool) → Net)
      → loss (net (flag flags)) (flag flags) (load_at M) (resistance_at M) M.base ≡ loss (net (live M s)) (live M s) (load_at M) (resistance_at M) M.base
  by_flags net = ap (λ (E : ℕ → Bool). loss (net E) E (load_at M) (resistance_at M) M.base) live_so

  unfed : n.supply ≡ None → list_loss (feeder_graph n) (loads_at n.buses) n.branches n.base_mva flags ≡ loss_in M s
  unfed e = plain_loss n sized ok flags short ∙ by_flags (λ E. feeder M) ∙ sym (unsupplied_loss M s (value_supply n ∙ e))

  from_supply : (id : ℕ) → n.supply ≡ Some id
      → list_loss (drawn_graph (feeder_graph n) flags (end_at (listed_ids n) id)) (loads_at n.buses) n.branches n.base_mva flags ≡ loss_in M s
  from_supply id e =
      let named = value_supply n ∙ e in
      let listed = (records_supplied M ok fed-so id named).0 in
      let z = end_position n sized ok id listed in
      let tree = ap (radial (feeder M)) live_so ∙ sym (radial_in_lem M s) ∙ fed id named in
      rw z (drawn_loss n sized ok flags short (position M id) (position_listed M id listed) tree)
      ∙ by_flags (λ E. away (feeder M) E (position M id))
      ∙ sym (supplied_loss M s id named)

  live_feeder_loss : live_loss (feeder_graph n) (loads_of n) n.branches n.base_mva flags ≡ loss_in M s
  unfolding live_loss drawn_graph_for loads_of
  live_feeder_loss = go n.supply refl
    where
      go : (z : Option ℕ) → n.supply ≡ z
          → list_loss (drawn_graph_for (feeder_graph n) flags (option_map (end_at (listed_ids n)) z)) (loads_at n.buses) n.branches n.base_mva flags ≡ loss_in M s
      go (Some id) e = from_supply id e
      go None e = unfed e

  -- with what the code has for the graph, the loads and the flags
  pub feeder_loss : (graph : Graph) (loads : Loads) (live : List Bool) → graph ≡ feeder_graph n → loads ≡ loads_of n → live ≡ flags
      → live_loss graph loads n.branches n.base_mva live ≡ loss_in M s
  feeder_loss graph loads live g l f = rw (g, l, f) live_feeder_loss
