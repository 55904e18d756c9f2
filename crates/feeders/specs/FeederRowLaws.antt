-- The rows of a feeder that is accepted say what the feeder says: its branches have the same ends, and the walk, radiality, what the branches are instead, and
-- the path by the rows are those of the definitions, for any flags of the branches, and so for the live branches of a state.
use Rattle.std.specs.Prelude.{◌≡◌, refl, Bool, true, false, cond, ℕ, ◌<◌, ◌≤◌, ltb, length, get_or}
use Rattle.std.proofs.Math.Path.{sym, ap, fun_ext}
use Rattle.std.proofs.Common.{◌∙◌, arith, length-take, lt-ltb, ltb-true, ltb-false}
use mathlib.Core.List.{List, map, Memᴰ}
use Rattle.std.proofs.lemmas.List.{length-map}
use Rattle.std.proofs.Math.ListN.{get_or-eq_default}
use Rattle.numbers.specs.UpTo.{table}
use Rattle.numbers.specs.TableLaws.{length_table, get_or_table, table_cong}
use Rattle.numbers.specs.Choose.{index_of, among}
use Rattle.numbers.specs.ChooseLaws.{index_found, among_mem, mem_among}
use Rattle.network.specs.declared.branch.Branch.{Branch}
use Rattle.states.specs.declared.configuration.NetworkConfiguration.{NetworkConfiguration}
use Rattle.network.specs.declared.topology.PowerNetwork.{PowerNetwork}
use Rattle.network.specs.Records.{Network, no_branch, records_of}
use Rattle.network.specs.Answers.{accepted}
use Rattle.network.specs.Limits.{bus_id}
use Rattle.network.specs.Check.{check_records}
use Rattle.network.specs.Inside.{Inside, HasBus}
use Rattle.network.specs.InsideLaws.{check_inside}
use Rattle.network.specs.Positions.{from_listed, to_listed}
use Rattle.states.specs.Listed.{buses_listed, branches_listed, branch_at, state_accepted}
use Rattle.network.specs.LookupLaws.{listed_buses}
use Rattle.states.specs.Live.{check_state, live}
use Rattle.states.specs.LiveLaws.{live_configuration}
use Rattle.states.specs.Configuration.{configuration_of}
use Rattle.graph.specs.declared.form.Form.{Form}
use Rattle.graph.specs.declared.rows.Graph.{Graph}
use Rattle.graph.specs.Walk.{bfs_path}
use Rattle.graph.specs.Radial.{radial}
use Rattle.graph.specs.Form.{form, row_form}
use Rattle.feeders.specs.Feeder.{position, feeder, ends_path, form_in, radial_in}
use Rattle.feeders.specs.FeederLaws.{feeder_sound, feeder_small, feeder_few, radial_in_lem}
use Rattle.graph.specs.Rows.{flag, row_net, row_radial, row_path, row_ends_path, graph_of}
use Rattle.graph.specs.RowsHold.{far_hold}
use Rattle.graph.specs.RowsWalk.{Positions, row_radial_is_radial, row_path_is_path}
use Rattle.feeders.specs.FeederRows.{listed_ids, end_at, ends_of, from_ends, to_ends, ends_net, feeder_graph, live_flags}
use Rattle.graph.specs.SameEnds.{radial_same, first_same, islands_same, path_same}

-- ---- the position of an id
end_small : (ids : List ℕ) → length ids ≤ 256 → (id : ℕ) → end_at ids id < 256
unfolding end_at
end_small ids l id = go (among id ids) refl
  where
    go : (b : Bool) → among id ids ≡ b → cond b (index_of id ids) 0 < 256
    go true e = omega (arith, index_found id ids (among_mem id ids e))
    go false e = omega arith

end_listed : (ids : List ℕ) (id : ℕ) → Memᴰ id ids → end_at ids id ≡ index_of id ids
unfolding end_at
end_listed ids id m = rw (mem_among id ids m)

table_small : (f : ℕ → ℕ) (n : ℕ) → ((k : ℕ) → f k < 256) → (k : ℕ) → get_or (table f n) k 0 < 256
table_small f n h k = go (ltb k n) refl
  where
    go : (b : Bool) → ltb k n ≡ b → get_or (table f n) k 0 < 256
    go true e = rw (get_or_table f n k 0 (ltb-true k n e)) (h k)
    go false e = rw (get_or-eq_default (table f n) 0 {n = k} (rw (length_table f n) (ltb-false k n e))) (omega arith)

ends_small : (end : Branch → ℕ) (ids : List ℕ) → length ids ≤ 256 → (branches : List Branch) (count k : ℕ) → get_or (ends_of end ids branches count) k 0 < 256
ends_small end ids l branches count = table_small _ 512 (λ k. go k (ltb k count))
  where
    go : (k : ℕ) (b : Bool) → cond b (end_at ids (end (get_or branches k no_branch))) 0 < 256
    go k true = end_small ids l (end (get_or branches k no_branch))
    go k false = omega arith

-- ---- flags
dead_beyond : (N : Network) (s : List ℕ) (k : ℕ) → length N.branches ≤ k → live N s k ≡ false
unfolding live
dead_beyond N s k h = rw (get_or-eq_default N.branches no_branch {n = k} h)

-- the flags of a state's live branches are set where the branches are live
pub flags_live : (N : Network) (s : List ℕ) → length N.branches ≤ 512 → flag (live_flags N s) ≡ live N s
flags_live N s l = fun_ext (λ k. go k (ltb k 512) refl)
  where
    go : (k : ℕ) (b : Bool) → ltb k 512 ≡ b → flag (live_flags N s) k ≡ live N s k
    go k true e = get_or_table (live N s) 512 k false (ltb-true k 512 e)
    go k false e =
        let h = ltb-false k 512 e in
        get_or-eq_default (table (live N s) 512) false {n = k} (rw (length_table (live N s) 512) h) ∙ sym (dead_beyond N s k (omega arith))

-- the code takes the flags of a state's configuration, which has bytes for 512 switches
pub state_flags : (N : Network) (s : List ℕ) (place : ℕ) → check_records N ≡ accepted tt → check_state N s place ≡ accepted tt
    → (configuration : NetworkConfiguration) (flags : List Bool) → configuration ≡ configuration_of s → flags ≡ table (live N configuration.switches) 512
    → flags ≡ live_flags N s
state_flags N s place ok good configuration flags c f =
    let long = ((state_accepted N s place).0 good).long in
    f ∙ rw c (table_cong _ _ 512 (λ k h. live_configuration N s k long (omega (arith, ((check_inside N).0 ok).counts.2))))

-- of the value handed over it is only used that its array has room for 256 buses, as every one has
module _ (n : PowerNetwork) (sized : length n.buses ≡ 256) where
  few_ids : length (listed_ids n) ≤ 256
  few_ids = simp (length-map, length-take) (omega arith)

  feeder_positions : Positions (from_ends n) (to_ends n)
  feeder_positions = record {
    from_length = length_table _ 512;
    to_length = length_table _ 512;
    from_small = ends_small (λ b. b.from_bus) (listed_ids n) few_ids n.branches n.branch_count;
    to_small = ends_small (λ b. b.to_bus) (listed_ids n) few_ids n.branches n.branch_count;
  }

  module _ (ok : check_records (records_of n) ≡ accepted tt) where
    inside : Inside (records_of n)
    inside = (check_inside (records_of n)).0 ok

    pub same_buses : (feeder (records_of n)).buses ≡ n.bus_count
    unfolding feeder
    same_buses = buses_listed n

    pub same_branches : (feeder (records_of n)).branches ≡ n.branch_count
    unfolding feeder
    same_branches = branches_listed n

    ids_listed : listed_ids n ≡ map bus_id (records_of n).buses
    unfolding feeder
    ids_listed = ap (map bus_id) (listed_buses n (omega (arith, inside.counts.0, same_buses)))

    -- the position of a listed bus, as the code finds it
    pub end_position : (id : ℕ) → HasBus (records_of n) id → end_at (listed_ids n) id ≡ position (records_of n) id
    unfolding position
    end_position id m = ap (λ ids. end_at ids id) ids_listed ∙ end_listed (map bus_id (records_of n).buses) id m

    end_at_lem : (end : Branch → ℕ) (k : ℕ) → k < (feeder (records_of n)).branches → Memᴰ (end (get_or (records_of n).branches k no_branch)) (map bus_id (records_of n).buses)
        → position (records_of n) (end (get_or (records_of n).branches k no_branch)) ≡ get_or (ends_of end (listed_ids n) n.branches n.branch_count) k 0
    unfolding position
    end_at_lem end k h m =
        sym (end_listed (map bus_id (records_of n).buses) _ m)
        ∙ ap (λ ids. end_at ids (end (get_or (records_of n).branches k no_branch))) (sym ids_listed)
        ∙ ap (λ b. end_at (listed_ids n) (end b)) (branch_at n k (omega (arith, same_branches)))
        ∙ sym (get_or_table _ 512 k 0 (omega (arith, feeder_few (records_of n) inside)) ∙ rw (lt-ltb k n.branch_count (omega (arith, same_branches))))

    -- the ends of the listed branches are those of the feeder
    pub feeder_ends : (k : ℕ) → k < (feeder (records_of n)).branches
        → ((feeder (records_of n)).from k ≡ get_or (from_ends n) k 0) × ((feeder (records_of n)).to k ≡ get_or (to_ends n) k 0)
    unfolding feeder
    feeder_ends k h = (
      end_at_lem (λ b. b.from_bus) k h (from_listed (records_of n) inside k h),
      end_at_lem (λ b. b.to_bus) k h (to_listed (records_of n) inside k h),
    )

    feeder_row_ends : (k : ℕ) → k < (feeder (records_of n)).branches
        → ((row_net (feeder_graph n)).from k ≡ (feeder (records_of n)).from k) × ((row_net (feeder_graph n)).to k ≡ (feeder (records_of n)).to k)
    unfolding feeder_graph graph_of
    feeder_row_ends k h =
        let f = far_hold (from_ends n) (to_ends n) k (omega (arith, feeder_few (records_of n) inside)) in
        let e = feeder_ends k h in
        (f.1 ∙ sym e.0, f.0 ∙ sym e.1)

    module _ (flags : List Bool) (short : length flags ≤ 512) where
      feeder_row_radial : row_radial (feeder_graph n) flags ≡ radial (feeder (records_of n)) (flag flags)
      unfolding feeder_graph
      feeder_row_radial =
          row_radial_is_radial _ _ (from_ends n) (to_ends n) flags feeder_positions short
          ∙ sym (radial_same _ (ends_net n) (flag flags) _ same_buses same_branches (λ k l. refl) feeder_ends)

      feeder_row_form : row_form (feeder_graph n) flags ≡ form (feeder (records_of n)) (flag flags)
      unfolding row_form form
      feeder_row_form = rw (
        feeder_row_radial,
        first_same (row_net (feeder_graph n)) (feeder (records_of n)) (flag flags) (flag flags) row_buses row_branches (λ k l. refl) row_ends,
        islands_same (row_net (feeder_graph n)) (feeder (records_of n)) (flag flags) (flag flags) row_buses row_branches (λ k l. refl) row_ends,
      )
        where
          row_buses : (row_net (feeder_graph n)).buses ≡ (feeder (records_of n)).buses
          row_buses = unfold feeder_graph graph_of in sym same_buses

          row_branches : (row_net (feeder_graph n)).branches ≡ (feeder (records_of n)).branches
          row_branches = unfold feeder_graph graph_of in sym same_branches

          row_ends : (k : ℕ) → k < (row_net (feeder_graph n)).branches
              → ((row_net (feeder_graph n)).from k ≡ (feeder (records_of n)).from k) × ((row_net (feeder_graph n)).to k ≡ (feeder (records_of n)).to k)
          row_ends k l = feeder_row_ends k (omega (arith, row_branches))

      feeder_row_path : (a b : ℕ) → a < 256 → row_path (feeder_graph n) flags a b ≡ bfs_path (feeder (records_of n)) (flag flags) a b
      unfolding feeder_graph
      feeder_row_path a b h =
          row_path_is_path _ _ (from_ends n) (to_ends n) flags feeder_positions short a b h
          ∙ sym (path_same _ (ends_net n) (flag flags) _ same_buses same_branches (λ k l. refl) feeder_ends a b)

      pub feeder_row_ends_path : (k : ℕ) → k < (feeder (records_of n)).branches → row_ends_path (feeder_graph n) flags k ≡ ends_path (records_of n) (flag flags) k
      unfolding ends_path
      feeder_row_ends_path k h =
          let ends = feeder_row_ends k h in
          let small = (feeder_sound (records_of n) inside k h).0 in
          ap (λ (v : ℕ). row_path (feeder_graph n) flags v ((row_net (feeder_graph n)).to k)) ends.0
          ∙ ap (row_path (feeder_graph n) flags ((feeder (records_of n)).from k)) ends.1
          ∙ feeder_row_path _ _ (omega (arith, feeder_small (records_of n) inside))

    -- so for the live branches of a state
    module _ (s : List ℕ) where
      live_short : length (live_flags (records_of n) s) ≤ 512
      live_short = omega (arith, length_table (live (records_of n) s) 512)

      live_flags_lem : flag (live_flags (records_of n) s) ≡ live (records_of n) s
      live_flags_lem = flags_live (records_of n) s inside.counts.1

      live_row_radial : row_radial (feeder_graph n) (live_flags (records_of n) s) ≡ radial_in (records_of n) s
      live_row_radial = feeder_row_radial _ live_short ∙ ap (radial (feeder (records_of n))) live_flags_lem ∙ sym (radial_in_lem (records_of n) s)

      -- by a graph and flags that are the feeder's and the state's
      pub flags_radial : (g : Graph) (flags : List Bool) → g ≡ feeder_graph n → flags ≡ live_flags (records_of n) s → (r : Bool) → r ≡ row_radial g flags → r ≡ radial_in (records_of n) s
      flags_radial g flags a b r e = e ∙ rw (a, b) live_row_radial

      live_row_form : row_form (feeder_graph n) (live_flags (records_of n) s) ≡ form_in (records_of n) s
      unfolding form_in
      live_row_form = feeder_row_form _ live_short ∙ ap (form (feeder (records_of n))) live_flags_lem

      pub flags_form : (g : Graph) (flags : List Bool) → g ≡ feeder_graph n → flags ≡ live_flags (records_of n) s → (f : Form) → f ≡ row_form g flags → f ≡ form_in (records_of n) s
      flags_form g flags a b f e = e ∙ rw (a, b) live_row_form

      pub live_row_ends_path : (k : ℕ) → k < (feeder (records_of n)).branches
          → row_ends_path (feeder_graph n) (live_flags (records_of n) s) k ≡ ends_path (records_of n) (live (records_of n) s) k
      live_row_ends_path k h = feeder_row_ends_path _ live_short k h ∙ ap (λ E. ends_path (records_of n) E k) live_flags_lem
