-- In a tree the graph drawn by the order of one walk from a bus is the net drawn `away` from it: the walk reaches a live branch's to bus before its from bus exactly where the to side holds the bus.
use Rattle.std.specs.Prelude.{◌≡◌, Bool, ◌&&◌, List, length}
use Rattle.std.proofs.Math.Path.{refl, sym}
use Rattle.std.proofs.Common.{◌∙◌, arith, lt-ltb}
use Rattle.std.proofs.Math.Bool.{true, false, cond}
use Prim.Native.Nat.{ℕ, ◌≤◌, ◌<◌}
use Rattle.std.proofs.Math.Dec.{ltb}
use Rattle.std.proofs.Math.ListN.{get_or}
use Rattle.numbers.specs.Choose.{index_of}
use Rattle.numbers.specs.TableLaws.{get_or_table}
use Rattle.numbers.specs.UpTo.{table}
use Rattle.graph.specs.Graph.{Net, Sound, Live, Tree}
use Rattle.graph.specs.Rows.{flag, net_of, graph_of, row_neighbours}
use Rattle.graph.specs.RowsHold.{far_hold}
use Rattle.graph.specs.RowsNeighbours.{rows_are_neighbours}
use Rattle.graph.specs.RowsWalk.{same_walk, small_neighbours}
use Rattle.graph.specs.Sides.{towards, away}
use Rattle.graph.specs.Visits.{buses_of}
use Rattle.graph.specs.Walk.{reached, walk_by, walk}
use Rattle.graph.specs.WalkOrder.{ordered}
use Rattle.drawing.specs.declared.drawing.Ends.{Ends}
use Rattle.drawing.specs.Drawing.{places_of, is_turned, drawn_ends, drawn_graph}

module _ (n m : ℕ) (from to : List ℕ) (live : List Bool) (z : ℕ) where
  abbrev places : List ℕ
  places = places_of (buses_of (walk_by (row_neighbours (graph_of n m from to) live) z z))

  abbrev ends : Ends
  ends = drawn_ends (graph_of n m from to).far live places m

  -- the ends of the branches as they are drawn
  abbrev pub drawn_froms : List ℕ
  drawn_froms = ends.from

  abbrev pub drawn_tos : List ℕ
  drawn_tos = ends.to

  pub drawn_graph_lem : drawn_graph (graph_of n m from to) live z ≡ graph_of n m drawn_froms drawn_tos
  unfolding drawn_graph graph_of
  drawn_graph_lem = refl

  module _ (few : n ≤ 256) (listed : m ≤ 512) (short : length live ≤ 512) (sound : Sound (net_of n m from to)) (tree : Tree (net_of n m from to) (Live (net_of n m from to) (flag live))) (l : z < n) where
    abbrev N : Net
    N = net_of n m from to

    abbrev order : List ℕ
    order = buses_of (walk N (flag live) z z)

    -- the walk by the rows is the walk by scan
    by_scan : walk_by (row_neighbours (graph_of n m from to) live) z z ≡ walk N (flag live) z z
    unfolding walk
    by_scan = same_walk n _ _ (λ u s. rows_are_neighbours n m from to live u (omega arith) short) (λ u s. small_neighbours n m from to live n sound u) z z l

    place_at : (b : ℕ) → b < n → get_or places b 0 ≡ index_of b order
    unfolding places_of
    place_at b h = get_or_table _ 256 b 0 (omega arith) ∙ rw by_scan

    module _ (k : ℕ) (h : k < m) where
      turned_towards : is_turned (flag live k) places (get_or from k 0) (get_or to k 0) ≡ towards N (flag live) z k
      unfolding is_turned towards
      turned_towards = rw (place_at (get_or to k 0) (sound k h).1, place_at (get_or from k 0) (sound k h).0) (go (flag live k) refl)
        where
          go : (b : Bool) → flag live k ≡ b → (b && ltb (index_of (get_or to k 0) order) (index_of (get_or from k 0) order)) ≡ (b && reached z (walk N (flag live) (get_or to k 0) (get_or from k 0)))
          go true e = ordered N (flag live) sound few tree z l k (h, e)
          go false e = refl

      pub drawn_ends_lem : ((away N (flag live) z).from k ≡ get_or drawn_froms k 0) × ((away N (flag live) z).to k ≡ get_or drawn_tos k 0)
      unfolding away drawn_ends graph_of
      drawn_ends_lem =
          let f = far_hold from to k (omega arith) in
          let at : (g : ℕ → ℕ) → get_or (table (λ i. cond (ltb i m) (g i) 0) 512) k 0 ≡ g k = λ g. get_or_table _ 512 k 0 (omega arith) ∙ rw (lt-ltb k m h) in
          (sym (at _ ∙ rw (f.0, f.1, turned_towards)), sym (at _ ∙ rw (f.0, f.1, turned_towards)))
