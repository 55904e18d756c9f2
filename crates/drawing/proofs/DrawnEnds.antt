-- The ends of the branches, drawn one by one by rising position, and the graph of them.
use mathlib.Core.Path.{◌≡◌, ap₂, ◌∙◌}
use mathlib.Core.Bool.{Bool, true, false, cond}
use mathlib.Core.List.{List}
use Prim.Native.Nat.{ℕ, ◌+◌, ◌*◌, ◌<◌, min}
use lib.ListN.{get_or, take, set, replicate, length-map}
use Rattle.numbers.specs.Arrays.{padded_front}
use Rattle.numbers.specs.TableLaws.{replicate_table, filled, filled_none, filled_more, filled_within}
use Rattle.graph.specs.declared.rows.Graph.{Graph}
use Rattle.graph.specs.declared.walks.Walk.{Walk}
use Rattle.graph.specs.Rows.{flag, row_neighbours, graph_of, walked}
use Rattle.graph.specs.Visits.{buses_of}
use Rattle.graph.specs.Walk.{Visit, walk_by}
use Rattle.drawing.specs.declared.drawing.Ends.{Ends}
use Rattle.drawing.specs.Drawing.{places_of, is_turned, drawn_ends, drawn_graph}

module _ (far : List ℕ) (live : List Bool) (places : List ℕ) where
  abbrev turned : ℕ → Bool
  turned k = is_turned (flag live k) places (get_or far (2 * k + 1) 0) (get_or far (2 * k) 0)

  abbrev from_of : ℕ → ℕ
  from_of k = cond (turned k) (get_or far (2 * k) 0) (get_or far (2 * k + 1) 0)

  abbrev to_of : ℕ → ℕ
  to_of k = cond (turned k) (get_or far (2 * k + 1) 0) (get_or far (2 * k) 0)

  -- the first k branches are drawn
  pub record DrawnSoFar (from to : List ℕ) (k : ℕ) : Type 0 where
    froms : from ≡ filled from_of 0 512 k
    tos : to ≡ filled to_of 0 512 k

  pub none_drawn : DrawnSoFar (replicate 512 0) (replicate 512 0) 0
  none_drawn = record { froms = replicate_table 0 512 ∙ filled_none from_of 0 512; tos = replicate_table 0 512 ∙ filled_none to_of 0 512 }

  module _ {from to : List ℕ} {k : ℕ} (s : DrawnSoFar from to k) where
    module _ (l : k < 512) where
      one_drawn : DrawnSoFar (set from k (from_of k)) (set to k (to_of k)) (k + 1)
      one_drawn = record { froms = rw s.froms (filled_more from_of 0 512 k l); tos = rw s.tos (filled_more to_of 0 512 k l) }

      module _ {ends : ℕ × ℕ} where
        pub one_turned : turned k ≡ true → ends ≡ (get_or far (2 * k) 0, get_or far (2 * k + 1) 0) → DrawnSoFar (set from k ends.0) (set to k ends.1) (k + 1)
        one_turned e p = rw p (rw e at one_drawn)

        pub one_kept : turned k ≡ false → ends ≡ (get_or far (2 * k + 1) 0, get_or far (2 * k) 0) → DrawnSoFar (set from k ends.0) (set to k ends.1) (k + 1)
        one_kept e p = rw p (rw e at one_drawn)

    -- there are no more than 512 to draw
    pub all_drawn : (n : ℕ) → k ≡ min n 512 → ◌≡◌ {A = Ends} (record { from = from; to = to }) (drawn_ends far live places n)
    unfolding drawn_ends filled
    all_drawn n e = rw (s.froms, s.tos, e) (ap₂ ends_by (filled_within from_of 0 512 n) (filled_within to_of 0 512 n))
      where
        ends_by : List ℕ → List ℕ → Ends
        ends_by from to = record { from = from; to = to }

-- the buses of a walk, read back from its array
buses_of_lem : (o : List Visit) → take (walked o).count (walked o).bus ≡ buses_of o
unfolding walked
buses_of_lem o = rw (← length-map o (λ (v : Visit). v.bus)) (padded_front 256 0 (buses_of o))

pub graph_drawn : (g : Graph) (live : List Bool) (z : ℕ) (w : Walk) (places : List ℕ) (ends : Ends)
    → w ≡ walked (walk_by (row_neighbours g live) z z) → places ≡ places_of (take w.count w.bus) → ends ≡ drawn_ends g.far live places g.branch_count
    → graph_of g.bus_count g.branch_count ends.from ends.to ≡ drawn_graph g live z
unfolding drawn_graph
graph_drawn g live z w places ends walk placed drawn = rw (drawn, placed, walk, buses_of_lem)
