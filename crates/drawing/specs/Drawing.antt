-- A graph with its live branches drawn away from a bus, as the code makes it: by the order of one walk from that bus. DrawingLaws shows that in a tree this is `away`.
use Rattle.std.specs.Prelude.{Bool, cond, ◌&&◌, List, ℕ, ◌+◌, ◌*◌, ltb, get_or}
use Rattle.numbers.specs.Choose.{index_of}
use Rattle.numbers.specs.UpTo.{table}
use Rattle.graph.specs.declared.rows.Graph.{Graph}
use Rattle.graph.specs.Rows.{flag, row_neighbours, graph_of}
use Rattle.graph.specs.Visits.{buses_of}
use Rattle.graph.specs.Walk.{walk_by}
use Rattle.drawing.specs.declared.drawing.Ends.{Ends}

-- the place of each bus in an order; one that is not in it stands behind all
unfoldable pub places_of : List ℕ → List ℕ
places_of order = table (λ b. index_of b order) 256

-- a live branch whose to bus comes before its from bus is turned
unfoldable pub is_turned : Bool → List ℕ → ℕ → ℕ → Bool
is_turned live places from to = live && ltb (get_or places to 0) (get_or places from 0)

-- the ends of the first n branches, each live one with its later end as the to bus, and 0 behind them
unfoldable pub drawn_ends : List ℕ → List Bool → List ℕ → ℕ → Ends
drawn_ends far live places n =
    let turned : ℕ → Bool = λ k. is_turned (flag live k) places (get_or far (2 * k + 1) 0) (get_or far (2 * k) 0) in
    record {
      from = table (λ k. cond (ltb k n) (cond (turned k) (get_or far (2 * k) 0) (get_or far (2 * k + 1) 0)) 0) 512;
      to = table (λ k. cond (ltb k n) (cond (turned k) (get_or far (2 * k + 1) 0) (get_or far (2 * k) 0)) 0) 512;
    }

-- by the order of the walk from bus z
unfoldable pub drawn_graph : Graph → List Bool → ℕ → Graph
drawn_graph g live z =
    let ends = drawn_ends g.far live (places_of (buses_of (walk_by (row_neighbours g live) z z))) g.branch_count in
    graph_of g.bus_count g.branch_count ends.from ends.to
