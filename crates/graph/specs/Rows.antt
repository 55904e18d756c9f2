-- The branches of a feeder by their buses, as the code has them, and what it reads off them: neighbours, radiality, path.
-- RowsNeighbours and RowsWalk show that these are document 01's.
-- Half-branch 2k is branch k at its from bus, half-branch 2k + 1 is branch k at its to bus. 1024 is none.
use Rattle.std.specs.Prelude.{Bool, true, false, cond, List, [], ◌∷◌, map, ℕ, zero, suc, ◌+◌, ◌*◌, ◌-◌, ◌/◌, ◌%◌, eqb, ltb, length, get_or, set, replicate}
use Rattle.numbers.specs.UpTo.{up_to, table}
use Rattle.numbers.specs.Counts.{count}
use Rattle.numbers.specs.Arrays.{padded}
use Rattle.graph.specs.declared.rows.Graph.{Graph}
use Rattle.graph.specs.declared.walks.Walk.{Walk}
use Rattle.graph.specs.declared.walks.PathBranches.{PathBranches}
use Rattle.graph.specs.Graph.{Net}
use Rattle.graph.specs.Walk.{Visit, across, path_by}
use Rattle.graph.specs.Radial.{radial_by}

-- the flags of an array, false behind its end
abbrev pub flag : List Bool → ℕ → Bool
flag live k = get_or live k false

-- n buses, and m branches with these ends
abbrev pub net_of : ℕ → ℕ → List ℕ → List ℕ → Net
net_of n m from to = record { buses = n; branches = m; from = λ k. get_or from k 0; to = λ k. get_or to k 0 }

-- an array of 256 that begins with the list and is 0 behind it
abbrev pub filled : List ℕ → List ℕ
filled l = padded 256 0 l

-- the answer that holds these visits
unfoldable pub walked : List Visit → Walk
walked o = record { count = length o; bus = filled (map (λ (v : Visit). v.bus) o); by = filled (map (λ (v : Visit). v.by) o) }

-- the answer that holds these branches
unfoldable pub path_of : List ℕ → PathBranches
path_of l = record { count = length l; branch = filled l }

-- the bus at the other end of half-branch h
abbrev pub far_end : List ℕ → List ℕ → ℕ → ℕ
far_end from to h = cond (eqb (h % 2) 0) (get_or to (h / 2) 0) (get_or from (h / 2) 0)

-- of each of 1,024 half-branches
unfoldable pub far_of : List ℕ → List ℕ → List ℕ
far_of from to = table (far_end from to) 1024

-- first: the lowest half-branch at each bus. next: the next higher one at the same bus
pub record Rows : Type 0 where
  pub first : List ℕ
  pub next : List ℕ

abbrev pub rows : List ℕ → List ℕ → Rows
rows first next = record { first = first; next = next }

-- the graph with these rows in place of its own
abbrev pub with_rows : Graph → Rows → Graph
with_rows g r = record g { first = r.first; next = r.next }

-- half-branch h is put in front of bus u's row
unfoldable pub put_half : ℕ → ℕ → Rows → Rows
put_half u h r = rows (set r.first u h) (set r.next h (get_or r.first u 0))

-- branch k, from bus f to bus t, goes into the rows of its buses. With equal ends it stands there once
unfoldable pub put_branch : ℕ → ℕ → ℕ → Rows → Rows
put_branch k f t r = put_half f (2 * k) (cond (eqb f t) r (put_half t (2 * k + 1) r))

-- the rows with the last n of 512 branches, put in from the last on if they are among m branches
unfoldable pub rows_of : ℕ → List ℕ → List ℕ → ℕ → Rows
rows_of m from to n =
    up_to (λ r i. cond (ltb (511 - i) m) (put_branch (511 - i) (get_or from (511 - i) 0) (get_or to (511 - i) 0) r) r)
    (rows (replicate 256 1024) (replicate 1024 1024))
    n

-- the graph of n buses, and m branches with these ends
unfoldable pub graph_of : ℕ → ℕ → List ℕ → List ℕ → Graph
graph_of n m from to =
    let r = rows_of m from to 512 in
    record { bus_count = n; branch_count = m; far = far_of from to; first = r.first; next = r.next }

-- a row from half-branch h on, at most n: any arrays have rows that end
unfoldable pub row_from : List ℕ → ℕ → ℕ → List ℕ
row_from next zero h = []
row_from next (suc n) h = elim (ltb h 1024) [ true ↦ h ∷ row_from next n (get_or next h 0) | false ↦ [] ]

-- what half-branches lead to, where their branches are live
unfoldable pub leads : List ℕ → List Bool → List ℕ → List Visit
leads far live [] = []
leads far live (h ∷ l) = cond (get_or live (h / 2) false) (record { bus = get_or far h 0; by = h / 2 } ∷ leads far live l) (leads far live l)

unfoldable pub row_leads : List ℕ → List ℕ → List ℕ → List Bool → ℕ → List Visit
row_leads far first next live u = leads far live (row_from next 1024 (get_or first u 0))

-- the neighbours of bus u by live branches, read off its row
abbrev pub row_neighbours : Graph → List Bool → ℕ → List Visit
row_neighbours g live = row_leads g.far g.first g.next live

-- the ends of the branches, read off the far ends of their halves
abbrev pub far_net : ℕ → ℕ → List ℕ → Net
far_net n m far = record { buses = n; branches = m; from = λ k. get_or far (2 * k + 1) 0; to = λ k. get_or far (2 * k) 0 }

abbrev pub row_net : Graph → Net
row_net g = far_net g.bus_count g.branch_count g.far

-- the other end of branch k, seen from bus u
unfoldable pub across_far : List ℕ → ℕ → ℕ → ℕ
across_far far k u = across (far_net 0 0 far) k u

-- document 01's radiality, by the rows
unfoldable pub row_radial : Graph → List Bool → Bool
row_radial g live = radial_by (row_neighbours g live) g.bus_count (count (flag live) g.branch_count)

-- the branches of the path from bus a to bus b, by the rows
unfoldable pub row_path : Graph → List Bool → ℕ → ℕ → List ℕ
row_path g live a b = path_by (row_neighbours g live) (row_net g) a b

-- the same between the ends of branch k, from its from bus
abbrev pub row_ends_path : Graph → List Bool → ℕ → List ℕ
row_ends_path g live k = row_path g live ((row_net g).from k) ((row_net g).to k)
