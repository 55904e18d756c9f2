-- Document 01's breadth-first walk: from one bus, never entering a barred one, neighbours by rising branch position.
-- One walk serves radiality, the path between two buses and the loads.
use Rattle.std.specs.Prelude.{Bool, false, cond, ◌||◌, List, [], ◌∷◌, ◌++◌, reverse, ℕ, zero, suc, eqb, ltb, length, get_or}
use Rattle.numbers.specs.UpTo.{up_to}
use Rattle.graph.specs.Graph.{Net}

-- a bus that the walk reached, and the branch by which it did
pub record Visit : Type 0 where
  pub bus : ℕ
  pub by : ℕ

-- where a walk starts no branch led: 0 stands there
abbrev pub start_at : ℕ → Visit
start_at a = record { bus = a; by = 0 }

-- the far end of branch k seen from bus u, if the branch has an end there
unfoldable pub far : Net → ℕ → ℕ → List Visit
far N u k =
    cond (eqb (N.from k) u) (record { bus = N.to k; by = k } ∷ [])
    (cond (eqb (N.to k) u) (record { bus = N.from k; by = k } ∷ []) [])

-- document 01's scan: the far ends of the live branches at bus u, by rising branch position
unfoldable pub neighbours : Net → (ℕ → Bool) → ℕ → List Visit
neighbours N E u = up_to (λ l k. cond (E k) (l ++ far N u k) l) [] N.branches

-- has the bus been reached?
unfoldable pub reached : ℕ → List Visit → Bool
reached b [] = false
reached b (v ∷ o) = eqb b v.bus || reached b o

-- a neighbour is put behind those reached, unless it is barred or among them
unfoldable pub enter : ℕ → List Visit → Visit → List Visit
enter barred o v = cond (eqb v.bus barred || reached v.bus o) o (o ++ (v ∷ []))

unfoldable pub enter_all : ℕ → List Visit → List Visit → List Visit
enter_all barred o [] = o
enter_all barred o (v ∷ vs) = enter_all barred (enter barred o v) vs

-- turn h of a walk: the neighbours of the bus that was reached h-th are entered
unfoldable pub turn : (ℕ → List Visit) → ℕ → List Visit → ℕ → List Visit
turn next barred o h = cond (ltb h (length o)) (enter_all barred o (next (get_or o h (start_at 0)).bus)) o

-- the buses in the order in which they are reached, each with its branch: bus after bus takes its turn. 256 turns reach every bus that is joined with the start past the barred one (`WalkLaws.walk_reaches`).
-- To bar nothing, bar the start: it is reached from the first
unfoldable pub walk_by : (ℕ → List Visit) → ℕ → ℕ → List Visit
walk_by next start barred = up_to (turn next barred) (start_at start ∷ []) 256

unfoldable pub walk : Net → (ℕ → Bool) → ℕ → ℕ → List Visit
walk N E start barred = walk_by (neighbours N E) start barred

-- the branch by which a bus was reached. The start, and a bus that was not reached, have 0, which stands for no branch: a path asks for neither (`WalkLaws.bfs_path_lem`, `tree_bfs_path`)
unfoldable pub by_of : ℕ → List Visit → ℕ
by_of b [] = 0
by_of b (v ∷ o) = cond (eqb b v.bus) v.by (by_of b o)

-- the other end of branch k, seen from bus u
unfoldable pub across : Net → ℕ → ℕ → ℕ
across N k u = cond (eqb (N.from k) u) (N.to k) (N.from k)

-- the branches that lead from bus b back to the start, at most n
unfoldable pub back : Net → List Visit → ℕ → ℕ → ℕ → List ℕ
back N o start zero b = []
back N o start (suc n) b = cond (eqb b start) [] (by_of b o ∷ back N o start n (across N (by_of b o) b))

-- the branches of the path from bus a to bus b that a walk with these neighbours finds, beginning at a; none where a is b or b is not reached
abbrev pub path_by : (ℕ → List Visit) → Net → ℕ → ℕ → List ℕ
path_by next N a b = let o = walk_by next a a in cond (reached b o) (reverse (back N o a 256 b)) []

-- by document 01's scan
unfoldable pub bfs_path : Net → (ℕ → Bool) → ℕ → ℕ → List ℕ
bfs_path N E a b = path_by (neighbours N E) N a b
