-- The walk, radiality and the path by the rows are those of the definitions, since the rows give the same neighbours.
use Rattle.std.specs.Prelude.{◌≡◌, Bool, cond, ◌||◌, eqb, length}
use Rattle.std.proofs.Math.Path.{refl}
use Rattle.std.proofs.Math.Bool.{true, false}
use mathlib.Core.List.{List, [], ◌∷◌, ◌++◌}
use Prim.Native.Nat.{ℕ, zero, suc, ◌+◌, ◌*◌, ◌<◌, ◌≤◌}
use Rattle.std.proofs.Common.{arith}
use Rattle.std.proofs.Math.Dec.{ltb}
use Rattle.std.proofs.Math.ListN.{get_or, get_or-eq_default}
use borrow.Author.Tests.{ltb-true, ltb-false}
use Rattle.numbers.specs.UpTo.{up_to}
use Rattle.graph.specs.Walk.{Visit, start_at, neighbours, reached, enter, enter_all, turn, walk_by, by_of, across, back, bfs_path}
use Rattle.graph.specs.Walk as walk
use Rattle.graph.specs.Radial.{radial}
use Rattle.graph.specs.Rows.{flag, net_of, far_of, graph_of, row_neighbours, far_net, row_net, row_radial, row_path}
use Rattle.graph.specs.RowsHold.{far_long, far_hold}
use Rattle.graph.specs.RowsNeighbours.{rows_are_neighbours}

-- visits of bus positions below size
abbrev pub Small : ℕ → List Visit → Type 0
Small size [] = Unit {0}
Small size (v ∷ o) = (v.bus < size) × Small size o

module _ (size : ℕ) where
  small_append : (o p : List Visit) → Small size o → Small size p → Small size (o ++ p)
  small_append [] p a b = b
  small_append (v ∷ o) p a b = (a.0, small_append o p a.1 b)

  small_at : (o : List Visit) (i : ℕ) → 0 < size → Small size o → (get_or o i (start_at 0)).bus < size
  small_at [] i z s = z
  small_at (v ∷ o) zero z s = s.0
  small_at (v ∷ o) (suc i) z s = small_at o i z s.1

  small_enter_all : (barred : ℕ) (o vs : List Visit) → Small size o → Small size vs → Small size (enter_all barred o vs)
  unfolding enter_all enter
  small_enter_all barred o [] a b = a
  small_enter_all barred o (v ∷ vs) a b = small_enter_all barred (enter barred o v) vs (go (eqb v.bus barred || reached v.bus o)) b.1
    where
      go : (t : Bool) → Small size (cond t o (o ++ (v ∷ [])))
      go true = a
      go false = small_append o (v ∷ []) a (b.0, tt)

-- two walks with the same neighbours
module _ (size : ℕ) (next next' : ℕ → List Visit) (same : (u : ℕ) → u < size → next u ≡ next' u) (small : (u : ℕ) → u < size → Small size (next' u))
    (start barred : ℕ) (here : start < size) where
  some : 0 < size
  some = omega arith

  small_turns : (h : ℕ) → Small size (up_to (turn next' barred) (start_at start ∷ []) h)
  unfolding up_to turn
  small_turns zero = (here, tt)
  small_turns (suc h) = go (ltb h (length o)) (small_turns h)
    where
      o : List Visit
      o = up_to (turn next' barred) (start_at start ∷ []) h

      go : (b : Bool) → Small size o → Small size (cond b (enter_all barred o (next' (get_or o h (start_at 0)).bus)) o)
      go true s = small_enter_all size barred o _ s (small _ (small_at size o h some s))
      go false s = s

  same_turns : (h : ℕ) → up_to (turn next barred) (start_at start ∷ []) h ≡ up_to (turn next' barred) (start_at start ∷ []) h
  unfolding up_to turn
  same_turns zero = refl
  same_turns (suc h) =
      let o = up_to (turn next' barred) (start_at start ∷ []) h in
      rw (same_turns h, same (get_or o h (start_at 0)).bus (small_at size o h some (small_turns h)))

  pub same_walk : walk_by next start barred ≡ walk_by next' start barred
  unfolding walk_by
  same_walk = same_turns 256

-- the arrays of the branches' ends: 512 bus positions each
pub record Positions (from to : List ℕ) : Type 0 where
  pub from_length : length from ≡ 512
  pub to_length : length to ≡ 512
  pub from_small : (k : ℕ) → get_or from k 0 < 256
  pub to_small : (k : ℕ) → get_or to k 0 < 256

module _ (n m : ℕ) (from to : List ℕ) (live : List Bool) (size : ℕ) (ends : (k : ℕ) → k < m → (get_or from k 0 < size) × (get_or to k 0 < size)) where
  small_far : (u k : ℕ) → k < m → Small size (walk.far (net_of n m from to) u k)
  unfolding walk.far
  small_far u k l = go (eqb (get_or from k 0) u) (eqb (get_or to k 0) u)
    where
      go : (a b : Bool) → Small size (cond a (record { bus = get_or to k 0; by = k } ∷ []) (cond b (record { bus = get_or from k 0; by = k } ∷ []) []))
      go true b = ((ends k l).1, tt)
      go false true = ((ends k l).0, tt)
      go false false = tt

  abbrev scanned : ℕ → ℕ → List Visit
  scanned u i = up_to (λ o k. cond (get_or live k false) (o ++ walk.far (net_of n m from to) u k) o) [] i

  small_scan : (u i : ℕ) → i ≤ m → Small size (scanned u i)
  unfolding up_to
  small_scan u zero l = tt
  small_scan u (suc i) l = go (scanned u i) (get_or live i false) (small_scan u i (omega arith))
    where
      go : (o : List Visit) (b : Bool) → Small size o → Small size (cond b (o ++ walk.far (net_of n m from to) u i) o)
      go o true s = small_append size o _ s (small_far u i (omega arith))
      go o false s = s

  pub small_neighbours : (u : ℕ) → Small size (neighbours (net_of n m from to) (flag live) u)
  unfolding neighbours
  small_neighbours u = small_scan u m (omega arith)

module _ (n m : ℕ) (from to : List ℕ) (live : List Bool) (p : Positions from to) (l : length live ≤ 512) where
  pub row_walk_is_walk : (start barred : ℕ) → start < 256
      → walk_by (row_neighbours (graph_of n m from to) live) start barred ≡ walk.walk (net_of n m from to) (flag live) start barred
  unfolding walk.walk
  row_walk_is_walk start barred h =
      same_walk 256 _ _ (λ u s. rows_are_neighbours n m from to live u s l) (λ u s. small_neighbours n m from to live 256 (λ k b. (p.from_small k, p.to_small k)) u) start barred h

  pub row_radial_is_radial : row_radial (graph_of n m from to) live ≡ radial (net_of n m from to) (flag live)
  unfolding row_radial radial graph_of walk.walk
  row_radial_is_radial = rw (row_walk_is_walk 0 0 (omega arith))

  -- the ends are the same, behind the arrays too
  same_across : (k u : ℕ) → across (row_net (graph_of n m from to)) k u ≡ across (net_of n m from to) k u
  unfolding across graph_of
  same_across k u = go (ltb k 512) refl
    where
      go : (b : Bool) → ltb k 512 ≡ b → across (far_net n m (far_of from to)) k u ≡ across (net_of n m from to) k u
      go true e = let f = far_hold from to k (ltb-true k 512 e) in rw (f.0, f.1)
      go false e =
          let h = ltb-false k 512 e in
          let w = far_long from to in
          let a : get_or (far_of from to) (2 * k) 0 ≡ 0 = get_or-eq_default (far_of from to) 0 (omega arith) in
          let b : get_or (far_of from to) (2 * k + 1) 0 ≡ 0 = get_or-eq_default (far_of from to) 0 (omega arith) in
          let c : get_or from k 0 ≡ 0 = get_or-eq_default from 0 (omega (arith, p.from_length)) in
          let d : get_or to k 0 ≡ 0 = get_or-eq_default to 0 (omega (arith, p.to_length)) in
          rw (a, b, c, d)

  same_back : (o : List Visit) (a i b : ℕ) → back (row_net (graph_of n m from to)) o a i b ≡ back (net_of n m from to) o a i b
  unfolding back
  same_back o a zero b = refl
  same_back o a (suc i) b = rw (same_across (by_of b o) b, same_back o a i (across (net_of n m from to) (by_of b o) b))

  pub row_path_is_path : (a b : ℕ) → a < 256 → row_path (graph_of n m from to) live a b ≡ bfs_path (net_of n m from to) (flag live) a b
  unfolding row_path bfs_path walk.walk
  row_path_is_path a b h = rw (row_walk_is_walk a a h, same_back)
