-- The lists of a graph that `Graph::new` makes. They have room: a live branch stands in at most two of them, and there are 512 flags.
-- A walk by them reaches the buses of document 01's walk, in the same order.
use Rattle.std.specs.Prelude.{◌≡◌, ◌⊎◌, Bool, List, [], ◌∷◌, ◌++◌, map}
use Rattle.std.proofs.Math.Path.{refl, ap}
use Rattle.std.proofs.Common.{sym, ◌∙◌, true≢false, length-append, eqb-true}
use Rattle.std.proofs.Math.Logic.{inl, inr}
use Rattle.std.proofs.Math.Bool.{true, false, cond}
use Prim.Native.Nat.{ℕ, zero, suc, ◌+◌, ◌*◌, ◌-◌, ◌<◌, ◌≤◌, min}
use native.Mathlib.Omega.{arith}
use Rattle.std.proofs.Math.Dec.{eqb}
use Rattle.std.proofs.Math.ListN.{length}
use Rattle.std.proofs.lemmas.List.{length-map}
use Rattle.numbers.specs.UpTo.{up_to, up_to_cong}
use Rattle.graph.specs.Graph.{Net, Sound}
use Rattle.graph.specs.Walk.{Visit, far, neighbours, walk_by, walk}
use Rattle.graph.specs.Visits.{visit, buses_of}
use Rattle.graph.specs.Rows.{flag, net_of, graph_of, row_neighbours}
use Rattle.graph.specs.RowsNeighbours.{rows_are_neighbours}
use Rattle.graph.specs.RowsWalk.{Small, same_walk, small_neighbours}
use Rattle.lists.specs.declared.lists.LiveLists.{LiveLists}
use Rattle.lists.specs.Lists.{lists_to, live_lists, listed, forget}
use Rattle.lists.specs.ListLaws.{list_walk}

-- a flag that is set stands in its array
pub flag_inside : (live : List Bool) (k : ℕ) → flag live k ≡ true → k < length live
flag_inside [] k e = absurd (true≢false (sym e))
flag_inside (b ∷ live) zero e = omega arith
flag_inside (b ∷ live) (suc k) e = omega (arith, flag_inside live k e)

-- ---- room
-- the number of entries in the lists of the first n buses
abbrev entries : (ℕ → List Visit) → ℕ → ℕ
entries next n = length (lists_to (λ u. buses_of (next u)) n)

entries_more : (next : ℕ → List Visit) (n : ℕ) → entries next (suc n) ≡ entries next n + length (next n)
unfolding lists_to up_to
entries_more next n = length-append (lists_to (λ u. buses_of (next u)) n) (buses_of (next n)) ∙ ap (◌+◌ (entries next n)) (length-map (next n) (λ v. v.bus))

entries_same : (next next' : ℕ → List Visit) (n : ℕ) → ((u : ℕ) → u < n → next u ≡ next' u) → entries next n ≡ entries next' n
unfolding lists_to
entries_same next next' n same = ap length (up_to_cong (λ l u. l ++ buses_of (next u)) (λ l u. l ++ buses_of (next' u)) [] n (λ l u k. rw (same u k)))

no_entries : (n : ℕ) → entries (λ u. []) n ≡ 0
unfolding lists_to up_to
no_entries zero = refl
no_entries (suc n) = entries_more (λ u. []) n ∙ omega (arith, no_entries n)

-- 1 from the list of bus x on
unfoldable ended : ℕ → ℕ → ℕ
ended x n = min (n - x) 1

ended_here : (x n : ℕ) → x ≡ n → ended x (suc n) ≡ suc (ended x n)
unfolding ended
ended_here x n e = omega arith

ended_still : (x n : ℕ) → ended x n ≤ ended x (suc n)
unfolding ended
ended_still x n = omega arith

ended_once : (x n : ℕ) → ended x n ≤ 1
unfolding ended
ended_once x n = omega arith

module _ (N : Net) where
  -- a branch has no end at a bus, or one entry in its list
  far_one : (u k : ℕ) → (length (far N u k) ≡ 0) ⊎ ((length (far N u k) ≡ 1) × ((N.from k ≡ u) ⊎ (N.to k ≡ u)))
  unfolding far
  far_one u k = go (eqb (N.from k) u) refl (eqb (N.to k) u) refl
    where
      go : (a : Bool) → eqb (N.from k) u ≡ a → (b : Bool) → eqb (N.to k) u ≡ b
          → (length (cond a (visit (N.to k) k ∷ []) (cond b (visit (N.from k) k ∷ []) [])) ≡ 0)
          ⊎ ((length (cond a (visit (N.to k) k ∷ []) (cond b (visit (N.from k) k ∷ []) [])) ≡ 1) × ((N.from k ≡ u) ⊎ (N.to k ≡ u)))
      go true p b q = inr (refl, inl (eqb-true (N.from k) u p))
      go false p true q = inr (refl, inr (eqb-true (N.to k) u q))
      go false p false q = inl refl

  -- so it adds one entry at each of its ends at most
  one_more : (next : ℕ → List Visit) (k n : ℕ) → entries (λ u. next u ++ far N u k) n ≤ entries next n + (ended (N.from k) n + ended (N.to k) n)
  unfolding lists_to up_to
  one_more next k zero = omega arith
  one_more next k (suc n) = go (far_one n k) (one_more next k n)
    where
      longer : entries (λ u. next u ++ far N u k) (suc n) ≡ entries (λ u. next u ++ far N u k) n + (length (next n) + length (far N n k))
      longer = entries_more (λ u. next u ++ far N u k) n ∙ ap (◌+◌ (entries (λ u. next u ++ far N u k) n)) (length-append (next n) (far N n k))

      go : (length (far N n k) ≡ 0) ⊎ ((length (far N n k) ≡ 1) × ((N.from k ≡ n) ⊎ (N.to k ≡ n)))
          → entries (λ u. next u ++ far N u k) n ≤ entries next n + (ended (N.from k) n + ended (N.to k) n)
          → entries (λ u. next u ++ far N u k) (suc n) ≤ entries next (suc n) + (ended (N.from k) (suc n) + ended (N.to k) (suc n))
      go (inl e) ih = omega (arith, longer, entries_more next n, ended_still (N.from k) n, ended_still (N.to k) n)
      go (inr (e, inl p)) ih = omega (arith, longer, entries_more next n, ended_here (N.from k) n p, ended_still (N.to k) n)
      go (inr (e, inr p)) ih = omega (arith, longer, entries_more next n, ended_still (N.from k) n, ended_here (N.to k) n p)

  -- and the first i branches two for each flag
  scanned : (ℕ → Bool) → ℕ → ℕ → List Visit
  scanned E i u = up_to (λ l k. cond (E k) (l ++ far N u k) l) [] i

  flags_twice : (live : List Bool) (i n : ℕ) → entries (scanned (flag live) i) n ≤ 2 * min i (length live)
  unfolding scanned up_to
  flags_twice live zero n = omega (arith, no_entries n)
  flags_twice live (suc i) n = go (flag live i) refl (flags_twice live i n)
    where
      go : (b : Bool) → flag live i ≡ b → entries (scanned (flag live) i) n ≤ 2 * min i (length live)
          → entries (λ u. cond b (scanned (flag live) i u ++ far N u i) (scanned (flag live) i u)) n ≤ 2 * min (suc i) (length live)
      go true e ih = omega (arith, one_more (scanned (flag live) i) i n, ended_once (N.from i) n, ended_once (N.to i) n, flag_inside live i e)
      go false e ih = omega arith

module _ (n m : ℕ) (from to : List ℕ) (live : List Bool) (few : n ≤ 256) (short : length live ≤ 512) where
  abbrev next : ℕ → List Visit
  next = row_neighbours (graph_of n m from to) live

  same : (u : ℕ) → u < n → next u ≡ neighbours (net_of n m from to) (flag live) u
  same u l = rows_are_neighbours n m from to live u (omega arith) short

  pub graph_room : length (lists_to (λ u. buses_of (next u)) n) ≤ 1024
  unfolding neighbours scanned
  graph_room = omega (arith, entries_same next (scanned (net_of n m from to) (flag live) m) n same, flags_twice (net_of n m from to) live m n)

  -- ---- the walk
  abbrev lists : LiveLists
  lists = live_lists (graph_of n m from to) live

  pub list_walk_is_walk : Sound (net_of n m from to) → (start barred : ℕ) → start < n
      → walk_by (listed lists.at lists.near) start barred ≡ map forget (walk (net_of n m from to) (flag live) start barred)
  unfolding live_lists walk graph_of
  list_walk_is_walk sound start barred l =
      let all : min n 256 ≡ n = omega arith in
      let small : (u : ℕ) → u < n → Small n (neighbours (net_of n m from to) (flag live) u) = λ u k. small_neighbours n m from to live n sound u in
      rw all (list_walk next n few graph_room (λ u k. rw (same u k) (small u k)) start barred l)
      ∙ ap (map forget) (same_walk n next (neighbours (net_of n m from to) (flag live)) same small start barred l)
