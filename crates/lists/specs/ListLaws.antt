-- A walk by lists that have room reaches the buses that a walk by the rows does, in the same order.
use Rattle.std.specs.Prelude.{◌≡◌, Bool, ◌||◌, eqb, ltb}
use Rattle.std.proofs.Math.Path.{refl, sym, ap}
use Rattle.std.proofs.Common.{◌∙◌, arith, lt-ltb}
use Rattle.std.proofs.Math.Bool.{true, false, cond}
use mathlib.Core.List.{List, [], ◌∷◌, ◌++◌, map, map-append, append-nil, append_assoc}
use Prim.Native.Nat.{ℕ, zero, suc, ◌+◌, ◌-◌, ◌<◌, ◌≤◌, min}
use Rattle.std.proofs.Math.Decide.{ℕ_discrete}
use Rattle.std.proofs.Math.ListN.{length, get_or, length-append, length-map, get_or-append, get_or-map}
use Rattle.std.proofs.Math.Seq.{get_or-append-add}
use Rattle.numbers.specs.UpTo.{up_to, up_to_more}
use Rattle.numbers.specs.TableLaws.{get_or_table, table_cong, as_table, filled}
use Rattle.graph.specs.Walk.{Visit, start_at, reached, enter, enter_all, turn, walk_by}
use Rattle.graph.specs.Visits.{visit, buses_of}
use Rattle.graph.specs.RowsWalk.{Small, same_walk}
use Rattle.lists.specs.Lists.{lists_to, list_start, lists_of, forget, list_from, listed}

-- ---- a walk without its branches is the walk by neighbours without their branches
module _ (barred : ℕ) where
  reached_forget : (b : ℕ) (o : List Visit) → reached b (map forget o) ≡ reached b o
  unfolding reached
  reached_forget b [] = refl
  reached_forget b (v ∷ o) = rw (reached_forget b o)

  enter_forget : (o : List Visit) (v : Visit) → map forget (enter barred o v) ≡ enter barred (map forget o) (forget v)
  unfolding enter
  enter_forget o v = rw (reached_forget v.bus o) (go (eqb v.bus barred || reached v.bus o))
    where
      go : (b : Bool) → map forget (cond b o (o ++ (v ∷ []))) ≡ cond b (map forget o) (map forget o ++ (forget v ∷ []))
      go true = refl
      go false = map-append forget o (v ∷ [])

  all_forget : (o vs : List Visit) → map forget (enter_all barred o vs) ≡ enter_all barred (map forget o) (map forget vs)
  unfolding enter_all
  all_forget o [] = refl
  all_forget o (v ∷ vs) = rw (all_forget (enter barred o v) vs, enter_forget o v)

  module _ (next : ℕ → List Visit) where
    turn_forget : (o : List Visit) (h : ℕ) → map forget (turn next barred o h) ≡ turn (λ u. map forget (next u)) barred (map forget o) h
    unfolding turn
    turn_forget o h = rw (length-map, get_or-map forget o h (start_at 0)) (go (ltb h (length o)))
      where
        go : (b : Bool) → map forget (cond b (enter_all barred o (next (get_or o h (start_at 0)).bus)) o)
            ≡ cond b (enter_all barred (map forget o) (map forget (next (get_or o h (start_at 0)).bus))) (map forget o)
        go true = all_forget o (next (get_or o h (start_at 0)).bus)
        go false = refl

    turns_forget : (start h : ℕ) → map forget (up_to (turn next barred) (start_at start ∷ []) h) ≡ up_to (turn (λ u. map forget (next u)) barred) (start_at start ∷ []) h
    unfolding up_to
    turns_forget start zero = refl
    turns_forget start (suc h) = turn_forget _ h ∙ ap (λ o. turn (λ u. map forget (next u)) barred o h) (turns_forget start h)

    walk_forget : (start : ℕ) → map forget (walk_by next start barred) ≡ walk_by (λ u. map forget (next u)) start barred
    unfolding walk_by
    walk_forget start = turns_forget start 256

-- ---- lists, one behind the other
module _ (near : ℕ → List ℕ) where
  pub lists_more : (u : ℕ) → lists_to near (u + 1) ≡ lists_to near u ++ near u
  unfolding lists_to
  lists_more u = up_to_more _ [] u

  -- the list of bus u stands behind those of the buses before it
  lists_split : (u n : ℕ) → u < n → (r : List ℕ) × (lists_to near n ≡ lists_to near u ++ (near u ++ r))
  unfolding lists_to up_to
  lists_split u zero l = absurd (omega arith)
  lists_split u (suc n) l = go (ℕ_discrete u n) (λ k. lists_split u n k)
    where
      go : Dec (u ≡ n) → (u < n → (r : List ℕ) × (lists_to near n ≡ lists_to near u ++ (near u ++ r))) → (r : List ℕ) × (lists_to near n ++ near n ≡ lists_to near u ++ (near u ++ r))
      go (yes e) ih = ([], rw (e, append-nil))
      go (no d) ih =
          let s = ih (omega arith) in
          (s.0 ++ near n, rw s.1 (append_assoc (lists_to near u) (near u ++ s.0) (near n) ∙ ap (◌++◌ (lists_to near u)) (append_assoc (near u) s.0 (near n))))

-- what is read off the lists of neighbours
module _ (next : ℕ → List Visit) (n : ℕ) (few : n ≤ 256) (room : length (lists_to (λ u. buses_of (next u)) n) ≤ 1024) (u : ℕ) (l : u < n) where
  abbrev row : ℕ → List ℕ
  row x = buses_of (next x)

  abbrev before : ℕ
  before = length (lists_to row u)

  size : length (next u) + before ≤ 1024
  size =
      let s = lists_split row u n l in
      let e : length (lists_to row n) ≡ before + (length (row u) + length s.0) = ap length s.1 ∙ length-append (lists_to row u) (row u ++ s.0) ∙ ap (◌+◌ before) (length-append (row u) s.0) in
      omega (arith, room, length-map (next u) (λ v. v.bus))

  starts : (x : ℕ) → x ≤ n → get_or (lists_of row n).at x 0 ≡ list_start row x
  unfolding lists_of filled
  starts x k = get_or_table _ 257 x 0 (omega arith) ∙ rw (lt-ltb x (n + 1) (omega arith))

  begins : get_or (lists_of row n).at u 0 ≡ before
  unfolding list_start
  begins = starts u (omega arith) ∙ omega (arith, size)

  ends : get_or (lists_of row n).at (u + 1) 0 ≡ before + length (next u)
  unfolding list_start
  ends =
      let more : length (lists_to row (u + 1)) ≡ before + length (row u) = ap length (lists_more row u) ∙ length-append (lists_to row u) (row u) in
      starts (u + 1) (omega arith) ∙ omega (arith, size, more, length-map (next u) (λ v. v.bus))

  entry : (i : ℕ) → i < length (next u) → get_or (lists_of row n).near (before + i) 0 ≡ (get_or (next u) i (start_at 0)).bus
  unfolding lists_of
  entry i k =
      let s = lists_split row u n l in
      let inside : i < length (row u) = rw length-map k in
      get_or_table _ 1024 (before + i) 0 (omega (arith, size))
      ∙ ap (λ (t : List ℕ). get_or t (before + i) 0) s.1
      ∙ get_or-append-add (lists_to row u) (row u ++ s.0) i 0
      ∙ get_or-append (row u) s.0 0 i inside
      ∙ get_or-map (λ (v : Visit). v.bus) (next u) i (start_at 0)

  list_read : listed (lists_of row n).at (lists_of row n).near u ≡ map forget (next u)
  unfolding listed list_from
  list_read =
      let count : min (before + length (next u)) 1024 - before ≡ length (next u) = omega (arith, size) in
      rw (begins, ends, count)
      (table_cong _ _ (length (next u)) (λ i k. ap (λ b. visit b 0) (entry i k))
      ∙ sym (as_table (λ i. forget (get_or (next u) i (start_at 0))) (length (next u)) (start_at 0) (map forget (next u)) (length-map (next u) forget) (λ i k. get_or-map forget (next u) i (start_at 0))))

-- ---- the walk
small_forget : (size : ℕ) (o : List Visit) → Small size o → Small size (map forget o)
small_forget size [] s = tt
small_forget size (v ∷ o) s = (s.0, small_forget size o s.1)

-- by the lists of n buses that have room and stay among themselves
pub list_walk : (next : ℕ → List Visit) (n : ℕ) → n ≤ 256 → length (lists_to (λ u. buses_of (next u)) n) ≤ 1024 → ((u : ℕ) → u < n → Small n (next u))
    → (start barred : ℕ) → start < n
    → walk_by (listed (lists_of (λ u. buses_of (next u)) n).at (lists_of (λ u. buses_of (next u)) n).near) start barred ≡ map forget (walk_by next start barred)
list_walk next n few room small start barred l =
    same_walk n _ (λ u. map forget (next u)) (λ u k. list_read next n few room u k) (λ u k. small_forget n (next u) (small u k)) start barred l
    ∙ sym (walk_forget barred next start)
