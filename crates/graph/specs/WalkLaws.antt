-- The breadth-first walk reaches exactly the buses that are joined with its start, past the barred bus; its buses are
-- distinct, and the branches by which they were reached are the path between two buses. From the laws of `Walked`: a
-- neighbour is entered as there, and each bus has its turn, for there are at most 256.
use Rattle.std.specs.Prelude.{◌≡◌, ◌⊎◌, ◌↔◌, ◌≢◌, Bool, cond, get_or}
use Rattle.std.proofs.Math.Path.{refl}
use Rattle.std.proofs.Common.{sym, ◌∙◌, inl, inr, arith, ltb-true, ltb-false}
use Rattle.std.proofs.Math.Bool.{true, false}
use mathlib.Core.List.{List, [], ◌∷◌, Memᴰ}
use Prim.Native.Nat.{ℕ, zero, suc, ◌≤◌, ◌<◌}
use Rattle.std.proofs.Math.Decide.{ℕ_discrete}
use Rattle.std.proofs.Math.Dec.{ltb}
use Rattle.std.proofs.Math.ListN.{length, get_or-append}
use Rattle.numbers.specs.UpTo.{up_to}
use Rattle.numbers.specs.Counts.{count, count_le}
use Rattle.numbers.specs.Distinct.{Distinct}
use Rattle.graph.specs.Graph.{Net, Sound, Branches, Live, Ends, Chain, stay, step, visited, Path, Joined, Tree}
use Rattle.graph.specs.Walk.{Visit, start_at, neighbours, reached, enter_all, turn, walk_by, walk, bfs_path}
use Rattle.graph.specs.Chains.{◌⊆◌, chain_more, visited_more, joined_sym}
use Rattle.graph.specs.Paths.{path_back, path_more}
use Rattle.graph.specs.Forests.{path_unique}
use Rattle.graph.specs.Trees.{tree_forest}
use Rattle.graph.specs.Visits.{visit, buses_of, reached_cases, reached_one, reached_at, at_reached}
use Rattle.graph.specs.Neighbours.{neighbours_ends}
use Rattle.graph.specs.Entering.{all_behind, all_still, all_reached, all_walked}
use Rattle.graph.specs.Barred.{Unbarred, unbarred_live, unbarred_end, ends_unbarred, unbarred_chain, unvisited}
use Rattle.graph.specs.Walked.{Walked, begun, entered, walked_start, walked_distinct, walked_below, walked_count}
use Rattle.graph.specs.WayBack.{back_path}

module _ (N : Net) (E : ℕ → Bool) (start barred : ℕ) where
  abbrev S : Branches
  S = Unbarred N E start barred

  past_bar : {o : List Visit} → barred ≢ start → Walked N S start o → (b : ℕ) → reached b o ≡ true → b ≢ barred
  past_bar n begun b h = λ e. n (sym e ∙ reached_one b start h)
  past_bar n (entered {o = o} u {y = y} {k = k} w s e r f) b h = go (reached_cases b o _ h) (λ t. past_bar n w b t)
    where
      go : (reached b o ≡ true) ⊎ (b ≡ y) → (reached b o ≡ true → b ≢ barred) → b ≢ barred
      go (inl t) ih = ih t
      go (inr p) ih = λ z. unbarred_end N E start barred s n e (sym p ∙ z)

  -- bus z had its turn
  abbrev Done : List Visit → ℕ → Type 0
  Done o z = (k y : ℕ) → Live N E k → Ends N k z y → y ≢ barred → reached y o ≡ true

  -- after n turns
  record Stage (n : ℕ) (o : List Visit) : Type 0 where
    walked : Walked N S start o
    done : (i : ℕ) → i < n → i < length o → Done o (get_or o i (start_at 0)).bus

  module _ (n : ℕ) (o : List Visit) (h : Stage n o) where
    stage_late : length o ≤ n → Stage (suc n) o
    stage_late l = record { walked = h.walked; done = λ i a b. h.done i (omega arith) b }

    stage_turn : n < length o → Stage (suc n) (enter_all barred o (neighbours N E (get_or o n (start_at 0)).bus))
    stage_turn l = record { walked = all_walked barred u o vs by h.walked here; done = λ i a b. done i a (ℕ_discrete i n) }
      where
        u : ℕ
        u = (get_or o n (start_at 0)).bus

        vs : List Visit
        vs = neighbours N E u

        here : reached u o ≡ true
        here = reached_at o n (start_at 0) l

        by : (v : Visit) → Memᴰ v vs → v.bus ≢ barred → S v.by × Ends N v.by u v.bus
        by v m q = let k = (neighbours_ends N E u v).0 m in (ends_unbarred N E start barred k.0 k.1 (λ n. (past_bar n h.walked u here, q)), k.1)

        same : (i : ℕ) → i < length o → get_or (enter_all barred o vs) i (start_at 0) ≡ get_or o i (start_at 0)
        same i b = let p = all_behind barred o vs in rw p.1 (get_or-append o p.0 (start_at 0) i b)

        done : (i : ℕ) → i < suc n → Dec (i ≡ n) → Done (enter_all barred o vs) (get_or (enter_all barred o vs) i (start_at 0)).bus
        done i a (yes q) k y s e x = all_reached barred o vs (visit y k) ((neighbours_ends N E u (visit y k)).1 (s, rw (q, same n l) at e)) x
        done i a (no q) k y s e x = all_still barred y o vs (h.done i (omega arith) (omega arith) k y s (rw (same i (omega arith)) at e) x)

    stage_next : Stage (suc n) (turn (neighbours N E) barred o n)
    unfolding turn
    stage_next = go (ltb n (length o)) refl
      where
        go : (b : Bool) → ltb n (length o) ≡ b → Stage (suc n) (cond (ltb n (length o)) (enter_all barred o (neighbours N E (get_or o n (start_at 0)).bus)) o)
        go true e = rw e (stage_turn (ltb-true n (length o) e))
        go false e = rw e (stage_late (ltb-false n (length o) e))

  stage : (n : ℕ) → Stage n (up_to (turn (neighbours N E) barred) (start_at start ∷ []) n)
  unfolding up_to
  stage zero = record { walked = begun; done = λ i a. absurd (omega arith) }
  stage (suc n) = stage_next n _ (stage n)

  pub walk_walked : Walked N S start (walk N E start barred)
  unfolding walk walk_by
  walk_walked = (stage 256).walked

  pub walk_distinct : Distinct (buses_of (walk N E start barred))
  walk_distinct = walked_distinct walk_walked

  module _ (sound : Sound N) (l : start < N.buses) where
    ends : (k : ℕ) → S k → (N.from k < N.buses) × (N.to k < N.buses)
    ends k s = sound k s.0.0

    pub walk_below : (b : ℕ) → reached b (walk N E start barred) ≡ true → b < N.buses
    walk_below = walked_below ends l walk_walked

    pub walk_count : count (λ b. reached b (walk N E start barred)) N.buses ≡ length (walk N E start barred)
    walk_count = walked_count ends l walk_walked

    pub walk_length : length (walk N E start barred) ≤ N.buses
    walk_length = omega (arith, walk_count, count_le (λ b. reached b (walk N E start barred)) N.buses)

    module _ (m : N.buses ≤ 256) where
      -- 256 turns are enough for all buses of the walk
      walk_done : (z : ℕ) → reached z (walk N E start barred) ≡ true → Done (walk N E start barred) z
      unfolding walk walk_by
      walk_done z h = go (at_reached (walk N E start barred) z (start_at 0) h)
        where
          go : (i : ℕ) × (i < length (walk N E start barred)) × ((get_or (walk N E start barred) i (start_at 0)).bus ≡ z) → Done (walk N E start barred) z
          go (i, b, p) = rw p at ((stage 256).done i (omega (arith, walk_length)) b)

      walk_unbarred : (b : ℕ) → (reached b (walk N E start barred) ≡ true) ↔ Joined N S start b
      walk_unbarred b = (λ h. joined_sym (_, (back_path walk_walked (length o) (omega arith) b h).0), λ j. along_chain (walked_start walk_walked) j.1)
        where
          o : List Visit
          o = walk N E start barred

          next : {a c k : ℕ} → reached a o ≡ true → S k → Ends N k a c → Dec (c ≡ barred) → Dec (barred ≡ start) → reached c o ≡ true
          next h s e (no n) d = walk_done _ h _ _ s.0 e n
          next h s e (yes p) (yes q) = rw (p ∙ q) (walked_start walk_walked)
          next h s e (yes p) (no n) = absurd (unbarred_end N E start barred s n e p)

          along_chain : {a c : ℕ} {r : List ℕ} → reached a o ≡ true → Chain N S a c r → reached c o ≡ true
          along_chain h (stay e) = rw e at h
          along_chain h (step {c = c} s e g) = along_chain (next h s e (ℕ_discrete c barred) (ℕ_discrete barred start)) g

      -- the walk reaches a bus exactly where a chain of live branches joins it with the start that does not visit the barred
      -- bus, unless that is the start itself
      pub walk_reaches : (b : ℕ)
          → (reached b (walk N E start barred) ≡ true) ↔ ((r : List ℕ) × (c : Chain N (Live N E) start b r) × (barred ≢ start → ¬ Memᴰ barred (visited c)))
      walk_reaches b = (λ h. fore ((walk_unbarred b).0 h), λ (r, c, h). (walk_unbarred b).1 (r, unbarred_chain N E start barred c h))
        where
          fore : Joined N S start b → (r : List ℕ) × (c : Chain N (Live N E) start b r) × (barred ≢ start → ¬ Memᴰ barred (visited c))
          fore (r, c) = (r, chain_more live c, λ n. rw (visited_more live c) (unvisited N E start barred n (λ e. n (sym e)) c))
            where
              live : S ⊆ Live N E
              live = unbarred_live N E start barred

-- with nothing barred
module _ (N : Net) (E : ℕ → Bool) (sound : Sound N) (m : N.buses ≤ 256) (a : ℕ) (l : a < N.buses) where
  pub walk_joined : (b : ℕ) → (reached b (walk N E a a) ≡ true) ↔ Joined N (Live N E) a b
  walk_joined b =
      let h = walk_reaches N E a a sound l m b in
      (λ r. let c = h.0 r in (c.0, c.1), λ j. h.1 (j.0, j.1, λ n. absurd (n refl)))

  -- between joined buses the walk finds a path
  pub bfs_path_lem : (b : ℕ) → Joined N (Live N E) a b → Path N (Live N E) a b (bfs_path N E a b)
  unfolding bfs_path walk
  bfs_path_lem b j =
      let r = (walk_joined b).1 j in
      let p = back_path (walk_walked N E a a) 256 (omega (arith, walk_length N E a a sound l)) b r in
      rw r (path_back (path_more (unbarred_live N E a a) p))

  -- and in a tree every path is the one that the walk finds
  pub tree_bfs_path : Tree N (Live N E) → (b : ℕ) (r : List ℕ) → Path N (Live N E) a b r → r ≡ bfs_path N E a b
  tree_bfs_path t b r p = path_unique (tree_forest t) p (bfs_path_lem b (_, p.0))
