-- A walk's loop, whatever gives the neighbours: its arrays hold the visits after as many turns as buses have had their turn.
use mathlib.Core.Path.{◌≡◌, refl, ◌∙◌}
use mathlib.Core.Bool.{Bool, true, false, ◌||◌}
use mathlib.Core.List.{List, [], ◌∷◌}
use Prim.Native.Nat.{ℕ, ◌+◌, ◌<◌, ◌≤◌}
use native.Mathlib.Decide.{ℕ_discrete}
use native.Mathlib.Omega.{arith}
use lib.Dec.{eqb}
use lib.ListN.{length, get_or, set, replicate, length-set, length-replicate, get_or-replicate}
use lib.Seq.{get_or-set_same, get_or-set_other, set-set}
use borrow.Author.Tests.{lt-ltb, le-ltb, eq-eqb, ne_eqb}
use Rattle.numbers.specs.UpTo.{up_to, up_to_more, up_to_idle}
use Rattle.graph.specs.declared.walks.Walk.{Walk}
use Rattle.graph.specs.Walk.{Visit, start_at, reached, enter_all, turn, walk_by}
use Rattle.numbers.specs.Counts.{count, count_drop}
use Rattle.numbers.specs.Arrays.{padded}
use Rattle.graph.specs.Rows.{flag, walked}
use Rattle.graph.specs.Walking.{Walking}
use Rattle.bfs.proofs.Entering.{few, one_more, filled_read}

-- no bus is marked
module _ (clear : List Bool) (long : length clear ≡ 256) (off : (x : ℕ) → x < 256 → get_or clear x false ≡ false) (barred : ℕ) (below : barred < 256) where
  abbrev bars : List Bool
  bars = set clear barred true

  there : get_or bars barred false ≡ true
  there = get_or-set_same clear barred true false (rw long below)

  elsewhere : (x : ℕ) → x < 256 → (x ≡ barred → ⊥) → get_or bars x false ≡ false
  elsewhere x h d = get_or-set_other clear barred x true false d ∙ off x h

  -- the barred bus is marked, and none is reached
  none_walking : Walking barred [] bars (replicate 256 0) (replicate 256 0) 0
  unfolding padded reached
  none_walking =
      record {
        counted = refl;
        buses = refl;
        branches = refl;
        flags = length-set clear barred true ∙ long;
        marks = λ x h. mark x h (ℕ_discrete x barred);
        room = omega arith;
      }
    where
      mark : (x : ℕ) → x < 256 → Dec (x ≡ barred) → get_or bars x false ≡ (eqb x barred || false)
      mark x h (yes e) = rw (eq-eqb x barred e, e) there
      mark x h (no d) = rw (ne_eqb x barred d) (elsewhere x h d)

  one_mark : 1 ≤ count (flag bars) 256
  one_mark = omega (arith, count_drop (flag bars) (λ x. false) 256 barred below there refl elsewhere)

  -- the start is marked and reached, also where it is the barred bus
  start_walking : (start : ℕ) → start < 256 → Walking barred (start_at start ∷ []) (set bars start true) (set (replicate 256 0) 0 start) (replicate 256 0) 1
  unfolding padded reached
  start_walking start h = go (ℕ_discrete start barred)
    where
      twice : (t : Bool) → (t || false) ≡ (t || (t || false))
      twice true = refl
      twice false = refl

      go : Dec (start ≡ barred) → Walking barred (start_at start ∷ []) (set bars start true) (set (replicate 256 0) 0 start) (replicate 256 0) 1
      go (no d) = one_more none_walking start h (elsewhere start h d) 0
      go (yes e) =
          let same : set bars start true ≡ bars = rw e (set-set clear barred true true) in
          rw same
          record {
            counted = refl;
            buses = refl;
            branches = refl;
            flags = none_walking.flags;
            marks = λ x k. rw e (none_walking.marks x k ∙ twice (eqb x barred));
            room = one_mark;
          }

module _ (neighbours : ℕ → List Visit) (start barred : ℕ) where
  -- the visits after h turns
  abbrev pub visits : ℕ → List Visit
  visits h = up_to (turn neighbours barred) (start_at start ∷ []) h

  -- in the arrays
  pub record Turning (seen : List Bool) (bus by : List ℕ) (n h : ℕ) : Type 0 where
    pub walking : Walking barred (visits h) seen bus by n
    pub within : h ≤ 256

  pub none_turned : (bar at : ℕ) → bar ≡ barred → bar < 256 → at ≡ start → at < 256
      → Turning (set (set (replicate 256 false) bar true) at true) (set (replicate 256 0) 0 start) (replicate 256 0) 1 0
  unfolding up_to
  none_turned bar at p k e l =
      record {
        walking = rw (p, e) (start_walking (replicate 256 false) (length-replicate 256 false) (λ x h. get_or-replicate 256 x false false h) barred (omega arith) start (omega arith));
        within = omega arith;
      }

  module _ {seen : List Bool} {bus by : List ℕ} {n h : ℕ} (t : Turning seen bus by n h) where
    pub turned_few : n ≤ 256
    turned_few = few t.walking

    bus_read : get_or bus h 0 ≡ (get_or (visits h) h (start_at 0)).bus
    bus_read = rw t.walking.buses (filled_read (λ v. v.bus) (visits h) h refl)

    pub one_turned : {seen' : List Bool} {bus' by' : List ℕ} {n' : ℕ} (at u : ℕ) → at ≡ h → u ≡ get_or bus at 0 → h < n
        → (Walking barred (visits h) seen bus by n → Walking barred (enter_all barred (visits h) (neighbours u)) seen' bus' by' n')
        → Turning seen' bus' by' n' (h + 1)
    unfolding turn
    one_turned at u p q l step =
        let b : u ≡ (get_or (visits h) h (start_at 0)).bus = q ∙ rw p bus_read in
        let m : h < length (visits h) = omega (arith, t.walking.counted) in
        record {
          walking = rw (up_to_more (turn neighbours barred) (start_at start ∷ []) h, lt-ltb h (length (visits h)) m, ← b)
              (step t.walking);
          within = omega (arith, turned_few);
        }

    pub all_turned : n ≤ h → ◌≡◌ {A = Walk} (record { count = n; bus = bus; by = by }) (walked (walk_by neighbours start barred))
    unfolding turn walk_by walked
    all_turned l =
        let w = t.walking in
        let e = up_to_idle (turn neighbours barred) (start_at start ∷ []) h 256 t.within
        (λ i a b. rw (le-ltb i (length (visits h)) (omega (arith, w.counted)))) in
        rw (e, w.counted, w.buses, w.branches)

-- with no bus barred: the start stands for the barred one, and its mark is made once
pub start_turned : (neighbours : ℕ → List Visit) (start at : ℕ) → at ≡ start → at < 256
    → Turning neighbours start start (set (replicate 256 false) at true) (set (replicate 256 0) 0 start) (replicate 256 0) 1 0
start_turned neighbours start at e l = rw (set-set (replicate 256 false) at true true) at (none_turned neighbours start start at at e l e l)
