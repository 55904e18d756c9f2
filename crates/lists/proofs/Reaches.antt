-- A walk whose arrays have no branches: the laws of a walk with them, its branches being those of the visits.
use mathlib.Core.Path.{◌≡◌, refl, sym, ap, ◌∙◌}
use mathlib.Core.Bool.{Bool, true, false, cond, ◌||◌}
use mathlib.Core.List.{List, [], ◌∷◌, ◌++◌, map}
use Prim.Native.Nat.{ℕ, ◌+◌, ◌<◌, ◌≤◌}
use native.Mathlib.Omega.{arith}
use lib.Dec.{eqb}
use lib.Ieee.{Float, binary64, nan, add}
use lib.ListN.{length, get_or, set, replicate, length-append, get_or-append}
use Rattle.numbers.specs.Constants.{zero64}
use Rattle.numbers.specs.UpTo.{up_to, up_to_more, up_to_cong}
use Rattle.graph.specs.declared.walks.Walk.{Walk}
use Rattle.graph.specs.Walk.{Visit, start_at, reached, enter, enter_all, walk_by}
use Rattle.graph.specs.Visits.{visit, buses_of}
use Rattle.graph.specs.Rows.{filled, walked}
use Rattle.graph.specs.Walking.{Walking, enter_live}
use Rattle.bfs.proofs.Entering.{filled_read, marked_stays, enters}
use Rattle.bfs.proofs.Turning.{Turning, visits, none_turned, one_turned, all_turned}
use Rattle.bfs.proofs.Turning as Turning
use Rattle.lists.specs.declared.lists.Reached.{Reached}
use Rattle.lists.specs.Lists.{bus_load}
use Rattle.lists.specs.Held.{Reaches}

-- the loads at the first n buses of an array, added in its order
unfoldable pub array_load : List Float → List ℕ → ℕ → Float
array_load mw bus n = up_to (λ t i. add binary64 t (get_or mw (get_or bus i 0) nan)) zero64 n

pub load_none : (mw : List Float) (bus : List ℕ) → zero64 ≡ array_load mw bus 0
unfolding array_load up_to
load_none mw bus = refl

-- whatever array had the branches
keep : {barred : ℕ} {o : List Visit} {r : Reached} {by : List ℕ} → Walking barred o r.seen r.bus by r.count → Reaches barred o r
keep w = record { walking = record { counted = w.counted; buses = w.buses; branches = refl; flags = w.flags; marks = w.marks; room = w.room } }

module _ (x : ℕ) {r : Reached} (at : ℕ) (same : at ≡ x) (small : at < 256) where
  pub marked_left : get_or r.seen at false ≡ true → (barred : ℕ) (o : List Visit) → Reaches barred o r → Reaches barred (enter barred o (visit x 0)) r
  unfolding enter_live
  marked_left t barred o w = keep (marked_stays true x 0 at same small t barred o w.walking)

  pub entered : (end : ℕ) → end ≡ r.count → get_or r.seen at false ≡ false
      → (barred : ℕ) (o : List Visit) → Reaches barred o r → Reaches barred (enter barred o (visit x 0)) (record { seen = set r.seen at true; bus = set r.bus end x; count = r.count + 1 })
  unfolding enter_live
  entered end e f barred o w = keep (enters true x 0 at same small end e refl f barred o w.walking)

module _ (next : ℕ → List Visit) (start barred : ℕ) where
  -- the visits after h turns, in the arrays
  pub record Turned (r : Reached) (h : ℕ) : Type 0 where
    pub turning : Turning next start barred r.seen r.bus (filled (map (λ (v : Visit). v.by) (visits next start barred h))) r.count h

  kept : {r : Reached} {by : List ℕ} {h : ℕ} → Turning next start barred r.seen r.bus by r.count h → Turned r h
  kept t = record { turning = record { walking = (keep t.walking).walking; within = t.within } }

  pub none_turned_yet : (bar at : ℕ) → bar ≡ barred → bar < 256 → at ≡ start → at < 256
      → Turned (record { seen = set (set (replicate 256 false) bar true) at true; bus = set (replicate 256 0) 0 start; count = 1 }) 0
  none_turned_yet bar at p k e l = kept (none_turned next start barred bar at p k e l)

  module _ {r : Reached} {h : ℕ} (t : Turned r h) where
    pub reaching : Reaches barred (visits next start barred h) r
    reaching = record { walking = t.turning.walking }

    pub few_reached : r.count ≤ 256
    few_reached = Turning.turned_few next start barred t.turning

    pub turned : {r' : Reached} (at u : ℕ) → at ≡ h → u ≡ get_or r.bus at 0 → h < r.count
        → ((b : ℕ) (o : List Visit) → Reaches b o r → Reaches b (enter_all b o (next u)) r')
        → Turned r' (h + 1)
    turned at u p q l step = kept (one_turned next start barred t.turning at u p q l (λ w. (step barred (visits next start barred h) (keep w)).walking))

    all_reached : r.count ≤ h → (r.count ≡ length (walk_by next start barred)) × (r.bus ≡ filled (buses_of (walk_by next start barred)))
    unfolding walked
    all_reached l =
        let e = all_turned next start barred t.turning l in
        (ap (λ (w : Walk). w.count) e, ap (λ (w : Walk). w.bus) e)

    pub same_load : (mw : List Float) (total : Float) → h ≤ r.count → r.count ≤ h → total ≡ array_load mw r.bus h → total ≡ bus_load mw (walk_by next start barred)
    unfolding bus_load array_load
    same_load mw total a b e =
        let o = walk_by next start barred in
        let w = all_reached b in
        let end : h ≡ length o = omega (arith, w.0) in
        e ∙ rw end (up_to_cong _ _ zero64 (length o) (λ s i l. rw (w.1, filled_read (λ v. v.bus) o i refl)))

-- ---- a turn leaves the buses before it where they are
module _ (barred : ℕ) where
  enter_extends : (o : List Visit) (v : Visit) → (length o ≤ length (enter barred o v)) × ((i : ℕ) → i < length o → get_or (enter barred o v) i (start_at 0) ≡ get_or o i (start_at 0))
  unfolding enter
  enter_extends o v = go (eqb v.bus barred || reached v.bus o)
    where
      go : (b : Bool) → (length o ≤ length (cond b o (o ++ (v ∷ [])))) × ((i : ℕ) → i < length o → get_or (cond b o (o ++ (v ∷ []))) i (start_at 0) ≡ get_or o i (start_at 0))
      go true = (omega arith, λ i l. refl)
      go false = (rw length-append (omega arith), λ i l. get_or-append o (v ∷ []) (start_at 0) i l)

  all_extends : (o vs : List Visit) → (length o ≤ length (enter_all barred o vs)) × ((i : ℕ) → i < length o → get_or (enter_all barred o vs) i (start_at 0) ≡ get_or o i (start_at 0))
  unfolding enter_all
  all_extends o [] = (omega arith, λ i l. refl)
  all_extends o (v ∷ vs) =
      let e = enter_extends o v in
      let r = all_extends (enter barred o v) vs in
      let longer : length o ≤ length (enter barred o v) = e.0 in
      (omega (arith, r.0), λ i l. r.1 i (omega arith) ∙ e.1 i l)

  -- in the arrays
  pub buses_stay : (o vs : List Visit) {r r' : Reached} → Reaches barred o r → Reaches barred (enter_all barred o vs) r'
      → (r.count ≤ r'.count) × ((i : ℕ) → i < r.count → get_or r'.bus i 0 ≡ get_or r.bus i 0)
  buses_stay o vs w w' =
      let e = all_extends o vs in
      let a = w.walking.counted in
      let b = w'.walking.counted in
      let longer : length o ≤ length (enter_all barred o vs) = e.0 in (
        omega arith,
        λ i l.
            rw (w.walking.buses, w'.walking.buses, filled_read (λ v. v.bus) (enter_all barred o vs) i refl, filled_read (λ v. v.bus) o i refl, e.1 i (omega arith)),
      )

pub load_more : (mw : List Float) (bus bus' : List ℕ) (h u : ℕ) (t : Float) → t ≡ array_load mw bus h → u ≡ get_or bus h 0 → ((i : ℕ) → i < h + 1 → get_or bus' i 0 ≡ get_or bus i 0)
    → add binary64 t (get_or mw u nan) ≡ array_load mw bus' (h + 1)
unfolding array_load
load_more mw bus bus' h u t e q same =
    rw (e, q) (sym (up_to_more _ zero64 h ∙ rw (same h (omega arith)) (ap (λ s. add binary64 s (get_or mw (get_or bus h 0) nan)) (up_to_cong _ _ zero64 h (λ s i l. rw (same i (omega arith)))))))
