-- A row of half-branches entered one by one: a loop along the row whose state is the list of visits.
use mathlib.Core.Path.{◌≡◌, refl}
use mathlib.Core.Bool.{Bool, true, false, cond}
use mathlib.Core.List.{List, [], ◌∷◌}
use Prim.Native.Nat.{ℕ, ◌+◌, ◌/◌, ◌<◌, ◌≤◌}
use lib.ListN.{get_or}
use Rattle.graph.specs.Walk.{Visit, enter_all}
use Rattle.graph.specs.declared.rows.Graph.{Graph}
use Rattle.graph.specs.Rows.{row_from, leads, row_leads, row_neighbours}
use Rattle.graph.specs.Walking.{enter_live}
use Rattle.bfs.specs.declared.walk.Reached.{Reached}
use Rattle.bfs.specs.Reaches.{Reaches}
use Rattle.bfs.proofs.Along.{along, Along, one_along}
use Rattle.bfs.proofs.Along as Along

module _ (far : List ℕ) (live : List Bool) (barred : ℕ) where
  -- what half-branch h leads to is entered
  abbrev enter_half : List Visit → ℕ → List Visit
  enter_half o h = enter_live (get_or live (h / 2) false) barred o (record { bus = get_or far h 0; by = h / 2 })

  all_entered : (l : List ℕ) (o : List Visit) → along enter_half o l ≡ enter_all barred o (leads far live l)
  unfolding along leads enter_all enter_live
  all_entered [] o = refl
  all_entered (h ∷ l) o = rw (all_entered l (enter_half o h)) (go (get_or live (h / 2) false))
    where
      go : (b : Bool)
          → enter_all barred (enter_live b barred o (record { bus = get_or far h 0; by = h / 2 })) (leads far live l)
          ≡ enter_all barred o (cond b (record { bus = get_or far h 0; by = h / 2 } ∷ leads far live l) (leads far live l))
      go true = refl
      go false = refl

module _ (g : Graph) (live : List Bool) (u barred : ℕ) (r₀ : Reached) where
  abbrev row : List ℕ
  row = row_from g.next 1024 (get_or g.first u 0)

  -- as many half-branches of bus u's row as i are entered, and the rest of the row begins with h
  pub record Expanding (r : Reached) (h i : ℕ) : Type 0 where
    pub loop : Along (enter_half g.far live barred) g.next (get_or g.first u 0) (λ o. Reaches barred o r₀) (λ o. Reaches barred o r) h i

  pub none_expanded : Expanding r₀ (get_or g.first u 0) 0
  none_expanded = record { loop = Along.none_along (enter_half g.far live barred) g.next (get_or g.first u 0) (λ o. Reaches barred o r₀) }

  module _ {r : Reached} {h i : ℕ} (e : Expanding r h i) where
    pub one_expanded : {r' : Reached} (half at : ℕ) → i < 1024 → h < 1024 → half ≡ h → at ≡ h / 2
        → ((o : List Visit) → Reaches barred o r → Reaches barred (enter_live (get_or live at false) barred o (record { bus = get_or g.far half 0; by = h / 2 })) r')
        → Expanding r' (get_or g.next half 0) (i + 1)
    one_expanded {r'} half at li lh p q step =
        record { loop = rw p (one_along (enter_half g.far live barred) g.next (get_or g.first u 0) _ e.loop (λ o. Reaches barred o r') li lh (rw (p, q) at step)) }

    pub row_ended : 1024 ≤ h → (o : List Visit) → Reaches barred o r₀ → Reaches barred (enter_all barred o (row_neighbours g live u)) r
    unfolding row_leads
    row_ended l o w = rw (← all_entered g.far live barred row o) (Along.row_ended (enter_half g.far live barred) g.next (get_or g.first u 0) _ e.loop l o w)

    pub row_cut : 1024 ≤ i → (o : List Visit) → Reaches barred o r₀ → Reaches barred (enter_all barred o (row_neighbours g live u)) r
    unfolding row_leads
    row_cut l o w = rw (← all_entered g.far live barred row o) (Along.row_cut (enter_half g.far live barred) g.next (get_or g.first u 0) _ e.loop l o w)
