-- The neighbours of each bus by live branches, one list behind the other in one array, as the code has them.
-- GraphLists shows that those of every graph of `Graph::new` have room, and that a walk by them reaches the buses of document 01's walk.
use Rattle.std.specs.Prelude.{◌≡◌, Bool, cond, List, [], ◌∷◌, ◌++◌, map, ℕ, ◌+◌, ◌-◌, min, Float, length, get_or}
use Rattle.std.specs.Float.{binary64, nan}
use Rattle.std.specs.Float.Ieee.{add}
use Rattle.numbers.specs.Constants.{zero64}
use Rattle.numbers.specs.UpTo.{up_to, table}
use Rattle.numbers.specs.TableLaws as tables
use Rattle.numbers.specs.Arrays.{array_of}
use Rattle.graph.specs.declared.rows.Graph.{Graph}
use Rattle.graph.specs.Walk.{Visit, start_at}
use Rattle.graph.specs.Walking.{Walking}
use Rattle.graph.specs.Visits.{visit, buses_of}
use Rattle.graph.specs.Rows.{filled, row_neighbours}
use Rattle.lists.specs.declared.lists.LiveLists.{LiveLists}

-- the lists of the first n buses, one behind the other
unfoldable pub lists_to : (ℕ → List ℕ) → ℕ → List ℕ
lists_to near n = up_to (λ l u. l ++ near u) [] n

-- where the list of bus u begins; 1,024 where there is no room for it
unfoldable pub list_start : (ℕ → List ℕ) → ℕ → ℕ
list_start near u = min (length (lists_to near u)) 1024

-- the lists of n buses, as far as 1,024 entries have room for them. The list of bus u ends where that of bus u + 1 begins
unfoldable pub lists_of : (ℕ → List ℕ) → ℕ → LiveLists
lists_of near n = record { at = tables.filled (list_start near) 0 257 (n + 1); near = array_of 1024 0 (lists_to near n) }

-- the lists of a graph's buses, read off its rows
unfoldable pub live_lists : Graph → List Bool → LiveLists
live_lists g live = lists_of (λ u. buses_of (row_neighbours g live u)) (min g.bus_count 256)

-- a visit without its branch: 0 stands there
abbrev pub forget : Visit → Visit
forget v = visit v.bus 0

-- the buses from position a to before position b. No branch is listed with them
unfoldable pub list_from : List ℕ → ℕ → ℕ → List Visit
list_from near a b = table (λ i. visit (get_or near (a + i) 0) 0) (min b 1024 - a)

-- the list of bus u
unfoldable pub listed : List ℕ → List ℕ → ℕ → List Visit
listed at near u = list_from near (get_or at u 0) (get_or at (u + 1) 0)

-- the loads at the buses of these visits, in megawatts by bus position, added in their order from 0.0. Behind its end, where no bus is, a lent array of floats reads as NaN
unfoldable pub bus_load : List Float → List Visit → Float
bus_load mw o = up_to (λ t i. add binary64 t (get_or mw (get_or o i (start_at 0)).bus nan)) zero64 (length o)

-- a bus is listed by a live branch
unfoldable pub list_live : Bool → List ℕ → ℕ → List ℕ
list_live live l x = cond live (l ++ (x ∷ [])) l

-- what the array holds in the middle of the listing
pub record Listing (l near : List ℕ) (end : ℕ) : Type 0 where
  pub ends : end ≡ min (length l) 1024
  pub entries : near ≡ array_of 1024 0 l

-- what the arrays hold in the middle of a walk: no array has the branches
pub record Reaching (barred : ℕ) (o : List Visit) (seen : List Bool) (bus : List ℕ) (n : ℕ) : Type 0 where
  pub walking : Walking barred o seen bus (filled (map (λ (v : Visit). v.by) o)) n
