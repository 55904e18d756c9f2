-- Buses listed one by one, and entered from their list: from the stores of the code to the lists.
use mathlib.Core.Path.{◌≡◌, refl, sym, ◌∙◌}
use mathlib.Core.Bool.{Bool, true, false, cond}
use mathlib.Core.List.{List, [], ◌∷◌, ◌++◌, append-nil, append_assoc}
use Prim.Native.Nat.{ℕ, zero, suc, ◌+◌, ◌-◌, ◌/◌, ◌<◌, ◌≤◌, min}
use native.Mathlib.Omega.{arith}
use borrow.Author.Tests.{le-ltb}
use lib.Dec.{ltb}
use lib.ListN.{get_or, set, replicate, length-append}
use Rattle.numbers.specs.UpTo.{up_to, table}
use Rattle.numbers.specs.Arrays.{beside, array_more}
use Rattle.numbers.specs.TableLaws.{table_more, table_cong, replicate_table, filled, filled_more}
use Rattle.graph.specs.declared.rows.Graph.{Graph}
use Rattle.graph.specs.Walk.{Visit, enter, enter_all}
use Rattle.graph.specs.Visits.{visit, buses_of}
use Rattle.graph.specs.Rows.{row_from, leads, row_leads}
use Rattle.bfs.proofs.Along.{along, Along, one_along}
use Rattle.bfs.proofs.Along as Along
use Rattle.lists.specs.declared.lists.LiveLists.{LiveLists}
use Rattle.lists.specs.declared.lists.Entries.{Entries}
use Rattle.lists.specs.declared.lists.Reached.{Reached}
use Rattle.lists.specs.Lists.{lists_to, list_start, lists_of, live_lists, list_from, listed, list_live}
use Rattle.lists.specs.Held.{Listed, Reaches}
use Rattle.lists.specs.ListLaws.{lists_more}

-- ---- one bus
module _ (live : Bool) (x : ℕ) {e : Entries} where
  pub dead_stays : live ≡ false → (l : List ℕ) → Listed l e → Listed (list_live live l x) e
  unfolding list_live
  dead_stays f l w = rw f w

  -- there is no room
  pub full_stays : live ≡ true → 1024 ≤ e.end → (l : List ℕ) → Listed l e → Listed (list_live live l x) e
  unfolding list_live
  full_stays t h l w =
      rw t
      record {
        ends = rw length-append (omega (arith, w.ends));
        entries = w.entries ∙ table_cong _ _ 1024 (λ i k. beside 0 l x i (omega (arith, w.ends)));
      }

  pub one_listed : (at : ℕ) → at ≡ e.end → live ≡ true → at < 1024 → (l : List ℕ) → Listed l e → Listed (list_live live l x) (record { near = set e.near at x; end = e.end + 1 })
  unfolding list_live
  one_listed at a t h l w =
      rw t
      record {
        ends = rw length-append (omega (arith, w.ends));
        entries = rw w.entries (array_more 1024 0 l x at (omega (arith, w.ends)) h);
      }

-- ---- a row
module _ (far : List ℕ) (live : List Bool) where
  -- what half-branch h leads to is listed
  abbrev list_half : List ℕ → ℕ → List ℕ
  list_half l h = list_live (get_or live (h / 2) false) l (get_or far h 0)

  all_listed : (row l : List ℕ) → along list_half l row ≡ l ++ buses_of (leads far live row)
  unfolding along leads list_live
  all_listed [] l = sym (append-nil l)
  all_listed (h ∷ row) l = all_listed row (list_half l h) ∙ go (get_or live (h / 2) false)
    where
      go : (b : Bool) → list_live b l (get_or far h 0) ++ buses_of (leads far live row)
          ≡ l ++ buses_of (cond b (record { bus = get_or far h 0; by = h / 2 } ∷ leads far live row) (leads far live row))
      go true = append_assoc l (get_or far h 0 ∷ []) (buses_of (leads far live row))
      go false = refl

  module _ (next : List ℕ) (first : ℕ) (before : Entries) where
    pub record RowListing (e : Entries) (h i : ℕ) : Type 0 where
      pub loop : Along list_half next first (λ l. Listed l before) (λ l. Listed l e) h i

    pub none_listed : RowListing before first 0
    none_listed = record { loop = Along.none_along list_half next first (λ l. Listed l before) }

    module _ {e : Entries} {h i : ℕ} (r : RowListing e h i) where
      pub half_listed : {e' : Entries} (half : ℕ) → i < 1024 → h < 1024 → half ≡ h
          → ((l : List ℕ) → Listed l e → Listed (list_live (get_or live (half / 2) false) l (get_or far half 0)) e')
          → RowListing e' (get_or next half 0) (i + 1)
      half_listed {e'} half li lh p step = record { loop = rw p (one_along list_half next first _ r.loop (λ l. Listed l e') li lh (rw p at step)) }

      pub row_ended : 1024 ≤ h → (l : List ℕ) → Listed l before → Listed (l ++ buses_of (leads far live (row_from next 1024 first))) e
      row_ended k l w = rw (← all_listed (row_from next 1024 first) l) (Along.row_ended list_half next first _ r.loop k l w)

      pub row_cut : 1024 ≤ i → (l : List ℕ) → Listed l before → Listed (l ++ buses_of (leads far live (row_from next 1024 first))) e
      row_cut k l w = rw (← all_listed (row_from next 1024 first) l) (Along.row_cut list_half next first _ r.loop k l w)

-- ---- all rows
none_begins : (start : ℕ → ℕ) → start 0 ≡ 0 → (j : ℕ) → 0 ≡ cond (ltb j 1) (start j) 0
none_begins start z zero = sym z
none_begins start z (suc j) = rw (le-ltb (suc j) 1 (omega arith))

module _ (far first next : List ℕ) (live : List Bool) where
  abbrev row : ℕ → List ℕ
  row u = buses_of (row_leads far first next live u)

  -- the lists of the first u buses
  pub record Rowing (at : List ℕ) (e : Entries) (u : ℕ) : Type 0 where
    pub listing : Listed (lists_to row u) e
    pub begins : at ≡ filled (list_start row) 0 257 (u + 1)

  pub none_rowed : Rowing (replicate 257 0) (record { near = replicate 1024 0; end = 0 }) 0
  unfolding lists_to up_to filled list_start
  none_rowed =
      record {
        listing = record { ends = refl; entries = replicate_table 0 1024 };
        begins = replicate_table 0 257 ∙ table_cong _ _ 257 (λ j l. none_begins (list_start row) refl j);
      }

  module _ {at : List ℕ} {e : Entries} {u : ℕ} (r : Rowing at e u) where
    pub one_rowed : {e' : Entries} → u < 256
        → ((l : List ℕ) → Listed l e → Listed (l ++ buses_of (leads far live (row_from next 1024 (get_or first u 0)))) e')
        → Rowing (set at (u + 1) e'.end) e' (u + 1)
    unfolding row_leads list_start
    one_rowed {e'} l step =
        let more : lists_to row (u + 1) ≡ lists_to row u ++ row u = lists_more row u in
        let w : Listed (lists_to row (u + 1)) e' = rw more (step (lists_to row u) r.listing) in
        record { listing = w; begins = rw (r.begins, w.ends) (filled_more (list_start row) 0 257 (u + 1) (omega arith)) }

pub all_rowed : (g : Graph) (live : List Bool) {at : List ℕ} {e : Entries} {u : ℕ} → Rowing g.far g.first g.next live at e u → u ≡ min g.bus_count 256
    → ◌≡◌ {A = LiveLists} (record { at = at; near = e.near }) (live_lists g live)
unfolding live_lists lists_of
all_rowed g live r q = rw (r.begins, r.listing.entries, q)

-- ---- a list entered
enter_last : (barred : ℕ) (l o : List Visit) (v : Visit) → enter_all barred o (l ++ (v ∷ [])) ≡ enter barred (enter_all barred o l) v
unfolding enter_all
enter_last barred [] o v = refl
enter_last barred (w ∷ l) o v = enter_last barred l (enter barred o w) v

module _ (near : List ℕ) (first last barred : ℕ) (before : Reached) where
  -- the buses from position first to before position i are entered
  pub record ListEntering (r : Reached) (i : ℕ) : Type 0 where
    pub within : i - first ≤ last - first
    pub done : (o : List Visit) → Reaches barred o before → Reaches barred (enter_all barred o (table (λ j. visit (get_or near (first + j) 0) 0) (i - first))) r

  pub none_entered : ListEntering before first
  unfolding enter_all table
  none_entered =
      let none : first - first ≡ 0 = omega arith in
      record { within = omega arith; done = λ o w. rw none w }

  module _ {r : Reached} {i : ℕ} (e : ListEntering r i) (from : first ≤ i) where
    pub one_entered : {r' : Reached} → i < last
        → ((o : List Visit) → Reaches barred o r → Reaches barred (enter barred o (visit (get_or near i 0) 0)) r')
        → ListEntering r' (i + 1)
    one_entered l step =
        let w = e.within in
        let more : i + 1 - first ≡ i - first + 1 = omega arith in
        let here : first + (i - first) ≡ i = omega arith in
        record { within = omega arith; done = λ o w. rw (more, table_more _ (i - first), enter_last, here) (step _ (e.done o w)) }

    -- all of bus u's list
    pub all_entered : (at : List ℕ) (u x next : ℕ) → x ≡ u → first ≡ get_or at x 0 → next ≡ get_or at (x + 1) 0 → last ≡ min next 1024 → last ≤ i
        → (o : List Visit) → Reaches barred o before → Reaches barred (enter_all barred o (listed at near u)) r
    unfolding listed list_from
    all_entered at u x next p q s t h o w =
        let l = e.within in
        let end : min next 1024 - first ≡ i - first = omega arith in
        rw (← p, ← s, ← q, end) (e.done o w)
