-- Ids put into rows one after the other, as a list is gone through: each in front of its row. An id is then found, at some position, if and only if it is among those put in.
use Rattle.std.specs.Prelude.{◌≡◌, refl, Bool, true, false, ◌≢◌, List, [], ◌∷◌, ◌++◌, ℕ, zero, suc, ◌+◌, ◌≤◌, ◌<◌, ltb, length, get_or, set, replicate}
use Rattle.std.proofs.Common.{sym, ◌∙◌, true≢false, arith, length-set, get_or-set_same, get_or-set_other, lt-ltb, le-ltb, eq-eqb, ne_eqb, ltb-true}
use Rattle.std.proofs.Math.Bool.{or-true, or-false}
use Rattle.std.proofs.Math.Decide.{ℕ_discrete}
use Rattle.std.proofs.lemmas.List.{length-replicate, get_or-replicate}
use Rattle.numbers.specs.Choose.{among}
use Rattle.numbers.specs.ChooseLaws.{among_more}
use Rattle.ids.specs.declared.rows.IdRows.{IdRows}
use Rattle.ids.specs.Ids.{bucket_of, put_at, seek, position_of}
use Rattle.ids.specs.IdLaws.{bucket_small, seek_end, seek_here, seek_on}

-- what a row leads to: one of the first i positions, or none
abbrev InRow : ℕ → ℕ → Type 0
InRow i h = h < 512 → h < i

-- the rows have the ids of the list, i of them
pub record Holding (i : ℕ) (l ids first next : List ℕ) : Type 0 where
  pub ids_long : length ids ≡ 512
  pub first_long : length first ≡ 256
  pub next_long : length next ≡ 512
  firsts : (row : ℕ) → row < 256 → InRow i (get_or first row 0)
  nexts : (q : ℕ) → q < i → InRow i (get_or next q 0)
  found : (x none n : ℕ) → i ≤ n → among x l ≡ true → seek ids next none x n (get_or first (bucket_of x) 0) < i
  lost : (x none n : ℕ) → i ≤ n → among x l ≡ false → seek ids next none x n (get_or first (bucket_of x) 0) ≡ none

pub none_held : Holding 0 [] (replicate 512 0) (replicate 256 512) (replicate 512 512)
unfolding among
none_held =
    record {
      ids_long = length-replicate {A = ℕ} 512 0;
      first_long = length-replicate {A = ℕ} 256 512;
      next_long = length-replicate {A = ℕ} 512 512;
      firsts = λ row h k. absurd (omega (arith, get_or-replicate {A = ℕ} 256 row 512 0 h));
      nexts = λ q h k. absurd (omega arith);
      found = λ x none n h e. absurd (true≢false (sym e));
      lost = λ x none n h e. rw (get_or-replicate {A = ℕ} 256 (bucket_of x) 512 0 (bucket_small x)) (seek_end (replicate 512 0) (replicate 512 512) none x n 512 (omega arith));
    }

-- stores at a position that no row leads to
seek_unput : (ids next : List ℕ) (none x i y z : ℕ) → ((q : ℕ) → q < i → InRow i (get_or next q 0)) → (n h : ℕ) → InRow i h
    → seek (set ids i y) (set next i z) none x n h ≡ seek ids next none x n h
unfolding seek
seek_unput ids next none x i y z nexts zero h within = refl
seek_unput ids next none x i y z nexts (suc n) h within = go (ltb h 512) refl (seek_unput ids next none x i y z nexts n (get_or next h 0))
  where
    go : (b : Bool) → ltb h 512 ≡ b → (InRow i (get_or next h 0) → seek (set ids i y) (set next i z) none x n (get_or next h 0) ≡ seek ids next none x n (get_or next h 0))
        → seek (set ids i y) (set next i z) none x (suc n) h ≡ seek ids next none x (suc n) h
    go false e ih = rw e
    go true e ih =
        let small = within (ltb-true h 512 e) in
        rw (get_or-set_other ids i h y 0 (omega arith), get_or-set_other next i h z 0 (omega arith), ih (nexts h small))

module _ {i : ℕ} {l ids first next : List ℕ} (held : Holding i l ids first next) (room : i < 512) (y : ℕ) where
  abbrev ids' : List ℕ
  ids' = set ids i y

  abbrev first' : List ℕ
  first' = set first (bucket_of y) i

  abbrev next' : List ℕ
  next' = set next i (get_or first (bucket_of y) 0)

  own_id : get_or ids' i 0 ≡ y
  own_id = get_or-set_same ids i y 0 (omega (arith, held.ids_long))

  own_first : get_or first' (bucket_of y) 0 ≡ i
  own_first = get_or-set_same first (bucket_of y) i 0 (rw held.first_long (bucket_small y))

  own_next : get_or next' i 0 ≡ get_or first (bucket_of y) 0
  own_next = get_or-set_same next i (get_or first (bucket_of y) 0) 0 (omega (arith, held.next_long))

  own_found : (none m : ℕ) → seek ids' next' none y (suc m) (get_or first' (bucket_of y) 0) ≡ i
  own_found none m = rw own_first (seek_here ids' next' none y m i room own_id)

  -- another id is found, or not, as before
  other : (P : ℕ → Type 0) (x none m : ℕ) → y ≢ x → i ≤ m → ((n : ℕ) → i ≤ n → P (seek ids next none x n (get_or first (bucket_of x) 0)))
      → P (seek ids' next' none x (suc m) (get_or first' (bucket_of x) 0))
  other P x none m ne k before = go (ℕ_discrete (bucket_of x) (bucket_of y))
    where
      unput : (n h : ℕ) → InRow i h → seek ids' next' none x n h ≡ seek ids next none x n h
      unput = seek_unput ids next none x i y (get_or first (bucket_of y) 0) held.nexts

      go : Dec (bucket_of x ≡ bucket_of y) → P (seek ids' next' none x (suc m) (get_or first' (bucket_of x) 0))
      go (yes d) =
          rw (d, own_first, seek_on ids' next' none x m i room (λ e. ne (sym own_id ∙ e)), own_next, unput m (get_or first (bucket_of y) 0) (held.firsts (bucket_of y) (bucket_small y)))
          (rw d at (before m k))
      go (no d) =
          rw (get_or-set_other first (bucket_of y) (bucket_of x) i 0 d, unput (suc m) (get_or first (bucket_of x) 0) (held.firsts (bucket_of x) (bucket_small x)))
          (before (suc m) (omega arith))

  old : (x : ℕ) → y ≢ x → among x (l ++ (y ∷ [])) ≡ among x l
  old x ne = among_more x y l ∙ rw (ne_eqb x y (λ e. ne (sym e)), or-false)

  found_more : (x none n : ℕ) → i + 1 ≤ n → among x (l ++ (y ∷ [])) ≡ true → seek ids' next' none x n (get_or first' (bucket_of x) 0) < i + 1
  found_more x none zero h a = absurd (omega arith)
  found_more x none (suc m) h a = go (ℕ_discrete y x)
    where
      go : Dec (y ≡ x) → seek ids' next' none x (suc m) (get_or first' (bucket_of x) 0) < i + 1
      go (yes e) = rw (← e, own_found none m) (omega arith)
      go (no ne) = other (λ p. p < i + 1) x none m ne (omega arith) (λ n k. omega (arith, held.found x none n k (sym (old x ne) ∙ a)))

  lost_more : (x none n : ℕ) → i + 1 ≤ n → among x (l ++ (y ∷ [])) ≡ false → seek ids' next' none x n (get_or first' (bucket_of x) 0) ≡ none
  lost_more x none zero h a = absurd (omega arith)
  lost_more x none (suc m) h a = go (ℕ_discrete y x)
    where
      go : Dec (y ≡ x) → seek ids' next' none x (suc m) (get_or first' (bucket_of x) 0) ≡ none
      go (yes e) = absurd (true≢false (sym (among_more x y l ∙ rw (eq-eqb x y (sym e), or-true)) ∙ a))
      go (no ne) = other (λ p. p ≡ none) x none m ne (omega arith) (λ n k. held.lost x none n k (sym (old x ne) ∙ a))

  -- one id more
  pub one_held : Holding (i + 1) (l ++ (y ∷ [])) ids' first' next'
  one_held =
      record {
        ids_long = simp length-set held.ids_long;
        first_long = simp length-set held.first_long;
        next_long = simp length-set held.next_long;
        firsts = λ row h. firsts_more row h (ℕ_discrete row (bucket_of y));
        nexts = λ q h. nexts_more q h (ℕ_discrete q i);
        found = found_more;
        lost = lost_more;
      }
    where
      firsts_more : (row : ℕ) → row < 256 → Dec (row ≡ bucket_of y) → InRow (i + 1) (get_or first' row 0)
      firsts_more row h (yes e) k = rw (e, own_first) (omega arith)
      firsts_more row h (no d) k =
          let e = get_or-set_other first (bucket_of y) row i 0 d in
          rw e (omega (arith, held.firsts row h (rw e at k)))

      nexts_more : (q : ℕ) → q < i + 1 → Dec (q ≡ i) → InRow (i + 1) (get_or next' q 0)
      nexts_more q h (yes e) k =
          let small : get_or first (bucket_of y) 0 < i = held.firsts (bucket_of y) (bucket_small y) (rw (e, own_next) at k) in
          rw (e, own_next) (omega arith)
      nexts_more q h (no d) k =
          let e = get_or-set_other next i q (get_or first (bucket_of y) 0) 0 d in
          rw e (omega (arith, held.nexts q (omega arith) (rw e at k)))

-- the same of rows into which an id was put
pub put_held : {i : ℕ} {l : List ℕ} {r : IdRows} → Holding i l r.ids r.first r.next → i < 512 → (y : ℕ) (more : IdRows) → more ≡ put_at i y r
    → Holding (i + 1) (l ++ (y ∷ [])) more.ids more.first more.next
put_held held room y more e = rw e (one_held held room y)

-- an id that is looked up among so many, no fewer than were put in
pub put_before : {i : ℕ} {l ids first next : List ℕ} → Holding i l ids first next → (count x p : ℕ) → i ≤ count → p ≡ position_of ids first next count x → ltb p i ≡ among x l
unfolding position_of
put_before {i} {l} held count x p h q = go (among x l) refl
  where
    go : (b : Bool) → among x l ≡ b → ltb p i ≡ b
    go true e = lt-ltb p i (rw q (held.found x count count h e))
    go false e = le-ltb p i (rw (q, held.lost x count count h e) h)
