-- An id in rows is found at its first position. The rows are made from the last position to the first: with the positions from p on in them, an id is
-- found at its first position from p on, for a row rises, and a position that is put in stands below all others.
use Rattle.std.specs.Prelude.{◌≡◌, Bool, true, false, cond, ◌≢◌, List, map, ltb, take, drop, set, replicate}
use Rattle.std.proofs.Math.Path.{refl, sym}
use Rattle.std.proofs.Common.{ap, ◌∙◌, zero-add, length-take, get_or-set_other, get_or-take}
use Prim.Native.Nat.{ℕ, zero, suc, ◌+◌, ◌-◌, ◌≤◌, ◌<◌, min}
use Rattle.std.proofs.Math.Decide.{ℕ_discrete}
use Rattle.std.proofs.Math.Nat.{add-zero}
use native.Mathlib.Omega.{arith}
use Rattle.std.proofs.Math.ListN.{length, get_or, get_or-map, drop_of_length-le, length-set, length-replicate, get_or-eq_default}
use Rattle.std.proofs.lemmas.List.{length-map, get_or-replicate}
use Rattle.std.proofs.Math.Seq.{get_or-set_same}
use borrow.Author.Tests.{lt-ltb, le-ltb, eq-eqb, ne_eqb, ltb-true, ltb-false}
use Rattle.numbers.specs.UpTo.{up_to, up_to_more, table}
use Rattle.numbers.specs.TableLaws.{get_or_table, replicate_table, table_cong, table_set, filled, filled_none, filled_more, filled_all}
use Rattle.numbers.specs.Choose.{index_of}
use Rattle.numbers.specs.ChooseLaws.{index_here, index_behind}
use Rattle.numbers.specs.Parts.{take_within}
use Rattle.ids.specs.declared.rows.IdRows.{IdRows}
use Rattle.ids.specs.Ids.{bucket_of, id_array, rows, no_rows, put_at, put_id, rows_from, id_rows, seek, position_of}

pub bucket_small : (id : ℕ) → bucket_of id < 256
unfolding bucket_of
bucket_small id = omega arith

-- ---- along a row: it ends, has the id, or goes on
module _ (ids next : List ℕ) (none id : ℕ) where
  pub seek_end : (n h : ℕ) → 512 ≤ h → seek ids next none id n h ≡ none
  unfolding seek
  seek_end zero h l = refl
  seek_end (suc n) h l = rw (le-ltb h 512 l)

  pub seek_here : (n h : ℕ) → h < 512 → get_or ids h 0 ≡ id → seek ids next none id (suc n) h ≡ h
  unfolding seek
  seek_here n h l e = rw (lt-ltb h 512 l, eq-eqb (get_or ids h 0) id e)

  pub seek_on : (n h : ℕ) → h < 512 → get_or ids h 0 ≢ id → seek ids next none id (suc n) h ≡ seek ids next none id n (get_or next h 0)
  unfolding seek
  seek_on n h l e = rw (lt-ltb h 512 l, ne_eqb (get_or ids h 0) id e)

  -- what is left after i positions of a row
  module _ (first : List ℕ) where
    pub record Seeking (h i : ℕ) : Type 0 where
      pub within : i ≤ none
      pub rest : seek ids next none id (none - i) h ≡ position_of ids first next none id

    pub seek_starts : (h row : ℕ) → row ≡ bucket_of id → h ≡ get_or first row 0 → Seeking h 0
    unfolding position_of
    seek_starts h row e f = let z : none - 0 ≡ none = omega arith in record { within = omega arith; rest = rw (z, f, e) }

    module _ {h i : ℕ} (s : Seeking h i) where
      pub none_found : 512 ≤ h → none ≡ position_of ids first next none id
      none_found l = sym (seek_end (none - i) h l) ∙ s.rest

      pub all_sought : none ≤ i → none ≡ position_of ids first next none id
      unfolding seek
      all_sought l = let e : none - i ≡ 0 = omega arith in rw e at s.rest

      module _ (t : i < none) (l : h < 512) where
        rest_more : seek ids next none id (suc (none - (i + 1))) h ≡ position_of ids first next none id
        rest_more = let e : none - i ≡ suc (none - (i + 1)) = omega arith in rw e at s.rest

        pub found_here : get_or ids h 0 ≡ id → h ≡ position_of ids first next none id
        found_here f = sym (seek_here (none - (i + 1)) h l f) ∙ rest_more

        pub sought_one : (after : ℕ) → get_or ids h 0 ≢ id → after ≡ get_or next h 0 → Seeking after (i + 1)
        sought_one after f e = record { within = omega arith; rest = rw e (sym (seek_on (none - (i + 1)) h l f) ∙ rest_more) }

-- a store below a row that rises does not touch it
seek_apart : (ids next : List ℕ) (none id p y : ℕ) → ((q : ℕ) → p < q → q < 512 → q < get_or next q 0) → (n h : ℕ) → p < h
    → seek ids (set next p y) none id n h ≡ seek ids next none id n h
unfolding seek
seek_apart ids next none id p y rising zero h l = refl
seek_apart ids next none id p y rising (suc n) h l = go (ltb h 512) refl (seek_apart ids next none id p y rising n (get_or next h 0))
  where
    go : (b : Bool) → ltb h 512 ≡ b → (p < get_or next h 0 → seek ids (set next p y) none id n (get_or next h 0) ≡ seek ids next none id n (get_or next h 0))
        → seek ids (set next p y) none id (suc n) h ≡ seek ids next none id (suc n) h
    go false e ih = rw (e, seek)
    go true e ih =
        let r = rising h l (ltb-true h 512 e) in
        rw (get_or-set_other next p h y 0 (omega arith), ih (omega arith))

-- ---- the rows with the positions from p on
module _ (l : List ℕ) (short : length l ≤ 512) where
  record Held (p : ℕ) (r : IdRows) : Type 0 where
    ids_are : r.ids ≡ id_array l
    first_long : length r.first ≡ 256
    next_long : length r.next ≡ 512
    above : (row : ℕ) → row < 256 → p ≤ get_or r.first row 0
    rising : (q : ℕ) → p ≤ q → q < 512 → q < get_or r.next q 0
    finds : (x n : ℕ) → length l - p ≤ n → seek r.ids r.next (length l) x n (get_or r.first (bucket_of x) 0) ≡ p + index_of x (drop p l)

  none_held : Held (length l) (rows (id_array l) (replicate 256 512) (replicate 512 512))
  unfolding index_of
  none_held =
      record {
        ids_are = refl;
        first_long = length-replicate {A = ℕ} 256 512;
        next_long = length-replicate {A = ℕ} 512 512;
        above = λ row h. rw (get_or-replicate {A = ℕ} 256 row 512 0 h) short;
        rising = λ q h k. rw (get_or-replicate {A = ℕ} 512 q 512 0 k) k;
        finds = λ x n h.
            rw (get_or-replicate {A = ℕ} 256 (bucket_of x) 512 0 (bucket_small x), drop_of_length-le l {i = length l} (omega arith), add-zero (length l))
            (seek_end (id_array l) (replicate 512 512) (length l) x n 512 (omega arith));
      }

  -- one position more
  module _ (p : ℕ) (small : p < length l) (r : IdRows) (held : Held (p + 1) r) where
    abbrev own : ℕ
    own = get_or r.ids p 0

    own_is : own ≡ get_or l p 0
    own_is = rw held.ids_are (get_or_table (λ i. get_or l i 0) 512 p 0 (omega arith))

    own_row : bucket_of own < length r.first
    own_row = rw held.first_long (bucket_small own)

    -- the position that it is put in front of
    abbrev follower : ℕ
    follower = get_or r.first (bucket_of own) 0

    follower_above : p < follower
    follower_above = omega (arith, held.above (bucket_of own) (bucket_small own))

    follower_next : get_or (set r.next p follower) p 0 ≡ follower
    follower_next = get_or-set_same r.next p follower 0 (omega (arith, held.next_long))

    -- another id is found where it was found
    apart : (x n h : ℕ) → p < h → own ≢ x → seek r.ids r.next (length l) x n h ≡ p + 1 + index_of x (drop (p + 1) l)
        → seek r.ids (set r.next p follower) (length l) x n h ≡ p + index_of x (drop p l)
    apart x n h k ne e =
        seek_apart r.ids r.next (length l) x p follower (λ q a b. held.rising q (omega arith) b) n h k
        ∙ e
        ∙ sym (index_behind x l p small (λ q. ne (own_is ∙ q)))

    one_finds : (x n : ℕ) → length l - p ≤ n
        → seek r.ids (set r.next p follower) (length l) x n (get_or (set r.first (bucket_of own) p) (bucket_of x) 0) ≡ p + index_of x (drop p l)
    one_finds x zero h = absurd (omega arith)
    one_finds x (suc n) h = go (ℕ_discrete own x) (ℕ_discrete (bucket_of x) (bucket_of own))
      where
        go : Dec (own ≡ x) → Dec (bucket_of x ≡ bucket_of own)
            → seek r.ids (set r.next p follower) (length l) x (suc n) (get_or (set r.first (bucket_of own) p) (bucket_of x) 0) ≡ p + index_of x (drop p l)
        go (yes e) (no d) = absurd (d (ap bucket_of (sym e)))
        go (yes e) (yes d) =
            rw (d, get_or-set_same r.first (bucket_of own) p 0 own_row)
            (seek_here _ _ _ _ n p (omega arith) e ∙ sym (index_here x l p small (sym own_is ∙ e)))
        go (no e) (yes d) =
            rw (d, get_or-set_same r.first (bucket_of own) p 0 own_row)
            (seek_on _ _ _ _ n p (omega arith) e ∙ rw follower_next (apart x n follower follower_above e (rw (← d) (held.finds x n (omega arith)))))
        go (no e) (no d) =
            rw (get_or-set_other r.first (bucket_of own) (bucket_of x) p 0 d)
            (apart x (suc n) (get_or r.first (bucket_of x) 0) (omega (arith, held.above (bucket_of x) (bucket_small x))) e (held.finds x (suc n) (omega arith)))

    one_held : Held p (put_id p r)
    unfolding put_id
    one_held =
        record {
          ids_are = held.ids_are;
          first_long = simp length-set held.first_long;
          next_long = simp length-set held.next_long;
          above = λ row h. row_above row h (ℕ_discrete row (bucket_of own));
          rising = λ q h k. next_above q h k (ℕ_discrete q p);
          finds = one_finds;
        }
      where
        row_above : (row : ℕ) → row < 256 → Dec (row ≡ bucket_of own) → p ≤ get_or (set r.first (bucket_of own) p) row 0
        row_above row h (yes e) = rw (e, get_or-set_same r.first (bucket_of own) p 0 own_row) (omega arith)
        row_above row h (no n) = rw (get_or-set_other r.first (bucket_of own) row p 0 n) (omega (arith, held.above row h))

        next_above : (q : ℕ) → p ≤ q → q < 512 → Dec (q ≡ p) → q < get_or (set r.next p follower) q 0
        next_above q h k (yes e) = rw (e, follower_next) follower_above
        next_above q h k (no n) = rw (get_or-set_other r.next p q follower 0 n) (held.rising q (omega arith) k)

  rows_held : (i : ℕ) → i ≤ length l → Held (length l - i) (rows_from (id_array l) (length l) i)
  unfolding rows_from up_to
  rows_held zero h = let z : length l - 0 ≡ length l = omega arith in rw z none_held
  rows_held (suc i) h =
      let e : length l - suc i ≡ length l - 1 - i = omega arith in
      let d : length l - i ≡ length l - 1 - i + 1 = omega arith in
      rw e (one_held (length l - 1 - i) (omega arith) _ (rw d at (rows_held i (omega arith))))

-- in the rows of at most 512 ids an id is found at its first position
pub position_found : (l : List ℕ) → length l ≤ 512 → (ids first next : List ℕ) → rows ids first next ≡ id_rows l → (count x : ℕ) → count ≡ length l
    → position_of ids first next count x ≡ index_of x l
unfolding id_rows position_of
position_found l short ids first next e count x c =
    let z : length l - length l ≡ 0 = omega arith in
    let h = rw (z, ← e) at (rows_held l short (length l) (omega arith)) in
    rw c (h.finds x (length l) (omega arith) ∙ zero-add (index_of x l))

-- the key at a position of the first n records
key_at : {A : Type 0} (key : A → ℕ) (n : ℕ) (l : List A) (i : ℕ) (d : A) → i < n → get_or (map key (take n l)) i (key d) ≡ key (get_or l i d)
key_at key n l i d h = get_or-map key (take n l) i d ∙ ap key (get_or-take n l i d h)

-- ---- the ids of the first n of a list of records, in an array of the code; a record that is none has the id of none
module _ {A : Type 0} (key : A → ℕ) (none : A) (l : List A) (n : ℕ) where
  -- of the first i
  pub ids_filled : ℕ → List ℕ
  ids_filled i = filled (λ j. get_or (map key (take n l)) j (key none)) (key none) 512 i

  pub no_ids_lem : replicate 512 (key none) ≡ ids_filled 0
  unfolding ids_filled
  no_ids_lem = replicate_table (key none) 512 ∙ filled_none _ (key none) 512

  module _ {ids : List ℕ} (i : ℕ) (e : ids ≡ ids_filled i) where
    pub one_id : i < n → n ≤ 512 → set ids i (key (get_or l i none)) ≡ ids_filled (i + 1)
    unfolding ids_filled
    one_id h k = rw (e, ← key_at key n l i none h) (filled_more _ (key none) 512 i (omega arith))

    pub all_ids : n ≤ i → ids ≡ table (λ j. get_or (map key (take n l)) j (key none)) 512
    unfolding ids_filled
    all_ids h = e ∙ filled_all _ (key none) 512 i (λ j a b. get_or-eq_default (map key (take n l)) (key none) {n = j} (simp (length-map, length-take) (omega arith)))

-- ---- the rows of the listed ones of an array of records, put in from the last position to the first
module _ {A : Type 0} (key : A → ℕ) (none : A) (plain : key none ≡ 0) (l : List A) (n : ℕ) where
  abbrev keys : List ℕ
  keys = map key (take n l)

  short : length keys ≤ n
  short = simp (length-map, length-take) (omega arith)

  -- the ids of the positions from p on
  abbrev from_on : ℕ → List ℕ
  from_on p = table (λ i. cond (ltb i p) 0 (get_or keys i 0)) 512

  pub record Listed (p : ℕ) (r : IdRows) : Type 0 where
    within : p ≤ n
    ids_are : r.ids ≡ from_on p
    rows_are : rows (id_array keys) r.first r.next ≡ rows_from (id_array keys) n (n - p)

  pub none_listed : Listed n no_rows
  unfolding rows_from up_to
  none_listed =
      let z : n - n ≡ 0 = omega arith in
      record {
        within = omega arith;
        ids_are = replicate_table 0 512 ∙ table_cong _ _ 512 (λ i h. unlisted i (ltb i n) refl);
        rows_are = rw z;
      }
    where
      unlisted : (i : ℕ) (b : Bool) → ltb i n ≡ b → 0 ≡ cond b 0 (get_or keys i 0)
      unlisted i true e = refl
      unlisted i false e = let h = ltb-false i n e in sym (get_or-eq_default keys 0 {n = i} (omega (arith, short)))

  -- one position more
  pub one_listed : (p : ℕ) (r : IdRows) → Listed p r → 0 < p → n ≤ 512 → Listed (p - 1) (put_at (p - 1) (key (get_or l (p - 1) none)) r)
  unfolding rows_from put_id
  one_listed p r d some room =
      let h : p - 1 < n = omega (arith, d.within) in
      let own : key (get_or l (p - 1) none) ≡ get_or keys (p - 1) 0 = sym (rw plain at (key_at key n l (p - 1) none h)) in
      let held : get_or (id_array keys) (p - 1) 0 ≡ get_or keys (p - 1) 0 = get_or_table _ 512 (p - 1) 0 (omega arith) in
      let i : n - (p - 1) ≡ n - p + 1 = omega arith in
      let back : n - 1 - (n - p) ≡ p - 1 = omega arith in
      record {
        within = omega arith;
        ids_are =
            rw (own, d.ids_are)
            (table_set _ _ 512 (p - 1) _ (omega arith) (rw (le-ltb (p - 1) (p - 1) (omega arith))) (λ j k m. ap (λ b. cond b 0 (get_or keys j 0)) (same j m)));
        rows_are = rw (i, up_to_more, ← d.rows_are, back, held, own);
      }
    where
      same : (j : ℕ) → j ≢ p - 1 → ltb j p ≡ ltb j (p - 1)
      same j m = go (ltb j p) refl
        where
          go : (b : Bool) → ltb j p ≡ b → ltb j p ≡ ltb j (p - 1)
          go true e = let h = ltb-true j p e in e ∙ sym (lt-ltb j (p - 1) (omega arith))
          go false e = let h = ltb-false j p e in e ∙ sym (le-ltb j (p - 1) (omega arith))

  pub all_listed : (r : IdRows) (count size : ℕ) → length l ≡ size → n ≡ min count size → Listed 0 r → r ≡ id_rows (map key (take count l))
  unfolding id_rows
  all_listed r count size e m d =
      let listed : take n l ≡ take count l = rw (m, ← e) (take_within count l) in
      let long : length (map key (take count l)) ≡ n = simp (length-map, length-take) (omega arith) in
      let whole : r.ids ≡ id_array keys = d.ids_are ∙ table_cong _ _ 512 (λ i h. ap (λ b. cond b 0 (get_or keys i 0)) (le-ltb i 0 (omega arith))) in
      let z : n - 0 ≡ n = omega arith in
      ap (λ (ids : List ℕ). rows ids r.first r.next) whole ∙ (rw z at d.rows_are) ∙ rw (long, listed)
