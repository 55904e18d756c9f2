-- The rows give document 01's neighbours: a branch that has no end at a bus adds nothing to its scan, and is not in its row.
use Rattle.std.specs.Prelude.{◌≡◌, Bool, eqb, ltb, length}
use Rattle.std.proofs.Math.Path.{refl, sym, ap}
use Rattle.std.proofs.Common.{◌∙◌, arith, add-zero, lt-ltb, le-ltb}
use Rattle.std.proofs.Math.Bool.{true, false, cond}
use mathlib.Core.List.{List, [], ◌∷◌, ◌++◌, append-nil, append_assoc}
use Prim.Native.Nat.{ℕ, zero, suc, ◌+◌, ◌*◌, ◌/◌, ◌<◌, ◌≤◌}
use Rattle.std.proofs.Math.ListN.{get_or, get_or-eq_default}
use Rattle.numbers.specs.UpTo.{up_to, up_to_cong, up_to_idle}
use Rattle.graph.specs.Walk.{Visit, neighbours}
use Rattle.graph.specs.Walk as walk
use Rattle.graph.specs.Rows.{flag, net_of, far_of, graph_of, leads, row_leads, row_neighbours}
use Rattle.graph.specs.RowsHold.{half_at, halves_from, rows_hold, even_half, odd_half, FarIs, far_hold}

-- lists put one behind the other
concat_from : {A : Type 0} → (ℕ → List A) → ℕ → ℕ → List A
concat_from g zero k = []
concat_from g (suc d) k = g k ++ concat_from g d (suc k)

up_to_concat : {A : Type 0} (g : ℕ → List A) (d k : ℕ) → up_to (λ l i. l ++ g i) [] k ++ concat_from g d k ≡ up_to (λ l i. l ++ g i) [] (k + d)
unfolding concat_from up_to
up_to_concat g zero k = rw (append-nil, add-zero)
up_to_concat g (suc d) k =
    let e : suc k + d ≡ k + suc d = omega arith in
    rw (← append_assoc) (rw e at (up_to_concat g d (suc k)))

module _ (n m : ℕ) (from to : List ℕ) (live : List Bool) (u : ℕ) where
  -- what branch k adds to the neighbours
  share : ℕ → List Visit
  share k = cond (ltb k m) (cond (get_or live k false) (walk.far (net_of n m from to) u k) []) []

  half_leads : (others : List ℕ) (k : ℕ) (l : List ℕ) → FarIs others k (get_or from k 0) (get_or to k 0)
      → leads others live (cond (ltb k m) (half_at (get_or from k 0) (get_or to k 0) u k) [] ++ l) ≡ share k ++ leads others live l
  unfolding share leads walk.far
  half_leads others k l f = go (ltb k m) (eqb (get_or from k 0) u) (eqb (get_or to k 0) u)
    where
      lead : (h x : ℕ) → h / 2 ≡ k → get_or others h 0 ≡ x → leads others live (h ∷ l) ≡ cond (get_or live k false) (record { bus = x; by = k } ∷ []) [] ++ leads others live l
      lead h x e p = rw (e, p) (either (get_or live k false))
        where
          either : (b : Bool) → cond b (record { bus = x; by = k } ∷ leads others live l) (leads others live l) ≡ cond b (record { bus = x; by = k } ∷ []) [] ++ leads others live l
          either true = refl
          either false = refl

      go : (a b c : Bool)
          → leads others live (cond a (cond b ((2 * k) ∷ []) (cond c ((2 * k + 1) ∷ []) [])) [] ++ l)
          ≡ cond a (cond (get_or live k false) (cond b (record { bus = get_or to k 0; by = k } ∷ []) (cond c (record { bus = get_or from k 0; by = k } ∷ []) [])) []) [] ++ leads others live l
      go false b c = refl
      go true true c = lead (2 * k) (get_or to k 0) (even_half k) f.0
      go true false true = lead (2 * k + 1) (get_or from k 0) (odd_half k) f.1
      go true false false = none (get_or live k false)
        where
          none : (b : Bool) → leads others live l ≡ cond b [] [] ++ leads others live l
          none true = refl
          none false = refl

  row_shares : (others : List ℕ) (d k : ℕ) → ((j : ℕ) → k ≤ j → j < k + d → FarIs others j (get_or from j 0) (get_or to j 0))
      → leads others live (halves_from m from to u d k) ≡ concat_from share d k
  unfolding leads halves_from concat_from
  row_shares others zero k f = refl
  row_shares others (suc d) k f =
      half_leads others k (halves_from m from to u d (suc k)) (f k (omega arith) (omega arith))
      ∙ ap (λ (l : List Visit). share k ++ l) (row_shares others d (suc k) (λ j a b. f j (omega arith) (omega arith)))

  share_past_m : (k : ℕ) → m ≤ k → share k ≡ []
  unfolding share
  share_past_m k h = rw (le-ltb k m h)

  share_past_live : length live ≤ 512 → (k : ℕ) → 512 ≤ k → share k ≡ []
  unfolding share
  share_past_live s k h =
      let e : get_or live k false ≡ false = get_or-eq_default live false (omega arith) in
      rw e (either (ltb k m))
    where
      either : (b : Bool) → cond {A = List Visit} b [] [] ≡ []
      either true = refl
      either false = refl

  share_below : (l : List Visit) (k : ℕ) → k < m → cond (get_or live k false) (l ++ walk.far (net_of n m from to) u k) l ≡ l ++ share k
  unfolding share
  share_below l k h = rw (lt-ltb k m h) (either (get_or live k false))
    where
      either : (b : Bool) → cond b (l ++ walk.far (net_of n m from to) u k) l ≡ l ++ cond b (walk.far (net_of n m from to) u k) []
      either true = refl
      either false = sym (append-nil l)

  -- the definition's scan, with the shares of as many branches as there are flags
  scan_shares : length live ≤ 512 → neighbours (net_of n m from to) (flag live) u ≡ up_to (λ l k. l ++ share k) [] 512
  unfolding neighbours
  scan_shares s =
      up_to_cong _ (λ l k. l ++ share k) [] m (λ l k h. share_below l k h)
      ∙ sym (up_to_idle (λ l k. l ++ share k) [] m (m + 512) (omega arith) (λ k a b. rw (share_past_m k a) (append-nil _)))
      ∙ up_to_idle (λ l k. l ++ share k) [] 512 (m + 512) (omega arith) (λ k a b. rw (share_past_live s k a) (append-nil _))

  pub rows_are_neighbours : u < 256 → length live ≤ 512 → row_neighbours (graph_of n m from to) live u ≡ neighbours (net_of n m from to) (flag live) u
  unfolding graph_of row_leads up_to
  rows_are_neighbours small s =
      ap (λ (l : List ℕ). leads (far_of from to) live l) (rows_hold m from to u small 512 (omega arith) 1024 (omega arith))
      ∙ row_shares _ 512 0 (λ j a b. far_hold from to j b)
      ∙ up_to_concat share 512 0
      ∙ sym (scan_shares s)
