-- What the rows of a graph hold: the row of a bus is its half-branches by rising position, and far has the other ends.
use Rattle.std.specs.Prelude.{◌≡◌, refl, ◌≢◌, Bool, cond, eqb, ltb, get_or, set}
use Rattle.std.proofs.Common.{sym, ap, ◌∙◌, lit<, length-set, get_or-set_other, lt-ltb, le-ltb, eq-eqb, ne_eqb, ltb-true, ltb-false}
use Rattle.std.proofs.Math.Bool.{true, false}
use mathlib.Core.List.{List, [], ◌∷◌, ◌++◌}
use Prim.Native.Nat.{ℕ, zero, suc, ◌+◌, ◌*◌, ◌-◌, ◌/◌, ◌%◌, ◌<◌, ◌≤◌}
use Rattle.std.proofs.Math.Decide.{ℕ_discrete}
use native.Mathlib.Omega.{arith}
use Rattle.std.proofs.Math.Nat.{mul-div_cancel_left, mul-add-div}
use Rattle.std.proofs.Math.ListN.{length}
use Rattle.std.proofs.lemmas.List.{length-replicate, get_or-replicate}
use Rattle.std.proofs.Math.Seq.{get_or-set_same}
use Rattle.numbers.specs.UpTo.{up_to}
use Rattle.numbers.specs.TableLaws.{length_table, get_or_table}
use Rattle.graph.specs.Rows.{far_end, far_of, Rows, put_half, put_branch, rows_of, row_from}

-- the arrays keep their lengths
pub record Long (r : Rows) : Type 0 where
  pub first : length r.first ≡ 256
  pub next : length r.next ≡ 1024

half_long : (u h : ℕ) (r : Rows) → Long r → Long (put_half u h r)
unfolding put_half
half_long u h r l = record { first = simp length-set l.first; next = simp length-set l.next }

branch_long : (k f t : ℕ) (r : Rows) → Long r → Long (put_branch k f t r)
unfolding put_branch
branch_long k f t r l = go (eqb f t)
  where
    go : (b : Bool) → Long (put_half f (2 * k) (cond b r (put_half t (2 * k + 1) r)))
    go true = half_long f (2 * k) _ l
    go false = half_long f (2 * k) _ (half_long t (2 * k + 1) _ l)

pub rows_long : (m : ℕ) (from to : List ℕ) (i : ℕ) → Long (rows_of m from to i)
unfolding rows_of up_to
rows_long m from to zero = record { first = length-replicate {A = ℕ} 256 1024; next = length-replicate {A = ℕ} 1024 1024 }
rows_long m from to (suc i) = go (ltb (511 - i) m) _ (rows_long m from to i)
  where
    go : (b : Bool) (r : Rows) → Long r → Long (cond b (put_branch (511 - i) (get_or from (511 - i) 0) (get_or to (511 - i) 0) r) r)
    go true r l = branch_long (511 - i) _ _ r l
    go false r l = l

-- every entry is above h
abbrev Above : ℕ → List ℕ → Type 0
Above h [] = Unit {0}
Above h (x ∷ l) = (h < x) × Above h l

above_less : (g h : ℕ) (l : List ℕ) → g ≤ h → Above h l → Above g l
above_less g h [] e a = tt
above_less g h (x ∷ l) e a = (let b = a.0 in omega arith, above_less g h l e a.1)

-- a row goes on at a half-branch, and ends at none
pub row_more : (next : List ℕ) (n h : ℕ) → h < 1024 → row_from next (suc n) h ≡ h ∷ row_from next n (get_or next h 0)
unfolding row_from
row_more next n h l = rw (lt-ltb h 1024 l, row_from)

pub row_end : (next : List ℕ) (n h : ℕ) → 1024 ≤ h → row_from next n h ≡ []
unfolding row_from
row_end next zero h l = refl
row_end next (suc n) h l = rw (le-ltb h 1024 l, row_from)

-- a store below a row does not touch it
row_apart : (next : List ℕ) (h y n a : ℕ) → Above h (row_from next n a) → row_from (set next h y) n a ≡ row_from next n a
unfolding row_from
row_apart next h y zero a b = refl
row_apart next h y (suc n) a b = go (ltb a 1024) refl (row_apart next h y n (get_or next a 0))
  where
    go : (t : Bool) → ltb a 1024 ≡ t
        → (Above h (row_from next n (get_or next a 0)) → row_from (set next h y) n (get_or next a 0) ≡ row_from next n (get_or next a 0))
        → row_from (set next h y) (suc n) a ≡ row_from next (suc n) a
    go false e ih = let l = ltb-false a 1024 e in row_end (set next h y) (suc n) a l ∙ sym (row_end next (suc n) a l)
    go true e ih =
        let l = ltb-true a 1024 e in
        let c : Above h (a ∷ row_from next n (get_or next a 0)) = rw row_more at b in
        let d = c.0 in
        let s : get_or (set next h y) a 0 ≡ get_or next a 0 = get_or-set_other next h a y 0 (omega arith) in
        row_more (set next h y) n a l ∙ rw (s, ih c.1) (sym (row_more next n a l))

-- the row of bus x, read with as much as i or more
abbrev RowIs : Rows → ℕ → List ℕ → ℕ → Type 0
RowIs r x l i = (n : ℕ) → i ≤ n → row_from r.next n (get_or r.first x 0) ≡ l

module _ (r : Rows) (long : Long r) (u h : ℕ) (small : h < 1024) (l : List ℕ) (i : ℕ) (above : Above h l) where
  put_there : u < 256 → RowIs r u l i → RowIs (put_half u h r) u (h ∷ l) (suc i)
  unfolding put_half
  put_there k e zero b = absurd (omega arith)
  put_there k e (suc n) b =
      let p : u < length r.first = omega (arith, long.first) in
      let q : h < length r.next = omega (arith, long.next) in
      let w = e n (omega arith) in
      rw (get_or-set_same r.first u h 0 p, row_more (set r.next h (get_or r.first u 0)) n h small, get_or-set_same r.next h (get_or r.first u 0) 0 q)
      (ap (λ (t : List ℕ). h ∷ t) (row_apart r.next h (get_or r.first u 0) n (get_or r.first u 0) (rw w above) ∙ w))

  put_elsewhere : (x : ℕ) → x ≢ u → RowIs r x l i → RowIs (put_half u h r) x l i
  unfolding put_half
  put_elsewhere x ne e n b =
      let w = e n b in
      rw (get_or-set_other r.first u x h 0 ne) (row_apart r.next h (get_or r.first u 0) n (get_or r.first x 0) (rw w above) ∙ w)

-- the half-branch of branch k at bus u, if the branch has an end there
abbrev pub half_at : ℕ → ℕ → ℕ → ℕ → List ℕ
half_at f t u k = cond (eqb f u) ((2 * k) ∷ []) (cond (eqb t u) ((2 * k + 1) ∷ []) [])

put_row : (r : Rows) → Long r → (k f t x : ℕ) → x < 256 → k < 512 → (l : List ℕ) (i : ℕ) → Above (2 * k + 1) l → RowIs r x l i
    → RowIs (put_branch k f t r) x (half_at f t x k ++ l) (suc i)
unfolding put_branch
put_row r long k f t x small kl l i above e = go (ℕ_discrete f t) (ℕ_discrete x f) (ℕ_discrete x t)
  where
    low : Above (2 * k) l
    low = above_less (2 * k) (2 * k + 1) l (omega arith) above

    go : Dec (f ≡ t) → Dec (x ≡ f) → Dec (x ≡ t) → RowIs (put_half f (2 * k) (cond (eqb f t) r (put_half t (2 * k + 1) r))) x (half_at f t x k ++ l) (suc i)
    go (yes a) (yes b) c = rw (eq-eqb f t a, eq-eqb f x (sym b), ← b) (put_there r long x (2 * k) (omega arith) l i low small e)
    go (yes a) (no b) c =
        rw (eq-eqb f t a, ne_eqb f x (λ q. b (sym q)), ne_eqb t x (λ q. b (sym (a ∙ q))))
        (λ n g. put_elsewhere r long f (2 * k) (omega arith) l i low x b e n (omega arith))
    go (no a) (yes b) c =
        let w = put_elsewhere r long t (2 * k + 1) (omega arith) l i above x (λ q. a (sym b ∙ q)) e in
        rw (ne_eqb f t a, eq-eqb f x (sym b), ← b) (put_there _ (half_long t (2 * k + 1) r long) x (2 * k) (omega arith) l i low small w)
    go (no a) (no b) (yes c) =
        let w = put_there r long x (2 * k + 1) (omega arith) l i above small e in
        rw (ne_eqb f t a, ne_eqb f x (λ q. b (sym q)), eq-eqb t x (sym c), ← c)
        (put_elsewhere _ (half_long x (2 * k + 1) r long) f (2 * k) (omega arith) ((2 * k + 1) ∷ l) (suc i) (omega arith, low) x b w)
    go (no a) (no b) (no c) =
        let w = put_elsewhere r long t (2 * k + 1) (omega arith) l i above x c e in
        rw (ne_eqb f t a, ne_eqb f x (λ q. b (sym q)), ne_eqb t x (λ q. c (sym q)))
        (λ n g. put_elsewhere _ (half_long t (2 * k + 1) r long) f (2 * k) (omega arith) l i low x b w n (omega arith))

add_row : (r : Rows) → Long r → (b : Bool) (k f t x : ℕ) → x < 256 → k < 512 → (l : List ℕ) (i : ℕ) → Above (2 * k + 1) l → RowIs r x l i
    → RowIs (cond b (put_branch k f t r) r) x (cond b (half_at f t x k) [] ++ l) (suc i)
add_row r long true k f t x small kl l i above e = put_row r long k f t x small kl l i above e
add_row r long false k f t x small kl l i above e = λ n g. e n (omega arith)

module _ (m : ℕ) (from to : List ℕ) where
  -- the half-branches at bus u of d branches from k on, of those below m
  unfoldable pub halves_from : ℕ → ℕ → ℕ → List ℕ
  halves_from u zero k = []
  halves_from u (suc d) k = cond (ltb k m) (half_at (get_or from k 0) (get_or to k 0) u k) [] ++ halves_from u d (suc k)

  halves_above : (h u d k : ℕ) → h < 2 * k → Above h (halves_from u d k)
  unfolding halves_from
  halves_above h u zero k l = tt
  halves_above h u (suc d) k l = go (ltb k m) (eqb (get_or from k 0) u) (eqb (get_or to k 0) u) (halves_above h u d (suc k) (omega arith))
    where
      go : (a b c : Bool) → Above h (halves_from u d (suc k))
          → Above h (cond a (cond b ((2 * k) ∷ []) (cond c ((2 * k + 1) ∷ []) [])) [] ++ halves_from u d (suc k))
      go false b c w = w
      go true true c w = (l, w)
      go true false true w = (omega arith, w)
      go true false false w = w

  -- after i branches each row has the half-branches of the last i
  pub rows_hold : (u : ℕ) → u < 256 → (i : ℕ) → i ≤ 512 → RowIs (rows_of m from to i) u (halves_from u i (512 - i)) i
  unfolding rows_of up_to halves_from
  rows_hold u small zero h = λ n g. row_end _ n _ (rw (get_or-replicate {A = ℕ} 256 u 1024 0 small) (omega arith))
  rows_hold u small (suc i) h =
      let d : 512 - suc i ≡ 511 - i = omega arith in
      let s : 512 - i ≡ suc (511 - i) = omega arith in
      let a : Above (2 * (511 - i) + 1) (halves_from u i (suc (511 - i))) = halves_above _ u i (suc (511 - i)) (omega arith) in
      rw d
      (add_row (rows_of m from to i) (rows_long m from to i) (ltb (511 - i) m) (511 - i) (get_or from (511 - i) 0) (get_or to (511 - i) 0) u small (omega arith)
      (halves_from u i (suc (511 - i)))
      i
      a
      (rw s at (rows_hold u small i (omega arith))))

-- ---- the far ends
pub even_half : (k : ℕ) → 2 * k / 2 ≡ k
even_half k = mul-div_cancel_left k (lit< tt)

pub odd_half : (k : ℕ) → (2 * k + 1) / 2 ≡ k
odd_half k = mul-add-div (lit< tt) k 1 ∙ omega arith

-- the other ends of branch k's halves
abbrev pub FarIs : List ℕ → ℕ → ℕ → ℕ → Type 0
FarIs far k f t = (get_or far (2 * k) 0 ≡ t) × (get_or far (2 * k + 1) 0 ≡ f)

module _ (from to : List ℕ) where
  pub far_long : length (far_of from to) ≡ 1024
  unfolding far_of
  far_long = length_table _ 1024

  -- at an even position the to bus, at an odd one the from bus
  pub far_even : (k : ℕ) → far_end from to (2 * k) ≡ get_or to k 0
  far_even k = let z : 2 * k % 2 ≡ 0 = omega arith in rw (z, even_half k)

  pub far_odd : (k : ℕ) → far_end from to (2 * k + 1) ≡ get_or from k 0
  far_odd k = let z : (2 * k + 1) % 2 ≡ 1 = omega arith in rw (z, odd_half k)

  pub far_hold : (k : ℕ) → k < 512 → FarIs (far_of from to) k (get_or from k 0) (get_or to k 0)
  unfolding far_of
  far_hold k h = (get_or_table _ 1024 (2 * k) 0 (omega arith) ∙ far_even k, get_or_table _ 1024 (2 * k + 1) 0 (omega arith) ∙ far_odd k)
