-- Laws of choosing: what `those`, `first_of` and `index_of` find, and what is `among` a list.
use Rattle.std.specs.Prelude.{◌≡◌, ◌⊎◌, ◌≢◌, Bool, ◌||◌, eqb, drop}
use Rattle.std.proofs.Math.Path.{refl, ap}
use Rattle.std.proofs.Common.{sym, ◌∙◌, true≢false, add-zero, add-one, length-append, drop-cons}
use Rattle.std.proofs.Math.Logic.{inl, inr}
use Rattle.std.proofs.Math.Bool.{true, false, cond, or-false}
use Rattle.std.proofs.lemmas.Bool.{false≢true}
use mathlib.Core.List.Memᴰ
use mathlib.Core.List.{List, [], ◌∷◌, ◌++◌, Memᴰ}
use Prim.Native.Nat.{ℕ, zero, suc, ◌+◌, ◌≤◌, ◌<◌}
use Rattle.std.proofs.Math.Decide.{ℕ_discrete}
use native.Mathlib.Omega.{arith}
use Rattle.std.proofs.Math.ListN.{length, get_or, get_or-append}
use Rattle.std.proofs.lemmas.List.{get_or_at}
use borrow.Author.Tests.{eq-eqb, ne_eqb, eqb-true}
use Rattle.numbers.specs.Counts.{count}
use Rattle.numbers.specs.CountLaws.{counted_before}
use Rattle.numbers.specs.UpTo.{up_to}
use Rattle.numbers.specs.Choose.{those, first_of, index_of, among}

module _ (p : ℕ → Bool) where
  -- one number more
  pub those_more : (n : ℕ) → those p (suc n) ≡ cond (p n) (those p n ++ (n ∷ [])) (those p n)
  unfolding those up_to
  those_more n = refl

  -- as many as are counted
  pub those_long : (n : ℕ) → length (those p n) ≡ count p n
  unfolding those up_to count
  those_long zero = refl
  those_long (suc n) = go (p n) (those_long n)
    where
      go : (b : Bool) → length (those p n) ≡ count p n → length (cond b (those p n ++ (n ∷ [])) (those p n)) ≡ cond b (suc (count p n)) (count p n)
      go true e = simp (length-append, e) (omega arith)
      go false e = e

  -- each at the count of those before it
  pub those_at : (n i : ℕ) → i < n → p i ≡ true → get_or (those p n) (count p i) 0 ≡ i
  those_at zero i l t = absurd (omega arith)
  those_at (suc n) i l t = rw (those_more n) (go (ℕ_discrete i n) (p n) refl (λ k. those_at n i k t))
    where
      go : Dec (i ≡ n) → (b : Bool) → p n ≡ b → (i < n → get_or (those p n) (count p i) 0 ≡ i) → get_or (cond b (those p n ++ (n ∷ [])) (those p n)) (count p i) 0 ≡ i
      go (yes e) true q ih = rw e (get_or_at (those p n) n [] 0 (count p n) (those_long n))
      go (yes e) false q ih = absurd (true≢false (sym t ∙ ap p e ∙ q))
      go (no d) true q ih = get_or-append (those p n) (n ∷ []) 0 (count p i) (rw (those_long n) (counted_before p n i (omega arith) t)) ∙ ih (omega arith)
      go (no d) false q ih = ih (omega arith)

  pub in_those : (n i : ℕ) → i < n → p i ≡ true → Memᴰ i (those p n)
  in_those zero i l e = absurd (omega arith)
  in_those (suc n) i l e = rw (those_more n) (go (ℕ_discrete i n) (p n) refl (λ l'. in_those n i l' e))
    where
      go : Dec (i ≡ n) → (b : Bool) → p n ≡ b → (i < n → Memᴰ i (those p n)) → Memᴰ i (cond (p n) (those p n ++ (n ∷ [])) (those p n))
      go (yes q) b t ih = rw (← q, e) (Memᴰ.append_right (those p i) (Memᴰ.head refl))
      go (no q) true t ih = rw t (Memᴰ.append_left (n ∷ []) (ih (omega arith)))
      go (no q) false t ih = rw t (ih (omega arith))

  pub of_those : (n i : ℕ) → Memᴰ i (those p n) → (i < n) × (p i ≡ true)
  unfolding those up_to
  of_those zero i m = absurd (Memᴰ.not-nil m)
  of_those (suc n) i m = go (p n) refl (of_those n i) m
    where
      less : (i < n) × (p i ≡ true) → (i < suc n) × (p i ≡ true)
      less (l, e) = (omega arith, e)

      last : p n ≡ true → (Memᴰ i (those p n) → (i < n) × (p i ≡ true)) → Memᴰ i (those p n) ⊎ Memᴰ i (n ∷ []) → (i < suc n) × (p i ≡ true)
      last t ih (inl m) = less (ih m)
      last t ih (inr m) = let q : i ≡ n = Memᴰ.eq_of_singleton m in (omega arith, ap p q ∙ t)

      go : (b : Bool) → p n ≡ b → (Memᴰ i (those p n) → (i < n) × (p i ≡ true)) → Memᴰ i (cond (p n) (those p n ++ (n ∷ [])) (those p n)) → (i < suc n) × (p i ≡ true)
      go true t ih m = last t ih (Memᴰ.append_cases (those p n) (rw t at m))
      go false t ih m = less (ih (rw t at m))

  -- either one passes, and the first that does is found, or none does
  pub first_cases : (none : ℕ) (l : List ℕ) → (Memᴰ (first_of p none l) l × (p (first_of p none l) ≡ true)) ⊎ ((x : ℕ) → Memᴰ x l → p x ≡ false)
  unfolding first_of
  first_cases none [] = inr (λ x m. absurd (Memᴰ.not-nil m))
  first_cases none (y ∷ l) = go (p y) refl (first_cases none l)
    where
      go : (b : Bool) → p y ≡ b → (Memᴰ (first_of p none l) l × (p (first_of p none l) ≡ true)) ⊎ ((x : ℕ) → Memᴰ x l → p x ≡ false)
          → (Memᴰ (cond (p y) y (first_of p none l)) (y ∷ l) × (p (cond (p y) y (first_of p none l)) ≡ true)) ⊎ ((x : ℕ) → Memᴰ x (y ∷ l) → p x ≡ false)
      go true t ih = inl (rw t (Memᴰ.head refl), rw (t, t))
      go false t (inl h) = inl (rw t (Memᴰ.tail h.0), rw t h.1)
      go false t (inr h) = inr (λ x m. each x (Memᴰ.cases_cons m))
        where
          each : (x : ℕ) → (x ≡ y) ⊎ Memᴰ x l → p x ≡ false
          each x (inl q) = ap p q ∙ t
          each x (inr m) = h x m

-- what stands in the list is found in it
pub index_found : (x : ℕ) (l : List ℕ) → Memᴰ x l → index_of x l < length l
unfolding index_of
index_found x [] m = absurd (Memᴰ.not-nil m)
index_found x (y ∷ l) m = go (ℕ_discrete x y) (Memᴰ.cases_cons m) (index_found x l)
  where
    go : Dec (x ≡ y) → (x ≡ y) ⊎ Memᴰ x l → (Memᴰ x l → index_of x l < length l) → cond (eqb x y) zero (suc (index_of x l)) < suc (length l)
    go (yes e) c ih = rw (eq-eqb _ _ e) (omega arith)
    go (no n) (inl e) ih = absurd (n e)
    go (no n) (inr m) ih = rw (ne_eqb x y n) (omega (arith, ih m))

-- what stands at position i, and at no position before it, is found there
pub index_at : (l : List ℕ) (d i : ℕ) → i < length l → ((j : ℕ) → j < i → get_or l j d ≢ get_or l i d) → index_of (get_or l i d) l ≡ i
unfolding index_of
index_at [] d i l h = absurd (omega arith)
index_at (y ∷ xs) d zero l h = rw (eq-eqb y _ refl)
index_at (y ∷ xs) d (suc i) l h =
    rw (ne_eqb (get_or xs i d) y (λ e. h zero (omega arith) (sym e)), index_at xs d i (omega arith) (λ j k. h (suc j) (omega arith)))

-- what stands at position i is found there or before it
pub index_early : (x : ℕ) (l : List ℕ) (i : ℕ) → i < length l → get_or l i 0 ≡ x → index_of x l ≤ i
unfolding index_of
index_early x [] i b e = absurd (omega arith)
index_early x (y ∷ l) zero b e = rw (eq-eqb x y (sym e)) (omega arith)
index_early x (y ∷ l) (suc i) b e = go (eqb x y) (index_early x l i (omega arith) e)
  where
    go : (t : Bool) → index_of x l ≤ i → cond t zero (suc (index_of x l)) ≤ suc i
    go true h = omega arith
    go false h = omega arith

module _ (x : ℕ) where
  -- what does not stand in the list is behind it
  pub index_none : (l : List ℕ) → ¬ Memᴰ x l → index_of x l ≡ length l
  unfolding index_of
  index_none [] n = refl
  index_none (y ∷ l) n = rw (ne_eqb x y (λ e. n (Memᴰ.head e)), index_none l (λ m. n (Memᴰ.tail m)))

  -- with more behind the list: what stands in it stays, and what does not is looked for in what is behind
  pub index_still : (l r : List ℕ) → Memᴰ x l → index_of x (l ++ r) ≡ index_of x l
  unfolding index_of
  index_still [] r m = absurd (Memᴰ.not-nil m)
  index_still (y ∷ l) r m = go (ℕ_discrete x y) (Memᴰ.cases_cons m) (index_still l r)
    where
      go : Dec (x ≡ y) → (x ≡ y) ⊎ Memᴰ x l → (Memᴰ x l → index_of x (l ++ r) ≡ index_of x l)
          → cond (eqb x y) zero (suc (index_of x (l ++ r))) ≡ cond (eqb x y) zero (suc (index_of x l))
      go (yes e) c ih = rw (eq-eqb x y e)
      go (no n) (inl e) ih = absurd (n e)
      go (no n) (inr m) ih = rw (ih m)

  pub index_past : (l r : List ℕ) → ¬ Memᴰ x l → index_of x (l ++ r) ≡ length l + index_of x r
  unfolding index_of
  index_past [] r n = omega arith
  index_past (y ∷ l) r n = rw (ne_eqb x y (λ e. n (Memᴰ.head e)), index_past l r (λ m. n (Memᴰ.tail m))) (omega arith)

  -- where it is found it stands
  pub index_holds : (l : List ℕ) (d : ℕ) → Memᴰ x l → get_or l (index_of x l) d ≡ x
  unfolding index_of
  index_holds [] d m = absurd (Memᴰ.not-nil m)
  index_holds (y ∷ l) d m = go (ℕ_discrete x y) (Memᴰ.cases_cons m) (index_holds l d)
    where
      go : Dec (x ≡ y) → (x ≡ y) ⊎ Memᴰ x l → (Memᴰ x l → get_or l (index_of x l) d ≡ x) → get_or (y ∷ l) (cond (eqb x y) zero (suc (index_of x l))) d ≡ x
      go (yes e) c ih = rw (eq-eqb x y e) (sym e)
      go (no n) (inl e) ih = absurd (n e)
      go (no n) (inr m) ih = rw (ne_eqb x y n) (ih m)

-- the first position from i on: i itself, or one behind it
module _ (x : ℕ) (l : List ℕ) (i : ℕ) (h : i < length l) where
  pub index_here : get_or l i 0 ≡ x → i + index_of x (drop i l) ≡ i
  unfolding index_of
  index_here q = rw (drop-cons l i 0 h, eq-eqb x (get_or l i 0) (sym q)) (add-zero i)

  pub index_behind : (get_or l i 0 ≡ x → ⊥) → i + index_of x (drop i l) ≡ i + 1 + index_of x (drop (i + 1) l)
  unfolding index_of
  index_behind n =
      let e : index_of x (drop i l) ≡ suc (index_of x (drop (i + 1) l)) = rw (drop-cons l i 0 h, ne_eqb x (get_or l i 0) (λ q. n (sym q)), add-one) in
      omega arith

-- among a list are its members
pub among_mem : (x : ℕ) (ys : List ℕ) → among x ys ≡ true → Memᴰ x ys
unfolding among
among_mem x [] e = absurd (false≢true e)
among_mem x (y ∷ ys) e = go (eqb x y) refl e (among_mem x ys)
  where
    go : (b : Bool) → eqb x y ≡ b → (b || among x ys) ≡ true → (among x ys ≡ true → Memᴰ x ys) → Memᴰ x (y ∷ ys)
    go true q e ih = Memᴰ.head (eqb-true x y q)
    go false q e ih = Memᴰ.tail (ih e)

pub mem_among : (x : ℕ) (ys : List ℕ) → Memᴰ x ys → among x ys ≡ true
unfolding among
mem_among x [] m = absurd (Memᴰ.not-nil m)
mem_among x (y ∷ ys) m = go (Memᴰ.cases_cons m) (mem_among x ys)
  where
    go : (x ≡ y) ⊎ Memᴰ x ys → (Memᴰ x ys → among x ys ≡ true) → (eqb x y || among x ys) ≡ true
    go (inl q) ih = rw (eq-eqb x y q)
    go (inr h) ih = last (eqb x y) (ih h)
      where
        last : (b : Bool) → among x ys ≡ true → (b || among x ys) ≡ true
        last true e = refl
        last false e = e

pub not_among : (x : ℕ) (ys : List ℕ) → ¬ Memᴰ x ys → among x ys ≡ false
not_among x ys n = go (among x ys) refl
  where
    go : (b : Bool) → among x ys ≡ b → among x ys ≡ false
    go true e = absurd (n (among_mem x ys e))
    go false e = e

-- one more at the end
pub among_more : (y x : ℕ) (xs : List ℕ) → among y (xs ++ (x ∷ [])) ≡ (among y xs || eqb y x)
unfolding among
among_more y x [] = or-false (eqb y x)
among_more y x (z ∷ xs) = rw (among_more y x xs) (go (eqb y z))
  where
    go : (b : Bool) → (b || (among y xs || eqb y x)) ≡ (b || among y xs || eqb y x)
    go true = refl
    go false = refl
