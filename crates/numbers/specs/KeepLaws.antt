-- Those of a list that pass a test: how many they are, where each stands, that none is there but they, and how often a number stands among them.
use Rattle.std.specs.Prelude.{◌≡◌, ◌⊎◌, Bool}
use Rattle.std.proofs.Math.Path.{refl, ap}
use Rattle.std.proofs.Common.{◌∙◌}
use Rattle.std.proofs.Math.Logic.{inl, inr}
use Rattle.std.proofs.Math.Bool.{true, false, cond}
use mathlib.Core.List.Memᴰ
use mathlib.Core.List.{List, [], ◌∷◌, ◌++◌, map, Memᴰ}
use Prim.Native.Nat.{ℕ, zero, suc, ◌+◌, ◌≤◌, ◌<◌}
use native.Mathlib.Omega.{arith}
use Rattle.std.proofs.Math.Dec.{eqb}
use Rattle.std.proofs.Math.ListN.{length, get_or}
use borrow.Author.Tests.{eq-eqb, ne_eqb, eqb-true}
use Rattle.numbers.specs.Counts.{count}
use Rattle.numbers.specs.CountLaws.{count_front, count_apart}
use Rattle.numbers.specs.Distinct.{Distinct}
use Rattle.numbers.specs.Keep.{keep}
use Rattle.numbers.specs.Tests.{clash, same_test}
use Rattle.numbers.specs.Times.{Counting, times}

module _ {A : Type 0} (p : A → Bool) where
  -- ---- how many
  pub keep_short : (l : List A) → length (keep p l) ≤ length l
  unfolding keep
  keep_short [] = omega arith
  keep_short (a ∷ l) = go (p a) (keep_short l)
    where
      go : (b : Bool) → length (keep p l) ≤ length l → length (cond b (a ∷ keep p l) (keep p l)) ≤ suc (length l)
      go true h = omega arith
      go false h = omega arith

  pub keep_long : (l : List A) (d : A) → length (keep p l) ≡ count (λ k. p (get_or l k d)) (length l)
  unfolding keep
  keep_long [] d = unfold count in refl
  keep_long (a ∷ l) d = go (p a) refl (keep_long l d)
    where
      go : (b : Bool) → p a ≡ b → length (keep p l) ≡ count (λ k. p (get_or l k d)) (length l)
          → length (cond b (a ∷ keep p l) (keep p l)) ≡ count (λ k. p (get_or (a ∷ l) k d)) (suc (length l))
      go true e ih = let f = count_front (λ k. p (get_or (a ∷ l) k d)) (length l) in rw (f, e, ih) (omega arith)
      go false e ih = let f = count_front (λ k. p (get_or (a ∷ l) k d)) (length l) in rw (f, e, ih) (omega arith)

  -- any count along those that are kept is at most the whole list's
  pub keep_fewer : (q : A → Bool) (many : List A → ℕ) → Counting q many → (l : List A) → many (keep p l) ≤ many l
  unfolding keep
  keep_fewer q many c [] = omega arith
  keep_fewer q many c (a ∷ l) = rw (c.one_more a l) (go (p a) (q a) refl (keep_fewer q many c l))
    where
      go : (b t : Bool) → q a ≡ t → many (keep p l) ≤ many l → many (cond b (a ∷ keep p l) (keep p l)) ≤ cond t (suc (many l)) (many l)
      go true true e h = rw (c.one_more a (keep p l), e) (omega arith)
      go true false e h = rw (c.one_more a (keep p l), e) h
      go false true e h = omega arith
      go false false e h = h

  -- ---- which
  pub kept_in : (a : A) (l : List A) → Memᴰ a (keep p l) → Memᴰ a l × (p a ≡ true)
  unfolding keep
  kept_in a [] m = absurd (Memᴰ.not-nil m)
  kept_in a (x ∷ l) m = go (p x) refl (kept_in a l) m
    where
      go : (b : Bool) → p x ≡ b → (Memᴰ a (keep p l) → Memᴰ a l × (p a ≡ true)) → Memᴰ a (cond b (x ∷ keep p l) (keep p l)) → Memᴰ a (x ∷ l) × (p a ≡ true)
      go true e ih (Memᴰ.head q) = (Memᴰ.head q, rw q e)
      go true e ih (Memᴰ.tail k) = let r = ih k in (Memᴰ.tail r.0, r.1)
      go false e ih k = let r = ih k in (Memᴰ.tail r.0, r.1)

  pub in_kept : (a : A) (l : List A) → Memᴰ a l → p a ≡ true → Memᴰ a (keep p l)
  unfolding keep
  in_kept a [] m t = absurd (Memᴰ.not-nil m)
  in_kept a (x ∷ l) m t = go (p x) refl m (λ k. in_kept a l k t)
    where
      go : (b : Bool) → p x ≡ b → Memᴰ a (x ∷ l) → (Memᴰ a l → Memᴰ a (keep p l)) → Memᴰ a (cond b (x ∷ keep p l) (keep p l))
      go true e (Memᴰ.head q) ih = Memᴰ.head q
      go true e (Memᴰ.tail k) ih = Memᴰ.tail (ih k)
      go false e (Memᴰ.head q) ih = clash t (ap p q ∙ e)
      go false e (Memᴰ.tail k) ih = ih k

  -- ---- where: behind those that pass before it
  pub keep_at : (l : List A) (d : A) (k : ℕ) → k < length l → p (get_or l k d) ≡ true → get_or (keep p l) (count (λ i. p (get_or l i d)) k) d ≡ get_or l k d
  unfolding keep
  keep_at [] d k h t = absurd (omega arith)
  keep_at (a ∷ l) d zero h t = unfold count in rw t
  keep_at (a ∷ l) d (suc k) h t = rw (count_front (λ i. p (get_or (a ∷ l) i d)) k) (go (p a) (keep_at l d k (omega arith) t))
    where
      go : (b : Bool) → get_or (keep p l) (count (λ i. p (get_or l i d)) k) d ≡ get_or l k d
          → get_or (cond b (a ∷ keep p l) (keep p l)) (cond b 1 0 + count (λ i. p (get_or l i d)) k) d ≡ get_or l k d
      go true ih = let e : 1 + count (λ i. p (get_or l i d)) k ≡ suc (count (λ i. p (get_or l i d)) k) = omega arith in rw e ih
      go false ih = let e : 0 + count (λ i. p (get_or l i d)) k ≡ count (λ i. p (get_or l i d)) k = omega arith in rw e ih

  -- ---- one more at the end
  pub keep_last : (l : List A) (a : A) → keep p (l ++ (a ∷ [])) ≡ keep p l ++ cond (p a) (a ∷ []) []
  unfolding keep
  keep_last [] a = refl
  keep_last (x ∷ l) a = go (p x) (keep_last l a)
    where
      go : (b : Bool) → keep p (l ++ (a ∷ [])) ≡ keep p l ++ cond (p a) (a ∷ []) []
          → cond b (x ∷ keep p (l ++ (a ∷ []))) (keep p (l ++ (a ∷ []))) ≡ cond b (x ∷ keep p l) (keep p l) ++ cond (p a) (a ∷ []) []
      go true e = ap (λ (r : List A). x ∷ r) e
      go false e = e

-- ---- by a key
module _ {A B : Type 0} (f : A → B) (p : B → Bool) where
  pub keep_map : (l : List A) → keep p (map f l) ≡ map f (keep (λ a. p (f a)) l)
  unfolding keep
  keep_map [] = refl
  keep_map (a ∷ l) = go (p (f a)) (keep_map l)
    where
      go : (b : Bool) → keep p (map f l) ≡ map f (keep (λ x. p (f x)) l)
          → cond b (f a ∷ keep p (map f l)) (keep p (map f l)) ≡ map f (cond b (a ∷ keep (λ x. p (f x)) l) (keep (λ x. p (f x)) l))
      go true e = ap (λ (r : List B). f a ∷ r) e
      go false e = e

module _ {A : Type 0} (p : A → Bool) (f : A → ℕ) where
  keep_key : (x : ℕ) (l : List A) → Memᴰ x (map f (keep p l)) → Memᴰ x (map f l)
  unfolding keep
  keep_key x [] m = m
  keep_key x (a ∷ l) m = go (p a) (keep_key x l) m
    where
      go : (b : Bool) → (Memᴰ x (map f (keep p l)) → Memᴰ x (map f l)) → Memᴰ x (map f (cond b (a ∷ keep p l) (keep p l))) → Memᴰ x (f a ∷ map f l)
      go true ih (Memᴰ.head e) = Memᴰ.head e
      go true ih (Memᴰ.tail k) = Memᴰ.tail (ih k)
      go false ih k = Memᴰ.tail (ih k)

  pub keep_distinct : (l : List A) → Distinct (map f l) → Distinct (map f (keep p l))
  unfolding keep
  keep_distinct [] d = tt
  keep_distinct (a ∷ l) d = go (p a) (keep_distinct l d.1)
    where
      go : (b : Bool) → Distinct (map f (keep p l)) → Distinct (map f (cond b (a ∷ keep p l) (keep p l)))
      go true r = (λ m. d.0 (keep_key (f a) l m), r)
      go false r = r

-- ---- numbers that are kept and counted anew, each by how many pass before it
module _ (p : ℕ → Bool) where
  -- one that passes stands as often as before
  pub times_kept : (k : ℕ) → p k ≡ true → (l : List ℕ) → times (count p k) (map (count p) (keep p l)) ≡ times k l
  unfolding keep times
  times_kept k t [] = refl
  times_kept k t (x ∷ l) = go (p x) refl (times_kept k t l)
    where
      go : (b : Bool) → p x ≡ b → times (count p k) (map (count p) (keep p l)) ≡ times k l
          → times (count p k) (map (count p) (cond b (x ∷ keep p l) (keep p l))) ≡ cond (eqb k x) (suc (times k l)) (times k l)
      go true e ih =
          let same : eqb (count p k) (count p x) ≡ eqb k x =
          same_test _ _ (λ q. eq-eqb k x (count_apart p k x t e (eqb-true (count p k) (count p x) q))) (λ q. eq-eqb (count p k) (count p x) (ap (count p) (eqb-true k x q))) in
          rw (same, ih)
      go false e ih = rw (ne_eqb k x (λ q. clash (rw q at t) e), ih)

  -- and no other is there
  pub times_known : (j : ℕ) (l : List ℕ) → (times j (map (count p) (keep p l)) ≡ 0) ⊎ ((k : ℕ) × (p k ≡ true) × (j ≡ count p k))
  unfolding keep times
  times_known j [] = inl refl
  times_known j (x ∷ l) = go (p x) refl (times_known j l)
    where
      go : (b : Bool) → p x ≡ b → (times j (map (count p) (keep p l)) ≡ 0) ⊎ ((k : ℕ) × (p k ≡ true) × (j ≡ count p k))
          → (times j (map (count p) (cond b (x ∷ keep p l) (keep p l))) ≡ 0) ⊎ ((k : ℕ) × (p k ≡ true) × (j ≡ count p k))
      go b e (inr k) = inr k
      go false e (inl z) = inl z
      go true e (inl z) = here (eqb j (count p x)) refl
        where
          here : (c : Bool) → eqb j (count p x) ≡ c → (cond c (suc (times j (map (count p) (keep p l)))) (times j (map (count p) (keep p l))) ≡ 0) ⊎ ((k : ℕ) × (p k ≡ true) × (j ≡ count p k))
          here true q = inr (x, e, eqb-true j (count p x) q)
          here false q = inl z

  -- at most so often as before
  pub times_few : (n : ℕ) (l : List ℕ) → ((k : ℕ) → times k l ≤ n) → (j : ℕ) → times j (map (count p) (keep p l)) ≤ n
  times_few n l h j = go (times_known j l)
    where
      go : (times j (map (count p) (keep p l)) ≡ 0) ⊎ ((k : ℕ) × (p k ≡ true) × (j ≡ count p k)) → times j (map (count p) (keep p l)) ≤ n
      go (inl z) = omega arith
      go (inr (k, t, e)) = rw (e, times_kept k t l) (h k)
