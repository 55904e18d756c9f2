-- Lists of numbers: whether a number stands in one, what stands in a list turned round, among its first numbers, in one behind another, how long a list without repetition can be, and how often a number stands in it.
use Rattle.std.specs.Prelude.{◌≡◌, refl, ◌⊎◌, Bool, true, false, cond, ℕ, zero, suc, ◌≤◌, ◌<◌, eqb, length, take, drop}
use Rattle.std.proofs.Common.{sym, ap, ◌∙◌, inl, inr, arith, take-append-drop, eq-eqb, ne_eqb, eqb-true}
use mathlib.Core.List.Memᴰ
use mathlib.Core.List.{List, [], ◌∷◌, ◌++◌, map, map-append, reverse, reverse-cons, Memᴰ}
use Rattle.std.proofs.Math.Decide.{ℕ_discrete}
use Rattle.numbers.specs.Choose.{among}
use Rattle.numbers.specs.ChooseLaws.{not_among}
use Rattle.numbers.specs.Counts.{count, count_drop, count_le}
use Rattle.numbers.specs.Distinct.{Distinct}
use Rattle.numbers.specs.Times.{times}

-- ---- is it one of them?
pub mem? : (x : ℕ) (l : List ℕ) → Dec (Memᴰ x l)
mem? x [] = no Memᴰ.not-nil
mem? x (y ∷ l) = go (ℕ_discrete x y) (mem? x l)
  where
    go : Dec (x ≡ y) → Dec (Memᴰ x l) → Dec (Memᴰ x (y ∷ l))
    go (yes e) d = yes (Memᴰ.head e)
    go (no n) (yes m) = yes (Memᴰ.tail m)
    go (no n) (no k) = no neither
      where
        neither : ¬ Memᴰ x (y ∷ l)
        neither (Memᴰ.head e) = n e
        neither (Memᴰ.tail m) = k m

-- ---- turned round
pub mem_reverse : (l : List ℕ) (i : ℕ) → Memᴰ i (reverse l) → Memᴰ i l
mem_reverse [] i m = m
mem_reverse (x ∷ l) i m = go (Memᴰ.append_cases (reverse l) (rw (reverse-cons x l) at m)) (mem_reverse l i)
  where
    go : Memᴰ i (reverse l) ⊎ Memᴰ i (x ∷ []) → (Memᴰ i (reverse l) → Memᴰ i l) → Memᴰ i (x ∷ l)
    go (inl h) ih = Memᴰ.tail (ih h)
    go (inr h) ih = Memᴰ.head (Memᴰ.eq_of_singleton h)

pub reverse_mem : (l : List ℕ) (i : ℕ) → Memᴰ i l → Memᴰ i (reverse l)
reverse_mem [] i m = m
reverse_mem (x ∷ l) i m = rw (reverse-cons x l) (go (Memᴰ.cases_cons m) (reverse_mem l i))
  where
    go : (i ≡ x) ⊎ Memᴰ i l → (Memᴰ i l → Memᴰ i (reverse l)) → Memᴰ i (reverse l ++ (x ∷ []))
    go (inl e) ih = Memᴰ.append_right (reverse l) (Memᴰ.head e)
    go (inr h) ih = Memᴰ.append_left (x ∷ []) (ih h)

pub map_reverse : (f : ℕ → ℕ) (l : List ℕ) → map f (reverse l) ≡ reverse (map f l)
map_reverse f [] = refl
map_reverse f (x ∷ l) = ap (map f) (reverse-cons x l) ∙ map-append f (reverse l) (x ∷ []) ∙ ap (λ (r : List ℕ). r ++ (f x ∷ [])) (map_reverse f l) ∙ sym (reverse-cons (f x) (map f l))

-- ---- the first n
pub taken_in : (n : ℕ) (l : List ℕ) (i : ℕ) → Memᴰ i (take n l) → Memᴰ i l
taken_in n l i z = rw (take-append-drop n l) at (Memᴰ.append_left (drop n l) z)

-- there is one
pub some_taken : (n : ℕ) (l : List ℕ) → n < length l → (x : ℕ) × Memᴰ x (take (suc n) l)
some_taken n [] h = absurd (omega arith)
some_taken n (x ∷ l) h = (x, Memᴰ.head refl)

-- without repetition, where they are not all, another is left
pub distinct_left : (n : ℕ) (l : List ℕ) → Distinct l → n < length l → (x : ℕ) × Memᴰ x l × (¬ Memᴰ x (take n l))
distinct_left n [] d h = absurd (omega arith)
distinct_left zero (x ∷ l) d h = (x, Memᴰ.head refl, Memᴰ.not-nil)
distinct_left (suc n) (x ∷ l) d h =
    let (y, z, k) = distinct_left n l d.1 (omega arith) in
    (y, Memᴰ.tail z, λ m. go y z k (Memᴰ.cases_cons m))
  where
    go : (y : ℕ) → Memᴰ y l → ¬ Memᴰ y (take n l) → (y ≡ x) ⊎ Memᴰ y (take n l) → ⊥
    go y z k (inl e) = d.0 (Memᴰ.cast (sym e) z)
    go y z k (inr m) = k m

-- ---- one behind another
pub distinct_both : (l m : List ℕ) → Distinct l → Distinct m → ((i : ℕ) → Memᴰ i l → ¬ Memᴰ i m) → Distinct (l ++ m)
distinct_both [] m d e n = e
distinct_both (x ∷ l) m d e n = (λ z. go (Memᴰ.append_cases l z), distinct_both l m d.1 e (λ i z. n i (Memᴰ.tail z)))
  where
    go : Memᴰ x l ⊎ Memᴰ x m → ⊥
    go (inl z) = d.0 z
    go (inr z) = n x (Memᴰ.head refl) z

-- ---- how long
-- as many numbers as there are below the bound, at the most
distinct_counted : (n : ℕ) (l : List ℕ) → Distinct l → ((i : ℕ) → Memᴰ i l → i < n) → length l ≤ count (λ i. among i l) n
unfolding among
distinct_counted n [] d h = omega arith
distinct_counted n (x ∷ l) d h =
    let less = distinct_counted n l d.1 (λ i z. h i (Memᴰ.tail z)) in
    let more : count (λ i. among i (x ∷ l)) n ≡ suc (count (λ i. among i l) n) =
    count_drop (λ i. among i (x ∷ l)) (λ i. among i l) n x (h x (Memᴰ.head refl)) (rw (eq-eqb x x refl)) (not_among x l d.0) (λ i b k. rw (ne_eqb i x k)) in
    omega arith

pub distinct_few : (n : ℕ) (l : List ℕ) → Distinct l → ((i : ℕ) → Memᴰ i l → i < n) → length l ≤ n
distinct_few n l d h = omega (arith, distinct_counted n l d h, count_le (λ i. among i l) n)

-- ---- how often
times_none : (x : ℕ) (l : List ℕ) → ¬ Memᴰ x l → times x l ≡ 0
unfolding times
times_none x [] n = refl
times_none x (y ∷ l) n = rw (ne_eqb x y (λ e. n (Memᴰ.head e)), times_none x l (λ m. n (Memᴰ.tail m)))

pub distinct_once : (l : List ℕ) → Distinct l → (x : ℕ) → times x l ≤ 1
unfolding times
distinct_once [] d x = omega arith
distinct_once (y ∷ l) d x = go (eqb x y) refl (distinct_once l d.1 x)
  where
    go : (b : Bool) → eqb x y ≡ b → times x l ≤ 1 → cond b (suc (times x l)) (times x l) ≤ 1
    go true e h = let z : times y l ≡ 0 = times_none y l d.0 in rw (eqb-true x y e, z) (omega arith)
    go false e h = h
