-- Lists without repetition.
use Rattle.std.specs.Prelude.{◌≡◌, refl, ◌⊎◌, ◌≢◌, Bool, true, false, ℕ, zero, suc, ◌<◌, length, get_or}
use Rattle.std.proofs.Common.{sym, inl, inr, arith}
use mathlib.Core.List.Memᴰ
use mathlib.Core.List.{List, [], ◌∷◌, ◌++◌, map, Memᴰ}
use Rattle.numbers.specs.UpTo.{up_to}
use Rattle.numbers.specs.Choose.{those}
use Rattle.numbers.specs.ChooseLaws.{those_more, of_those}

-- none stands twice in the list
abbrev pub Distinct : List ℕ → Type 0
Distinct [] = Unit {0}
Distinct (x ∷ l) = (¬ Memᴰ x l) × Distinct l

-- at a position of a list stands one of it
pub stands_at : {A : Type 0} (l : List A) (i : ℕ) (d : A) → i < length l → Memᴰ (get_or l i d) l
stands_at [] i d b = absurd (omega arith)
stands_at (x ∷ l) zero d b = Memᴰ.head refl
stands_at (x ∷ l) (suc i) d b = Memᴰ.tail (stands_at l i d (omega arith))

-- at two positions of a list without repetition stand two different numbers
pub distinct_at : (l : List ℕ) → Distinct l → (j i d : ℕ) → j < i → i < length l → get_or l j d ≢ get_or l i d
distinct_at [] h j i d b c e = omega arith
distinct_at (x ∷ l) h j zero d b c e = omega arith
distinct_at (x ∷ l) h zero (suc i) d b c e = h.0 (rw e (stands_at l i d (omega arith)))
distinct_at (x ∷ l) h (suc j) (suc i) d b c e = distinct_at l h.1 j i d (omega arith) (omega arith) e

pub distinct_append : (l : List ℕ) (x : ℕ) → Distinct l → ¬ Memᴰ x l → Distinct (l ++ (x ∷ []))
distinct_append [] x d n = (Memᴰ.not-nil, tt)
distinct_append (y ∷ l) x d n = (λ m. go (Memᴰ.append_cases l m), distinct_append l x d.1 (λ m. n (Memᴰ.tail m)))
  where
    go : Memᴰ y l ⊎ Memᴰ y (x ∷ []) → ⊥
    go (inl m) = d.0 m
    go (inr m) = n (Memᴰ.head (sym (Memᴰ.eq_of_singleton m)))

pub distinct_those : (p : ℕ → Bool) (n : ℕ) → Distinct (those p n)
unfolding those up_to
distinct_those p zero = tt
distinct_those p (suc n) = go (p n) refl (distinct_those p n)
  where
    go : (b : Bool) → p n ≡ b → Distinct (those p n) → Distinct (those p (suc n))
    go true t ih = rw (those_more p n, t) (distinct_append (those p n) n ih (λ m. absurd (omega (arith, (of_those p n n m).0))))
    go false t ih = rw (those_more p n, t) ih

pub distinct_map : (f : ℕ → ℕ) (l : List ℕ) → Distinct l → ((x y : ℕ) → Memᴰ x l → Memᴰ y l → f x ≡ f y → x ≡ y) → Distinct (map f l)
distinct_map f [] d h = tt
distinct_map f (x ∷ l) d h = (
  λ m. let (y, k, e) = Memᴰ.of_map f l m in d.0 (Memᴰ.cast (h x y (Memᴰ.head refl) (Memᴰ.tail k) (sym e)) k),
  distinct_map f l d.1 (λ y z k m. h y z (Memᴰ.tail k) (Memᴰ.tail m)),
)
