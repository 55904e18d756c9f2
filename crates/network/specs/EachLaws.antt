-- What holds of each of a list: by position, of lists joined, made, chosen and shortened, of those that pass a test, and of another list made from it.
use Rattle.std.specs.Prelude.{◌≡◌, Bool, cond, ℕ, zero, suc, ◌<◌, length, get_or, take, drop}
use Rattle.std.proofs.Math.Path.{refl}
use Rattle.std.proofs.Common.{ap₂, arith}
use Rattle.std.proofs.Math.Bool.{true, false}
use mathlib.Core.List.{List, [], ◌∷◌, ◌++◌, map}
use Rattle.numbers.specs.Keep.{keep}
use Rattle.network.specs.Inside.{Each}

module _ {A : Type 0} (P : A → Type 0) where
  pub each_at : (l : List A) → Each P l → (i : ℕ) (d : A) → i < length l → P (get_or l i d)
  each_at [] h i d b = absurd (omega arith)
  each_at (a ∷ l) h zero d b = h.0
  each_at (a ∷ l) h (suc i) d b = each_at l h.1 i d (omega arith)

  -- where the default passes too, of any position
  pub each_anywhere : (l : List A) (d : A) → Each P l → P d → (i : ℕ) → P (get_or l i d)
  each_anywhere [] d h p i = p
  each_anywhere (a ∷ l) d h p zero = h.0
  each_anywhere (a ∷ l) d h p (suc i) = each_anywhere l d h.1 p i

  pub each_append : (xs ys : List A) → Each P xs → Each P ys → Each P (xs ++ ys)
  each_append [] ys h k = k
  each_append (x ∷ xs) ys h k = (h.0, each_append xs ys h.1 k)

  pub each_take : (n : ℕ) (l : List A) → Each P l → Each P (take n l)
  each_take zero l h = tt
  each_take (suc n) [] h = tt
  each_take (suc n) (a ∷ l) h = (h.0, each_take n l h.1)

  pub each_drop : (n : ℕ) (l : List A) → Each P l → Each P (drop n l)
  each_drop zero l h = h
  each_drop (suc n) [] h = tt
  each_drop (suc n) (a ∷ l) h = each_drop n l h.1

  pub each_if : (b : Bool) (l : List A) → Each P l → Each P (cond b l [])
  each_if true l h = h
  each_if false l h = tt

  pub each_made : {B : Type 0} (f : B → A) → ((b : B) → P (f b)) → (l : List B) → Each P (map f l)
  each_made f made [] = tt
  each_made f made (b ∷ l) = (made b, each_made f made l)

  pub each_map : (Q : A → Type 0) (l : List A) → ((a : A) → P a → Q a) → Each P l → Each Q l
  each_map Q [] f h = tt
  each_map Q (a ∷ l) f h = (f a h.0, each_map Q l f h.1)

  -- a function that keeps each of these keeps the list
  pub map_kept : (f : A → A) → ((a : A) → P a → f a ≡ a) → (l : List A) → Each P l → map f l ≡ l
  map_kept f kept [] h = refl
  map_kept f kept (a ∷ l) h = ap₂ (λ x xs. x ∷ xs) (kept a h.0) (map_kept f kept l h.1)

  pub each_mapped : {B : Type 0} (f : B → A) (l : List B) → Each (λ b. P (f b)) l → Each P (map f l)
  each_mapped f [] h = tt
  each_mapped f (b ∷ l) h = (h.0, each_mapped f l h.1)

  pub each_both : (Q : A → Type 0) (l : List A) → Each P l → Each Q l → Each (λ a. P a × Q a) l
  each_both Q [] h k = tt
  each_both Q (a ∷ l) h k = ((h.0, k.0), each_both Q l h.1 k.1)

  pub each_kept : (p : A → Bool) (l : List A) → Each P l → Each P (keep p l)
  unfolding keep
  each_kept p [] h = tt
  each_kept p (a ∷ l) h = go (p a) (each_kept p l h.1)
    where
      go : (b : Bool) → Each P (keep p l) → Each P (cond b (a ∷ keep p l) (keep p l))
      go true r = (h.0, r)
      go false r = r

-- ---- those that pass a test
module _ {A : Type 0} (p : A → Bool) where
  abbrev Passing : List A → Type 0
  Passing l = Each (λ a. p a ≡ true) l

  pub keep_pass : (l : List A) → Passing (keep p l)
  unfolding keep
  keep_pass [] = tt
  keep_pass (a ∷ l) = go (p a) refl (keep_pass l)
    where
      go : (b : Bool) → p a ≡ b → Passing (keep p l) → Passing (cond b (a ∷ keep p l) (keep p l))
      go true e r = (e, r)
      go false e r = r

  -- where all pass
  pub keep_all : (l : List A) → Passing l → keep p l ≡ l
  unfolding keep
  keep_all [] h = refl
  keep_all (a ∷ l) h = rw (h.0, keep_all l h.1)
