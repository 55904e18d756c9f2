-- Whether every number of a list passes a test, and its laws: by rising position, and of parts of the list.
use Rattle.std.specs.Prelude.{◌≡◌, refl, Bool, true, ◌&&◌, List, [], ◌∷◌, ◌++◌, ℕ, zero, suc, ◌+◌, ◌≤◌, ◌<◌, length, get_or, take, drop}
use Rattle.std.proofs.Common.{add-one, drop_of_length-le, drop-cons}
use Rattle.numbers.specs.Tests.{both}

unfoldable pub every : (ℕ → Bool) → List ℕ → Bool
every p [] = true
every p (x ∷ l) = p x && every p l

-- ---- by rising position
module _ (p : ℕ → Bool) (l : List ℕ) (i : ℕ) where
  pub every_next : i < length l → every p (drop i l) ≡ (p (get_or l i 0) && every p (drop (i + 1) l))
  unfolding every
  every_next h = rw (drop-cons l i 0 h, add-one)

  pub every_end : length l ≤ i → every p (drop i l) ≡ true
  unfolding every
  every_end h = rw (drop_of_length-le l {i = i} h)

-- ---- of parts
pub every_append : (p : ℕ → Bool) (a b : List ℕ) → every p a ≡ true → every p b ≡ true → every p (a ++ b) ≡ true
unfolding every
every_append p [] b e f = f
every_append p (x ∷ xs) b e f = let h = both (p x) (every p xs) e in rw h.0 (every_append p xs b h.1 f)

pub every_take : (p : ℕ → Bool) (n : ℕ) (a : List ℕ) → every p a ≡ true → every p (take n a) ≡ true
unfolding every
every_take p zero a e = refl
every_take p (suc n) [] e = refl
every_take p (suc n) (x ∷ xs) e = let h = both (p x) (every p xs) e in rw h.0 (every_take p n xs h.1)

pub every_drop : (p : ℕ → Bool) (n : ℕ) (a : List ℕ) → every p a ≡ true → every p (drop n a) ≡ true
unfolding every
every_drop p zero a e = e
every_drop p (suc n) [] e = refl
every_drop p (suc n) (x ∷ xs) e = every_drop p n xs (both (p x) (every p xs) e).1
