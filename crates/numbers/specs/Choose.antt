-- Choosing among numbers and in lists, by rising position.
use Rattle.std.specs.Prelude.{Bool, false, cond, ◌||◌, List, [], ◌∷◌, ◌++◌, ℕ, zero, suc, eqb}
use Rattle.std.specs.Prelude.{Option, None, Some}
use Rattle.numbers.specs.UpTo.{up_to}

-- the numbers below n that pass the test, rising
unfoldable pub those : (ℕ → Bool) → ℕ → List ℕ
those p n = up_to (λ l i. cond (p i) (l ++ (i ∷ [])) l) [] n

-- the first of a list that passes the test, or what stands in for it where none does
unfoldable pub first_of : (ℕ → Bool) → ℕ → List ℕ → ℕ
first_of p other [] = other
first_of p other (x ∷ l) = cond (p x) x (first_of p other l)

-- the first position at which x stands; the list's length where it does not
unfoldable pub index_of : ℕ → List ℕ → ℕ
index_of x [] = zero
index_of x (y ∷ l) = cond (eqb x y) zero (suc (index_of x l))

-- does x stand in the list?
unfoldable pub among : ℕ → List ℕ → Bool
among x [] = false
among x (y ∷ ys) = eqb x y || among x ys

-- the first answer, where there is one, and else the second
infixr 4 ◌or_else◌
unfoldable pub ◌or_else◌ : {A : Type 0} → Option A → Option A → Option A
Some a or_else b = Some a
None or_else b = b

-- the first answer along a list
unfoldable pub first_some : {A : Type 0} → (ℕ → Option A) → List ℕ → Option A
first_some f [] = None
first_some f (x ∷ l) = f x or_else first_some f l

-- the least number below n that passes the test
unfoldable pub least : (ℕ → Bool) → ℕ → Option ℕ
least p n = up_to (λ found i. found or_else cond (p i) (Some i) None) None n

-- the last answer, by rising numbers below n
unfoldable pub last_some : {A : Type 0} → (ℕ → Option A) → ℕ → Option A
last_some f n = up_to (λ found i. f i or_else found) None n
