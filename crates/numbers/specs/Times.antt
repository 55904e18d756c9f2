-- How often a number stands in a list, and the laws of any count along a list.
use Rattle.std.specs.Prelude.{◌≡◌, refl, Bool, true, false, cond, List, [], ◌∷◌, ◌++◌, map, ℕ, zero, suc, ◌≤◌, eqb, length, get_or}
use Rattle.std.proofs.Common.{ap, ◌∙◌, arith}
use Rattle.std.proofs.lemmas.List.{length-map}
use Rattle.std.proofs.Math.ListN.{get_or-map}
use Rattle.numbers.specs.Counts.{count}
use Rattle.numbers.specs.UpTo.{table}
use Rattle.numbers.specs.TableLaws.{as_table}

-- how often x stands in the list
unfoldable pub times : ℕ → List ℕ → ℕ
times x [] = 0
times x (y ∷ l) = cond (eqb x y) (suc (times x l)) (times x l)

-- a count along a list: one more for each that passes the test
pub record Counting {A : Type 0} (p : A → Bool) (many : List A → ℕ) : Type 0 where
  pub nothing : many [] ≡ 0
  pub one_more : (a : A) (l : List A) → many (a ∷ l) ≡ cond (p a) (suc (many l)) (many l)

module _ {A : Type 0} (p : A → Bool) (many : List A → ℕ) (c : Counting p many) where
  -- one more at the end
  pub counted_last : (l : List A) (a : A) → many (l ++ (a ∷ [])) ≡ cond (p a) (suc (many l)) (many l)
  counted_last [] a = c.one_more a []
  counted_last (b ∷ l) a = c.one_more b (l ++ (a ∷ [])) ∙ rw (counted_last l a, c.one_more b l) (go (p b) (p a) (many l))
    where
      go : (x y : Bool) (n : ℕ) → cond x (suc (cond y (suc n) n)) (cond y (suc n) n) ≡ cond y (suc (cond x (suc n) n)) (cond x (suc n) n)
      go true true n = refl
      go true false n = refl
      go false true n = refl
      go false false n = refl

  pub counted_short : (l : List A) → many l ≤ length l
  counted_short [] = omega (arith, c.nothing)
  counted_short (a ∷ l) = rw (c.one_more a l) (go (p a) (counted_short l))
    where
      go : (b : Bool) → many l ≤ length l → cond b (suc (many l)) (many l) ≤ suc (length l)
      go true h = omega arith
      go false h = omega arith

-- how often x is the key of one of the list
pub times_counting : {A : Type 0} (key : A → ℕ) (x : ℕ) → Counting (λ a. eqb x (key a)) (λ l. times x (map key l))
unfolding times
times_counting key x = record { nothing = refl; one_more = λ a l. refl }

pub times_last : (x : ℕ) (l : List ℕ) (y : ℕ) → times x (l ++ (y ∷ [])) ≡ cond (eqb x y) (suc (times x l)) (times x l)
unfolding times
times_last x = counted_last (eqb x) (times x) (record { nothing = refl; one_more = λ y l. refl })

-- it stands at as many positions
times_table : (f : ℕ → ℕ) (x n : ℕ) → times x (table f n) ≡ count (λ i. eqb x (f i)) n
unfolding times table count
times_table f x zero = refl
times_table f x (suc n) = times_last x (table f n) (f n) ∙ ap (λ t. cond (eqb x (f n)) (suc t) t) (times_table f x n)

pub times_at : {A : Type 0} (key : A → ℕ) (l : List A) (d : A) (x : ℕ) → times x (map key l) ≡ count (λ i. eqb x (key (get_or l i d))) (length l)
times_at key l d x =
    let keys = as_table (λ i. key (get_or l i d)) (length l) (key d) (map key l) (length-map l key) (λ i h. get_or-map key l i d) in
    ap (times x) keys ∙ times_table (λ i. key (get_or l i d)) x (length l)
