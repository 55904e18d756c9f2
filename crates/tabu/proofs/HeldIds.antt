-- The barred ids: an id is among them where a search of the slice finds it; and the last 7 with one more are all ids, or those behind the earliest.
use Rattle.std.specs.Prelude.{◌≡◌, List, [], ◌∷◌, ◌++◌, ℕ, ◌-◌, ◌<◌, length, drop}
use Rattle.std.proofs.Common.{refl, sym, ◌∙◌, arith, length-append}
use Rattle.std.proofs.Math.Decide.{ℕ_discrete}
use Rattle.std.proofs.Math.Dec.{eqb}
use Rattle.std.proofs.lemmas.List.{drop-append-le}
use borrow.Author.Tests.{ne_eqb}
use Rattle.std.specs.List.{list_any}
use Rattle.numbers.specs.Choose.{among}
use Rattle.tabu.specs.Tabu.{last_seven}

either_way : (x y : ℕ) → eqb y x ≡ eqb x y
either_way x y = go (ℕ_discrete x y)
  where
    go : Dec (x ≡ y) → eqb y x ≡ eqb x y
    go (yes e) = rw e
    go (no n) = ne_eqb y x (λ e. n (sym e)) ∙ sym (ne_eqb x y n)

pub any_among : (x : ℕ) (l : List ℕ) → list_any (λ y. eqb y x) l ≡ among x l
unfolding among
any_among x [] = refl
any_among x (y ∷ l) = rw (either_way x y, any_among x l)

module _ (l : List ℕ) (id : ℕ) where
  pub last_all : length l < 7 → l ++ (id ∷ []) ≡ last_seven (l ++ (id ∷ []))
  unfolding last_seven
  last_all h =
      let z : length (l ++ (id ∷ [])) - 7 ≡ 0 = omega (arith, length-append l (id ∷ [])) in
      rw z

  pub last_but_first : length l ≡ 7 → drop 1 l ++ (id ∷ []) ≡ last_seven (l ++ (id ∷ []))
  unfolding last_seven
  last_but_first h =
      let z : length (l ++ (id ∷ [])) - 7 ≡ 1 = omega (arith, length-append l (id ∷ [])) in
      rw z (sym (drop-append-le 1 l (id ∷ []) (omega arith)))
