-- What holds of an answer where there is one: carried through `cond`, `least` and `first_some`.
use Rattle.std.specs.Prelude.{◌≡◌, refl, Bool, true, false, cond, ℕ}
use mathlib.Core.List.{List, [], ◌∷◌}
use Rattle.std.specs.Prelude.{Option, None, Some}
use Rattle.numbers.specs.UpTo.{up_to_keeps}
use Rattle.numbers.specs.Choose.{least, first_some, ◌or_else◌}

module _ {A : Type 0} (P : A → Type 0) where
  -- P holds of the answer, if there is one
  abbrev pub IfSome : Option A → Type 0
  IfSome None = Unit {0}
  IfSome (Some a) = P a

  pub cond_holds : (b : Bool) (x y : Option A) → (b ≡ true → IfSome x) → IfSome y → IfSome (cond b x y)
  cond_holds true x y h k = h refl
  cond_holds false x y h k = k

  or_else_holds : (x y : Option A) → IfSome x → IfSome y → IfSome (x or_else y)
  unfolding ◌or_else◌
  or_else_holds None y h k = k
  or_else_holds (Some a) y h k = h

  pub first_some_holds : (f : ℕ → Option A) → ((x : ℕ) → IfSome (f x)) → (l : List ℕ) → IfSome (first_some f l)
  unfolding first_some
  first_some_holds f h [] = tt
  first_some_holds f h (x ∷ l) = or_else_holds (f x) (first_some f l) (h x) (first_some_holds f h l)

-- what is found passes the test
pub least_passes : (p : ℕ → Bool) (n : ℕ) → IfSome (λ i. p i ≡ true) (least p n)
unfolding least
least_passes p n = up_to_keeps (λ m. IfSome (λ i. p i ≡ true)) _ None n tt (λ i found l h. or_else_holds _ found _ h (cond_holds _ (p i) (Some i) None (λ e. e) tt))
