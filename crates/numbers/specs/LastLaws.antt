-- The last answer: one number more, and what holds of it.
use Rattle.std.specs.Prelude.{◌≡◌, ℕ, ◌+◌, ◌<◌}
use Rattle.std.specs.Prelude.{Option, None, Some}
use Rattle.numbers.specs.IfSome.{IfSome}
use Rattle.numbers.specs.UpTo.{up_to_more, up_to_keeps}
use Rattle.numbers.specs.Choose.{◌or_else◌, last_some}

module _ {A : Type 0} (f : ℕ → Option A) where
  -- with the code's `n + 1`
  pub last_more : (n : ℕ) → last_some f (n + 1) ≡ (f n or_else last_some f n)
  unfolding last_some
  last_more n = up_to_more _ None n

  -- what holds of every answer holds of the last
  pub last_holds : (P : A → Type 0) (n : ℕ) → ((i : ℕ) → i < n → IfSome P (f i)) → IfSome P (last_some f n)
  unfolding last_some ◌or_else◌
  last_holds P n each = up_to_keeps (λ m. IfSome P) _ None n tt (λ i found l h. go (f i) found (each i l) h)
    where
      go : (x found : Option A) → IfSome P x → IfSome P found → IfSome P (x or_else found)
      go None found w h = h
      go (Some a) found w h = w
