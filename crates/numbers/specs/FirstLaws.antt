-- The least number that passes a test and the first answer along a list, by rising position as a loop finds them.
use Rattle.std.specs.Prelude.{◌≡◌, ◌⊎◌, Bool, List, length, get_or, drop}
use Rattle.std.proofs.Math.Path.{refl, ap}
use Rattle.std.proofs.Common.{sym, ◌∙◌, drop_of_length-le, drop-cons}
use Rattle.std.proofs.Math.Logic.{inl, inr}
use Rattle.std.proofs.Math.Bool.{true, false, cond}
use Rattle.std.specs.Prelude.{Option, None, Some}
use Prim.Native.Nat.{ℕ, zero, suc, ◌+◌, ◌≤◌, ◌<◌}
use Rattle.std.proofs.Math.Decide.{ℕ_discrete}
use Rattle.std.proofs.Math.Numerals.{add-one}
use native.Mathlib.Omega.{arith}
use Rattle.numbers.specs.UpTo.{up_to, up_to_more, up_to_idle}
use Rattle.numbers.specs.Choose.{least, first_some, ◌or_else◌}
use Rattle.numbers.specs.IfSome.{IfSome}

-- ---- the least number that passes a test, by rising position
or_none : (found : Option ℕ) → (found or_else None) ≡ found
unfolding ◌or_else◌
or_none None = refl
or_none (Some j) = refl

-- it is found: it passes, and none before it does; or none below n passes
abbrev pub LeastCases : (ℕ → Bool) → ℕ → Type 0
LeastCases p n = ((i : ℕ) × (least p n ≡ Some i) × (i < n) × (p i ≡ true) × ((j : ℕ) → j < i → p j ≡ false)) ⊎ ((least p n ≡ None) × ((i : ℕ) → i < n → p i ≡ false))

module _ (p : ℕ → Bool) where
  -- a number more that does not pass
  pub least_same : (i : ℕ) → p i ≡ false → least p (i + 1) ≡ least p i
  unfolding least
  least_same i f = up_to_more _ None i ∙ rw f (or_none (least p i))

  -- one that was found stays
  pub least_kept : (i j : ℕ) → least p i ≡ Some j → least p (i + 1) ≡ Some j
  unfolding least ◌or_else◌
  least_kept i j e = up_to_more _ None i ∙ rw e

  -- numbers more of which none passes
  pub least_idle : (n m : ℕ) → n ≤ m → ((i : ℕ) → n ≤ i → i < m → p i ≡ false) → least p m ≡ least p n
  unfolding least
  least_idle n m h f = up_to_idle _ None n m h (λ i a b. rw (f i a b) (or_none (least p n)))

  -- one that passes, and none before it
  pub least_found : (i : ℕ) → p i ≡ true → least p i ≡ None → least p (i + 1) ≡ Some i
  unfolding least ◌or_else◌
  least_found i t e = up_to_more _ None i ∙ rw (e, t)

  pub least_none : (n : ℕ) → ((i : ℕ) → i < n → p i ≡ false) → least p n ≡ None
  least_none zero h = unfold least up_to in refl
  least_none (suc n) h = ap (least p) (sym (add-one n)) ∙ least_same n (h n (omega arith)) ∙ least_none n (λ i l. h i (omega arith))

  pub least_below : (n : ℕ) → IfSome (λ i. i < n) (least p n)
  unfolding least up_to ◌or_else◌
  least_below zero = tt
  least_below (suc n) = go (least p n) (p n) (least_below n)
    where
      go : (found : Option ℕ) (b : Bool) → IfSome (λ i. i < n) found → IfSome (λ i. i < suc n) (found or_else cond b (Some n) None)
      go None true h = omega arith
      go None false h = tt
      go (Some i) true h = omega arith
      go (Some i) false h = omega arith

  pub least_cases : (n : ℕ) → LeastCases p n
  least_cases zero = inr (unfold least up_to in refl, λ i l. absurd (omega arith))
  least_cases (suc n) = go (p n) refl (least_cases n)
    where
      more : least p (suc n) ≡ (least p n or_else cond (p n) (Some n) None)
      more = unfold least up_to in refl

      go : (b : Bool) → p n ≡ b → LeastCases p n → LeastCases p (suc n)
      go b e (inl (i, f, l, t, h)) = inl (i, more ∙ rw f (unfold ◌or_else◌ in refl), omega arith, t, h)
      go true e (inr (f, h)) = inl (n, more ∙ rw (f, e) (unfold ◌or_else◌ in refl), omega arith, e, h)
      go false e (inr (f, h)) = inr (more ∙ rw (f, e) (unfold ◌or_else◌ in refl), λ i l. at i l (ℕ_discrete i n))
        where
          at : (i : ℕ) → i < suc n → Dec (i ≡ n) → p i ≡ false
          at i l (yes q) = ap p q ∙ e
          at i l (no q) = h i (omega arith)

-- ---- the first answer along a list, by rising position
module _ {A : Type 0} (f : ℕ → Option A) (l : List ℕ) (i : ℕ) where
  pub first_next : i < length l → f (get_or l i 0) ≡ None → first_some f (drop i l) ≡ first_some f (drop (i + 1) l)
  unfolding first_some ◌or_else◌
  first_next h e = rw (drop-cons l i 0 h, add-one, e)

  pub first_found : (a : A) → i < length l → f (get_or l i 0) ≡ Some a → first_some f (drop i l) ≡ Some a
  unfolding first_some ◌or_else◌
  first_found a h e = rw (drop-cons l i 0 h, e)

  pub first_none : length l ≤ i → first_some f (drop i l) ≡ None
  unfolding first_some
  first_none h = rw (drop_of_length-le l {i = i} h)
