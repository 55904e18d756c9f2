-- Choosing by rising position as a loop goes: the numbers from i on that pass a test, one number less at each turn.
use Rattle.std.specs.Prelude.{◌≡◌, ◌⊎◌, Bool}
use Rattle.std.proofs.Math.Path.{refl}
use Rattle.std.proofs.Common.{ap, ◌∙◌, inl, inr}
use Rattle.std.proofs.Math.Bool.{true, false, cond}
use mathlib.Core.List.Memᴰ
use mathlib.Core.List.{List, [], ◌∷◌, ◌++◌, append_assoc, append-nil, Memᴰ}
use Prim.Native.Nat.{ℕ, zero, suc, ◌+◌, ◌-◌, ◌≤◌, ◌<◌}
use native.Mathlib.Omega.{arith}
use Rattle.numbers.specs.UpTo.{up_to}
use Rattle.numbers.specs.Choose.{those}
use Rattle.numbers.specs.ChooseLaws.{those_more}

module _ (p : ℕ → Bool) where
  -- of the m numbers from i on
  unfoldable chosen : ℕ → ℕ → List ℕ
  chosen zero i = []
  chosen (suc m) i = cond (p i) (i ∷ chosen m (suc i)) (chosen m (suc i))

  of_chosen : (m i j : ℕ) → Memᴰ j (chosen m i) → (i ≤ j) × (p j ≡ true)
  unfolding chosen
  of_chosen zero i j z = absurd (Memᴰ.not-nil z)
  of_chosen (suc m) i j z = go (p i) refl z (of_chosen m (suc i) j)
    where
      later : (suc i ≤ j) × (p j ≡ true) → (i ≤ j) × (p j ≡ true)
      later (l, t) = (omega arith, t)

      go : (b : Bool) → p i ≡ b → Memᴰ j (cond b (i ∷ chosen m (suc i)) (chosen m (suc i))) → (Memᴰ j (chosen m (suc i)) → (suc i ≤ j) × (p j ≡ true)) → (i ≤ j) × (p j ≡ true)
      go true t z ih = first (Memᴰ.cases_cons z)
        where
          first : (j ≡ i) ⊎ Memᴰ j (chosen m (suc i)) → (i ≤ j) × (p j ≡ true)
          first (inl e) = (omega arith, ap p e ∙ t)
          first (inr y) = later (ih y)
      go false t z ih = later (ih z)

  those_chosen : (m i n : ℕ) → n ≡ m + i → those p n ≡ those p i ++ chosen m i
  unfolding chosen
  those_chosen zero i n e = let f : n ≡ i = omega arith in rw (f, append-nil)
  those_chosen (suc m) i n e = those_chosen m (suc i) n (omega arith) ∙ rw (those_more p i) (go (p i))
    where
      go : (b : Bool) → cond b (those p i ++ (i ∷ [])) (those p i) ++ chosen m (suc i) ≡ those p i ++ cond b (i ∷ chosen m (suc i)) (chosen m (suc i))
      go true = append_assoc (those p i) (i ∷ []) (chosen m (suc i))
      go false = refl

  module _ (n : ℕ) where
    -- those below n from i on
    pub onward : ℕ → List ℕ
    onward i = chosen (n - i) i

    pub of_onward : (i j : ℕ) → Memᴰ j (onward i) → (i ≤ j) × (p j ≡ true)
    unfolding onward
    of_onward i j = of_chosen (n - i) i j

    pub onward_all : those p n ≡ onward 0
    unfolding onward those up_to
    onward_all = those_chosen (n - 0) 0 n (omega arith)

    pub onward_none : (i : ℕ) → n ≤ i → onward i ≡ []
    unfolding onward chosen
    onward_none i h = let e : n - i ≡ 0 = omega arith in rw e

    module _ (i : ℕ) (h : i < n) where
      one : onward i ≡ cond (p i) (i ∷ onward (i + 1)) (onward (i + 1))
      unfolding onward chosen
      one = let e : n - i ≡ suc (n - (i + 1)) = omega arith in let f : suc i ≡ i + 1 = omega arith in rw (e, f)

      pub onward_yes : p i ≡ true → onward i ≡ i ∷ onward (i + 1)
      onward_yes e = one ∙ rw e

      pub onward_no : p i ≡ false → onward i ≡ onward (i + 1)
      onward_no e = one ∙ rw e
