-- Counting up: what a loop has after n steps, and a table of n entries, with the laws of one step more.
use Rattle.std.specs.Prelude.{◌≡◌, refl, List, [], ◌∷◌, ◌++◌, ℕ, zero, suc, ◌+◌, ◌≤◌, ◌<◌}
use Rattle.std.proofs.Common.{add-one, arith}
use Rattle.std.proofs.Math.Decide.{ℕ_discrete}

-- start after step 0, step 1, .., step (n - 1)
unfoldable pub up_to : {A : Type 0} → (A → ℕ → A) → A → ℕ → A
up_to step start zero = start
up_to step start (suc n) = step (up_to step start n) n

-- one step more, with the code's `n + 1`
pub up_to_more : {A : Type 0} (step : A → ℕ → A) (start : A) (n : ℕ) → up_to step start (n + 1) ≡ step (up_to step start n) n
unfolding up_to
up_to_more step start n = rw (add-one n)

-- what holds at the start and is kept by each step holds at the end
pub up_to_keeps : {A : Type 0} (P : ℕ → A → Type 0) (step : A → ℕ → A) (start : A) (n : ℕ) → P 0 start → ((i : ℕ) (a : A) → i < n → P i a → P (suc i) (step a i))
    → P n (up_to step start n)
unfolding up_to
up_to_keeps P step start zero h keeps = h
up_to_keeps P step start (suc n) h keeps = keeps n (up_to step start n) (omega arith) (up_to_keeps P step start n h (λ i a l. keeps i a (omega arith)))

-- steps that agree
pub up_to_cong : {A : Type 0} (step step' : A → ℕ → A) (start : A) (n : ℕ) → ((a : A) (i : ℕ) → i < n → step a i ≡ step' a i)
    → up_to step start n ≡ up_to step' start n
unfolding up_to
up_to_cong step step' start zero h = refl
up_to_cong step step' start (suc n) h = rw (up_to_cong step step' start n (λ a i l. h a i (omega arith))) (h _ n (omega arith))

-- from step n on nothing changes
pub up_to_idle : {A : Type 0} (step : A → ℕ → A) (start : A) (n m : ℕ) → n ≤ m
    → ((i : ℕ) → n ≤ i → i < m → step (up_to step start n) i ≡ up_to step start n)
    → up_to step start m ≡ up_to step start n
unfolding up_to
up_to_idle step start n zero l h = let e : n ≡ 0 = omega arith in rw e
up_to_idle step start n (suc m) l h = go (ℕ_discrete n (suc m)) (λ k. up_to_idle step start n m k (λ i a b. h i a (omega arith)))
  where
    go : Dec (n ≡ suc m) → (n ≤ m → up_to step start m ≡ up_to step start n) → up_to step start (suc m) ≡ up_to step start n
    go (yes e) ih = rw e
    go (no d) ih = rw (ih (omega arith)) (h m (omega arith) (omega arith))

-- f 0, f 1, .., f (n - 1)
unfoldable pub table {ℓ} : {A : Type ℓ} → (ℕ → A) → ℕ → List A
table f zero = []
table f (suc n) = table f n ++ (f n ∷ [])
