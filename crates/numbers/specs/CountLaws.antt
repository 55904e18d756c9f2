-- Counts under two tests, one of which passes where the other does, or all but at one number.
use Rattle.std.specs.Prelude.{◌≡◌, refl, ◌≢◌, Bool, true, false, cond, ℕ, zero, suc, ◌+◌, ◌≤◌, ◌<◌}
use Rattle.std.proofs.Math.Decide.{ℕ_discrete, dec_lt}
use Rattle.std.proofs.Common.{arith}
use Rattle.numbers.specs.Counts.{count, count_yes, count_no}
use Rattle.numbers.specs.Tests.{clash}

pub count_mono : (p q : ℕ → Bool) (n : ℕ) → ((x : ℕ) → x < n → p x ≡ true → q x ≡ true) → count p n ≤ count q n
unfolding count
count_mono p q zero h = omega arith
count_mono p q (suc n) h = go (p n) refl (q n) refl (count_mono p q n (λ x l. h x (omega arith)))
  where
    go : (a : Bool) → p n ≡ a → (b : Bool) → q n ≡ b → count p n ≤ count q n → count p (suc n) ≤ count q (suc n)
    go true e true f ih = omega (arith, count_yes p n e, count_yes q n f)
    go true e false f ih = clash (h n (omega arith) e) f
    go false e true f ih = omega (arith, count_no p n e, count_yes q n f)
    go false e false f ih = omega (arith, count_no p n e, count_no q n f)

-- q passes where p does, but perhaps not at c
pub count_but : (p q : ℕ → Bool) (n c : ℕ) → ((x : ℕ) → x < n → x ≢ c → p x ≡ true → q x ≡ true) → count p n ≤ suc (count q n)
unfolding count
count_but p q zero c h = omega arith
count_but p q (suc n) c h = go (ℕ_discrete n c) (p n) refl (q n) refl (count_but p q n c (λ x l. h x (omega arith)))
  where
    go : Dec (n ≡ c) → (a : Bool) → p n ≡ a → (b : Bool) → q n ≡ b → count p n ≤ suc (count q n) → count p (suc n) ≤ suc (count q (suc n))
    go d true e true f ih = omega (arith, count_yes p n e, count_yes q n f)
    go (yes z) true e false f ih = omega (arith, count_yes p n e, count_no q n f, count_mono p q n (λ x l t. h x (omega arith) (omega arith) t))
    go (no z) true e false f ih = clash (h n (omega arith) z e) f
    go d false e true f ih = omega (arith, count_no p n e, count_yes q n f)
    go d false e false f ih = omega (arith, count_no p n e, count_no q n f)

-- behind a number that passes one more is counted
pub counted_before : (p : ℕ → Bool) (n i : ℕ) → i < n → p i ≡ true → count p i < count p n
counted_before p zero i l t = absurd (omega arith)
counted_before p (suc n) i l t = go (ℕ_discrete i n) (p n) refl (λ k. counted_before p n i k t)
  where
    go : Dec (i ≡ n) → (b : Bool) → p n ≡ b → (i < n → count p i < count p n) → count p i < count p (suc n)
    go (yes e) b q ih = rw (← e, count_yes p i t) (omega arith)
    go (no d) true q ih = omega (arith, count_yes p n q, ih (omega arith))
    go (no d) false q ih = omega (arith, count_no p n q, ih (omega arith))

-- two that pass, with as many before the one as before the other, are the same
pub count_apart : (p : ℕ → Bool) (i j : ℕ) → p i ≡ true → p j ≡ true → count p i ≡ count p j → i ≡ j
count_apart p i j t u e = go (dec_lt i j) (dec_lt j i)
  where
    go : Dec (i < j) → Dec (j < i) → i ≡ j
    go (yes h) d = absurd (omega (arith, counted_before p j i h t))
    go (no h) (yes d) = absurd (omega (arith, counted_before p i j d u))
    go (no h) (no d) = omega arith

-- counted from the front
pub count_front : (p : ℕ → Bool) (n : ℕ) → count p (suc n) ≡ cond (p zero) 1 0 + count (λ k. p (suc k)) n
unfolding count
count_front p zero = go (p zero)
  where
    go : (b : Bool) → cond b 1 0 ≡ cond b 1 0 + 0
    go true = refl
    go false = refl
count_front p (suc n) = go (p (suc n)) (count_front p n)
  where
    go : (b : Bool) → count p (suc n) ≡ cond (p zero) 1 0 + count (λ k. p (suc k)) n
        → cond b (suc (count p (suc n))) (count p (suc n)) ≡ cond (p zero) 1 0 + cond b (suc (count (λ k. p (suc k)) n)) (count (λ k. p (suc k)) n)
    go true e = rw e (omega arith)
    go false e = e
