-- A list without repetition whose entries are matched with different entries of another is not longer than it.
use Rattle.std.specs.Prelude.{◌≡◌, refl, ◌⊎◌, ◌≢◌, ℕ, suc, ◌≤◌, length}
use Rattle.std.proofs.Common.{sym, ◌∙◌, inl, inr, arith}
use mathlib.Core.List.Memᴰ
use mathlib.Core.List.{List, [], ◌∷◌, Memᴰ}
use Rattle.std.proofs.Math.Decide.{ℕ_discrete}
use Rattle.numbers.specs.Distinct.{Distinct}

-- an entry taken out: one less, and every other is still there
record Without (m : List ℕ) (y : ℕ) : Type 0 where
  pub rest : List ℕ
  pub one_less : length m ≡ suc (length rest)
  pub others : (z : ℕ) → Memᴰ z m → z ≢ y → Memᴰ z rest

without : (m : List ℕ) (y : ℕ) → Memᴰ y m → Without m y
without [] y i = absurd (Memᴰ.not-nil i)
without (w ∷ m) y i = go (ℕ_discrete y w) (Memᴰ.cases_cons i) (without m y)
  where
    first : y ≡ w → (z : ℕ) → z ≢ y → (z ≡ w) ⊎ Memᴰ z m → Memᴰ z m
    first e z n (inl q) = absurd (n (q ∙ sym e))
    first e z n (inr k) = k

    later : (t : Without m y) (z : ℕ) → z ≢ y → (z ≡ w) ⊎ Memᴰ z m → Memᴰ z (w ∷ t.rest)
    later t z n (inl q) = Memᴰ.head q
    later t z n (inr k) = Memᴰ.tail (t.others z k n)

    go : Dec (y ≡ w) → (y ≡ w) ⊎ Memᴰ y m → (Memᴰ y m → Without m y) → Without (w ∷ m) y
    go (yes e) c ih = record { rest = m; one_less = refl; others = λ z k n. first e z n (Memᴰ.cases_cons k) }
    go (no d) (inl e) ih = absurd (d e)
    go (no d) (inr k) ih =
        let t = ih k in
        record { rest = w ∷ t.rest; one_less = omega (arith, t.one_less); others = λ z j n. later t z n (Memᴰ.cases_cons j) }

module _ (R : ℕ → ℕ → Type 0) where
  pub matched_short : (l m : List ℕ) → Distinct l → ((x : ℕ) → Memᴰ x l → (y : ℕ) × Memᴰ y m × R x y)
      → ((x z y : ℕ) → Memᴰ x l → Memᴰ z l → R x y → R z y → x ≡ z) → length l ≤ length m
  matched_short [] m d match own = omega arith
  matched_short (x ∷ l) m d match own =
      let here = match x (Memᴰ.head refl) in
      let t = without m here.0 here.1 in
      let less = matched_short l t.rest d.1 (λ z i. other t z i (match z (Memᴰ.tail i))) (λ z w y i j. own z w y (Memᴰ.tail i) (Memᴰ.tail j)) in
      omega (arith, t.one_less, less)
    where
      other : (t : Without m (match x (Memᴰ.head refl)).0) (z : ℕ) → Memᴰ z l → (y : ℕ) × Memᴰ y m × R z y → (y : ℕ) × Memᴰ y t.rest × R z y
      other t z i (y, k, r) = (y, t.others y k (λ e. d.0 (Memᴰ.cast (same e) i)), r)
        where
          same : y ≡ (match x (Memᴰ.head refl)).0 → x ≡ z
          same e = own x z y (Memᴰ.head refl) (Memᴰ.tail i) (rw e (match x (Memᴰ.head refl)).2) r
