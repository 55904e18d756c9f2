-- Where a line ends, as it is found: the first line feed among so many characters, or behind the last of them.
use mathlib.Core.Path.{◌≡◌, refl, sym, subst}
use mathlib.Core.Bool.{Bool, true, false, cond}
use mathlib.Core.List.{List, [], ◌∷◌}
use mathlib.Core.Logic.{◌⊎◌, inl, inr}
use Prim.Native.Nat.{ℕ, zero, suc, ◌≤◌, min}
use native.Mathlib.Omega.{arith}
use Rattle.std.proofs.Math.Nat.{min_comm}
use lib.Dec.{eqb}
use lib.ListN.{length, take, get_or}
use borrow.Author.Tests.{eq-eqb, ne_eqb, eqb-true, eqb-false}
use Rattle.numbers.specs.Choose.{index_of}
use Rattle.numbers.specs.Every.{every}
use Rattle.numbers.specs.Parts.{take_within}
use Rattle.lines.specs.CutLaws.{no_feed}
use Rattle.lines.specs.FirstLine.{LineEnd}

-- n of the first k characters come before a line feed or the end
abbrev Ended : ℕ → List ℕ → ℕ → Type 0
Ended k t n = (n ≤ length t) × (every no_feed (take n t) ≡ true) × ((k ≤ n) ⊎ (n ≡ length t) ⊎ (get_or t n 0 ≡ 10))

first_feed : (k : ℕ) (t : List ℕ) → Ended k t (index_of 10 (take k t))
unfolding index_of every
first_feed zero t = (omega arith, refl, inl (omega arith))
first_feed (suc k) [] = (omega arith, refl, inr (inl refl))
first_feed (suc k) (c ∷ t) = go (eqb c 10) refl (first_feed k t)
  where
    ends : {n : ℕ} → (k ≤ n) ⊎ (n ≡ length t) ⊎ (get_or t n 0 ≡ 10) → (suc k ≤ suc n) ⊎ (suc n ≡ suc (length t)) ⊎ (get_or t n 0 ≡ 10)
    ends (inl h) = inl (omega arith)
    ends (inr (inl e)) = inr (inl (omega arith))
    ends (inr (inr e)) = inr (inr e)

    go : (b : Bool) → eqb c 10 ≡ b → Ended k t (index_of 10 (take k t)) → Ended (suc k) (c ∷ t) (cond (eqb 10 c) zero (suc (index_of 10 (take k t))))
    go true e f = rw (eq-eqb 10 c (sym (eqb-true c 10 e))) (omega arith, refl, inr (inr (eqb-true c 10 e)))
    go false e f = rw (ne_eqb 10 c (λ q. eqb-false c 10 e (sym q))) (omega arith, rw (e, f.1), ends f.2)

-- the first line: its end is among the first 37 characters
pub line_ends : (t : List ℕ) (size n : ℕ) → size ≡ min (length t) 37 → n ≡ index_of 10 (take size t) → LineEnd t n
line_ends t size n s e =
    let found : n ≡ index_of 10 (take 37 t) = rw (e, s, min_comm, take_within) refl in
    let f = subst (Ended 37 t) (sym found) (first_feed 37 t) in
    record { within = f.0; no_feed_lem = f.1; ends = f.2 }
