-- Live branches counted along the array, and the flags behind its end; radiality by the count and the walk.
use mathlib.Core.Path.{◌≡◌, sym}
use mathlib.Core.Bool.{Bool, true, false}
use mathlib.Core.List.{List}
use Prim.Native.Nat.{ℕ, suc, ◌+◌, ◌-◌, min}
use native.Mathlib.Omega.{arith}
use native.Mathlib.Numerals.{add-one}
use lib.ListN.{length, get_or, take, get_or-eq_default}
use lib.Dec.{eqb}
use borrow.Author.Tests.{eq-eqb, ne_eqb}
use Rattle.std.proofs.Common.{refl, ◌∙◌, zero, ◌<◌, ◌≤◌, ◌⊎◌, inl, inr, true≢false, add-one}
use Rattle.std.proofs.lemmas.Bool.{cases_lt}
use Rattle.std.specs.List.{count_by}
use Rattle.std.proofs.lemmas.List.Sums.{count_by_more_yes, count_by_more_no}
use Rattle.std.proofs.lemmas.List.{take_all}
use Rattle.numbers.specs.Counts.{count, count_yes, count_no, count_idle}
use Rattle.graph.specs.declared.rows.Graph.{Graph}
use Rattle.graph.specs.declared.walks.Walk.{Walk}
use Rattle.graph.specs.Walk.{walk_by}
use Rattle.graph.specs.Rows.{flag, row_neighbours, walked, row_radial}

-- the live ones among the first m, as far as the array goes
live_taken : (live : List Bool) (m : ℕ) → count (flag live) m ≡ count_by (λ b. b) (take m live)
live_taken live zero = unfold count in refl
live_taken live (suc m) = go (get_or live m false) refl (cases_lt m (length live)) (live_taken live m)
  where
    go : (b : Bool) → get_or live m false ≡ b → (m < length live) ⊎ (length live ≤ m) → count (flag live) m ≡ count_by (λ b. b) (take m live)
        → count (flag live) (suc m) ≡ count_by (λ b. b) (take (suc m) live)
    go true e (inl l) ih = rw (count_yes (flag live) m e, ← add-one m, count_by_more_yes (λ b. b) live m false l e) (omega (arith, ih))
    go true e (inr l) ih = absurd (true≢false (sym e ∙ get_or-eq_default live false l))
    go false e (inl l) ih = rw (count_no (flag live) m e, ← add-one m, count_by_more_no (λ b. b) live m false l e) ih
    go false e (inr l) ih = rw (count_no (flag live) m e, ih, take_all m live l, take_all (suc m) live (omega arith))

-- the same among the first n, where the array ends before m
pub live_within : (live : List Bool) (m n : ℕ) → length live ≡ 512 → n ≡ min m 512 → count (flag live) m ≡ count_by (λ b. b) (take n live)
live_within live m n long e = go (cases_lt m 512)
  where
    go : (m < 512) ⊎ (512 ≤ m) → count (flag live) m ≡ count_by (λ b. b) (take n live)
    go (inl l) = let same : n ≡ m = omega arith in rw same (live_taken live m)
    go (inr l) = rw (live_taken live m, take_all m live (omega arith), take_all n live (omega arith))

-- one flag more, and the flags behind the array's end
module _ (live : List Bool) (k : ℕ) {n : ℕ} (e : n ≡ count (flag live) k) where
  pub one_live : get_or live k false ≡ true → n + 1 ≡ count (flag live) (k + 1)
  one_live t = rw (add-one k, count_yes (flag live) k t, e) (omega arith)

  pub one_dead : get_or live k false ≡ false → n ≡ count (flag live) (k + 1)
  one_dead t = rw (add-one k, count_no (flag live) k t) e

pub all_counted : (live : List Bool) (m : ℕ) → length live ≡ 512 → count (flag live) (min m 512) ≡ count (flag live) m
all_counted live m l = sym (count_idle (flag live) (min m 512) m (omega arith) (λ x a b. get_or-eq_default live false (omega arith)))

-- radiality by the three tests of the code
module _ (g : Graph) (live : List Bool) where
  pub no_buses_lem : g.bus_count ≡ 0 → true ≡ row_radial g live
  unfolding row_radial
  no_buses_lem e = rw (eq-eqb _ _ e)

  module _ (some : g.bus_count ≡ 0 → ⊥) (total : ℕ) (e : total ≡ count (flag live) g.branch_count) where
    pub wrong_count : (total ≡ g.bus_count - 1 → ⊥) → false ≡ row_radial g live
    unfolding row_radial
    wrong_count n = rw (ne_eqb g.bus_count 0 some, ne_eqb (suc (count (flag live) g.branch_count)) g.bus_count (λ h. n (omega arith)))

    pub right_count : (w : Walk) → total ≡ g.bus_count - 1 → w ≡ walked (walk_by (row_neighbours g live) 0 0) → eqb w.count g.bus_count ≡ row_radial g live
    unfolding row_radial walked
    right_count w h r =
        let s : suc (count (flag live) g.branch_count) ≡ g.bus_count = omega arith in
        rw (ne_eqb g.bus_count 0 some, eq-eqb _ _ s, r)
