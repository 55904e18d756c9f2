-- A state with one switch moved: its branch becomes live or dead where it is in service and no other switch on it is open, and else none does.
-- From a radial state it is radial exactly where none does.
use Rattle.std.specs.Prelude.{◌≡◌, ◌≢◌, Bool, cond, not, ◌&&◌, ℕ, ◌≤◌, ◌<◌, set}
use Rattle.std.proofs.Math.Path.{refl, sym}
use Rattle.std.proofs.Common.{◌∙◌, arith}
use Rattle.std.proofs.Math.Bool.{true, false}
use Rattle.std.proofs.Math.Decide.{ℕ_discrete}
use Rattle.std.proofs.Math.Dec.{eqb}
use Rattle.std.proofs.Math.Seq.{get_or-set_other}
use borrow.Author.Tests.{eq-eqb, eqb-true}
use Rattle.numbers.specs.Tests.{both, clash, not_so}
use Rattle.network.specs.Records.{Network}
use Rattle.network.specs.Inside.{Inside}
use Rattle.states.specs.Live.{live, SameLive}
use Rattle.states.specs.Switches.{State, byte, branch_of, size, toggled, GoodState, in_service}
use Rattle.states.specs.OpenCounts.{open_count, one_open, live_counted, live_toggled}
use Rattle.feeders.specs.Feeder.{radial_in}
use Rattle.states.specs.LiveBytes.{On, live_so, live_less, moved_other, byte_closed}
use Rattle.searches.specs.LiveBranches.{same_radial, radial_part_same}

-- switch i decides whether its branch is live: the branch is in service, and no other switch on it is open, so that as many are open as switch i itself
unfoldable pub decides : Network → State → ℕ → Bool
decides N s i = in_service N (branch_of N i) && eqb (open_count N s (branch_of N i)) (byte s i)

zero_byte : (b : ℕ) → b ≤ 1 → eqb b 1 ≡ false → b ≡ 0
zero_byte b l e = let n : b ≢ 1 = λ q. clash (eq-eqb _ _ q) e in omega arith

module _ (N : Network) (inside : Inside N) (s : State) where
  -- no branch has become live or dead
  pub toggled_same : radial_in N s ≡ true → (i : ℕ) → radial_in N (toggled s i) ≡ true → SameLive N s (toggled s i)
  unfolding toggled
  toggled_same r i = go (eqb (byte s i) 1) refl
    where
      go : (b : Bool) → eqb (byte s i) 1 ≡ b → radial_in N (set s i (cond b 0 1)) ≡ true → SameLive N s (set s i (cond b 0 1))
      go true e v = radial_part_same N inside s (set s i 0) r v (λ k. live_less N (set s i 0) s k (λ j o. opens j (ℕ_discrete j i)))
        where
          opens : (j : ℕ) → Dec (j ≡ i) → byte (set s i 0) j ≡ 1 → byte s j ≡ 1
          opens j (yes q) h = rw q (eqb-true _ _ e)
          opens j (no n) h = sym (get_or-set_other s i j 0 0 n) ∙ h
      go false e v = λ k. sym (radial_part_same N inside (set s i 1) s v r (λ x. live_less N s (set s i 1) x (λ j o. opens j (ℕ_discrete j i))) k)
        where
          opens : (j : ℕ) → Dec (j ≡ i) → byte s j ≡ 1 → byte (set s i 1) j ≡ 1
          opens j (yes q) h = clash (eq-eqb _ _ (rw q at h)) e
          opens j (no n) h = get_or-set_other s i j 1 0 n ∙ h

  module _ (good : GoodState N s) (i : ℕ) (l : i < size N) where
    own : On N (branch_of N i) i
    own = record { listed = l; here = refl }

    abbrev Deciding : Type 0
    Deciding = (in_service N (branch_of N i) ≡ true) × (open_count N s (branch_of N i) ≡ byte s i)

    -- the test in its two parts
    decides_so : decides N s i ≡ true → Deciding
    unfolding decides
    decides_so d = let p = both (in_service N (branch_of N i)) _ d in (p.0, eqb-true _ _ p.1)

    decides_if : Deciding → decides N s i ≡ true
    unfolding decides
    decides_if p = rw p.0 (eq-eqb _ _ p.1)

    -- a switch that decides makes its branch live where it is open
    pub decides_open : decides N s i ≡ true → (eqb (byte s i) 1 && one_open N s (branch_of N i)) ≡ eqb (byte s i) 1
    unfolding one_open
    decides_open d = rw ((decides_so d).0, (decides_so d).1) (go (eqb (byte s i) 1))
      where
        go : (b : Bool) → (b && b) ≡ b
        go true = refl
        go false = refl

    -- and dead where it is closed
    decides_other : decides N s i ≡ true → live N s (branch_of N i) ≢ live N (toggled s i) (branch_of N i)
    decides_other d h = go (eqb (byte s i) 1) refl
      where
        after : live N (toggled s i) (branch_of N i) ≡ eqb (byte s i) 1
        after = live_toggled N s good.long i l ∙ decides_open d

        go : (b : Bool) → eqb (byte s i) 1 ≡ b → ⊥
        go true e = (live_so N s (branch_of N i) (h ∙ after ∙ e)).1 i own (eqb-true _ _ e)
        go false e =
            let closed : byte s i ≡ 0 = zero_byte (byte s i) (good.bytes i l) e in
            clash (live_counted N s (branch_of N i) ∙ rw ((decides_so d).0, (decides_so d).1, closed)) (h ∙ after ∙ e)

    -- another makes none live or dead: its branch is dead, and stays so
    pub undecided_same : decides N s i ≡ false → SameLive N s (toggled s i)
    unfolding toggled one_open
    undecided_same f k = go (ℕ_discrete k (branch_of N i))
      where
        before : live N s (branch_of N i) ≢ true
        before h =
            let p = both (in_service N (branch_of N i)) _ (sym (live_counted N s (branch_of N i)) ∙ h) in
            clash (decides_if (p.0, eqb-true _ _ p.1 ∙ sym (byte_closed N s (branch_of N i) i own (good.bytes i l) h))) f

        after : live N (toggled s i) (branch_of N i) ≢ true
        after h =
            let p = both (eqb (byte s i) 1) _ (sym (live_toggled N s good.long i l) ∙ h) in
            let q = both (in_service N (branch_of N i)) _ p.1 in
            clash (decides_if (q.0, eqb-true _ _ q.1 ∙ sym (eqb-true _ _ p.0))) f

        go : Dec (k ≡ branch_of N i) → live N s k ≡ live N (toggled s i) k
        go (yes q) = rw q (not_so _ before ∙ sym (not_so _ after))
        go (no n) = sym (moved_other N s (branch_of N i) i own _ k n)

    pub toggled_radial : radial_in N s ≡ true → radial_in N (toggled s i) ≡ not (decides N s i)
    toggled_radial r = go (decides N s i) refl
      where
        go : (b : Bool) → decides N s i ≡ b → radial_in N (toggled s i) ≡ not b
        go true e = not_so _ (λ v. decides_other e (toggled_same r i v (branch_of N i)))
        go false e = sym (same_radial N s (toggled s i) (undecided_same e)) ∙ r
