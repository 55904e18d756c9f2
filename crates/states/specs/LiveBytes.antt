-- What is live in a state, said by the bytes of the switches on a branch, and what is live after a switch has moved.
use Rattle.std.specs.Prelude.{◌≡◌, ◌⊎◌, ◌≢◌, false, ◌&&◌, List, [], ◌∷◌, ℕ, zero, suc, ◌≤◌, ◌<◌, eqb, length, get_or, set}
use Rattle.std.proofs.Common.{sym, ap, ◌∙◌, inl, inr, arith, get_or-set_same, get_or-set_other, eq-eqb, eqb-true}
use Rattle.std.proofs.Math.Bool.{true, not, or-true}
use Rattle.std.proofs.lemmas.Bool.{false≢true, not-true}
use Rattle.std.proofs.Math.Decide.{dec_lt}
use Rattle.std.proofs.Math.ListN.{get_or-eq_default}
use Rattle.numbers.specs.Tests.{both, either, which, clash, not_so, same_test}
use Rattle.network.specs.declared.switch.Switch.{Switch}
use Rattle.network.specs.Records.{Network, no_branch, no_switch}
use Rattle.states.specs.Live.{live, open_on}
use Rattle.states.specs.Switches.{State, byte, branch_of, in_service}

-- switch i is on branch k
pub record On (N : Network) (k i : ℕ) : Type 0 where
  pub listed : i < length N.switches
  pub here : branch_of N i ≡ k

open_yes : (ws : List Switch) (s : State) (k i : ℕ) → i < length ws → (get_or ws i no_switch).branch_idx ≡ k → byte s i ≡ 1 → open_on ws s k ≡ true
unfolding open_on
open_yes [] s k i l e b = absurd (omega arith)
open_yes (w ∷ ws) [] k i l e b = absurd (omega arith)
open_yes (w ∷ ws) (c ∷ s) k zero l e b = rw (eq-eqb _ _ e, eq-eqb _ _ b)
open_yes (w ∷ ws) (c ∷ s) k (suc i) l e b = rw (open_yes ws s k i (omega arith) e b) (or-true (eqb w.branch_idx k && eqb c 1))

open_find : (ws : List Switch) (s : State) (k : ℕ) → open_on ws s k ≡ true → (i : ℕ) × (i < length ws) × ((get_or ws i no_switch).branch_idx ≡ k) × (byte s i ≡ 1)
unfolding open_on
open_find [] s k h = absurd (false≢true h)
open_find (w ∷ ws) [] k h = absurd (false≢true h)
open_find (w ∷ ws) (c ∷ s) k h = go (either _ _ h) (open_find ws s k)
  where
    go : ((eqb w.branch_idx k && eqb c 1) ≡ true) ⊎ (open_on ws s k ≡ true)
        → (open_on ws s k ≡ true → (i : ℕ) × (i < length ws) × ((get_or ws i no_switch).branch_idx ≡ k) × (byte s i ≡ 1))
        → (i : ℕ) × (i < suc (length ws)) × ((get_or (w ∷ ws) i no_switch).branch_idx ≡ k) × (byte (c ∷ s) i ≡ 1)
    go (inl e) ih = let p = both (eqb w.branch_idx k) _ e in (zero, omega arith, eqb-true _ _ p.0, eqb-true _ _ p.1)
    go (inr e) ih = let (i, l, p, b) = ih e in (suc i, omega arith, p, b)

module _ (N : Network) (s : State) (k : ℕ) where
  -- a live branch is in service, and no switch on it is open
  pub live_so : live N s k ≡ true → (in_service N k ≡ true) × ((i : ℕ) → On N k i → byte s i ≢ 1)
  unfolding live
  live_so h =
      let p = both (get_or N.branches k no_branch).status _ h in
      (p.0, λ i o b. clash (open_yes N.switches s k i o.listed o.here b) (not-true _ p.1))

  pub live_if : in_service N k ≡ true → ((i : ℕ) → On N k i → byte s i ≢ 1) → live N s k ≡ true
  unfolding live
  live_if t h = rw t (ap not (not_so _ closed))
    where
      closed : open_on N.switches s k ≢ true
      closed e = let (i, l, p, b) = open_find N.switches s k e in h i (record { listed = l; here = p }) b

  -- on a branch in service that is not live there is an open switch
  live_not : in_service N k ≡ true → live N s k ≡ false → (i : ℕ) × On N k i × (byte s i ≡ 1)
  unfolding live
  live_not t h = go (which (open_on N.switches s k))
    where
      go : (open_on N.switches s k ≡ true) ⊎ (open_on N.switches s k ≡ false) → (i : ℕ) × On N k i × (byte s i ≡ 1)
      go (inl e) = let (i, l, p, b) = open_find N.switches s k e in (i, record { listed = l; here = p }, b)
      go (inr e) = clash (rw (t, e)) h

  -- only listed branches are live
  pub live_listed : live N s k ≡ true → k < length N.branches
  live_listed h = go (dec_lt k (length N.branches))
    where
      go : Dec (k < length N.branches) → k < length N.branches
      go (yes l) = l
      go (no n) = clash (live_so h).0 (ap (λ b. b.status) (get_or-eq_default N.branches no_branch (omega arith)))

module _ (N : Network) (s t : State) (k : ℕ) where
  -- where every open switch of branch k stays open, the branch does not become live
  pub live_less : ((i : ℕ) → On N k i → byte s i ≡ 1 → byte t i ≡ 1) → live N t k ≡ true → live N s k ≡ true
  live_less h l = let p = live_so N t k l in live_if N s k p.0 (λ i o b. p.1 i o (h i o b))

  -- where no switch of branch k moves, the branch is live or not as before
  pub live_same : ((i : ℕ) → On N k i → byte s i ≡ byte t i) → live N s k ≡ live N t k
  live_same h = same_test _ _
      (λ l. let p = live_so N s k l in live_if N t k p.0 (λ i o b. p.1 i o (h i o ∙ b)))
      (live_less (λ i o b. sym (h i o) ∙ b))

  -- a branch live in s only: it is in service, and on it is a switch that is open in t and not in s
  pub live_one : live N s k ≡ true → live N t k ≡ false → (in_service N k ≡ true) × ((i : ℕ) × On N k i × (byte s i ≢ 1) × (byte t i ≡ 1))
  live_one h d =
      let p = live_so N s k h in
      let (i, o, b) = live_not N t k p.0 d in
      (p.0, (i, o, p.1 i o, b))

-- after switch i, on branch k, has moved
module _ (N : Network) (s : State) (k i : ℕ) (o : On N k i) where
  pub moved_other : (b x : ℕ) → x ≢ k → live N (set s i b) x ≡ live N s x
  moved_other b x n = live_same N (set s i b) s x (λ j p. get_or-set_other s i j b 0 (λ e. n (sym p.here ∙ ap (branch_of N) e ∙ o.here)))

  pub opened_dead : length s ≡ length N.switches → live N (set s i 1) k ≡ false
  opened_dead long = not_so _ (λ h. (live_so N (set s i 1) k h).1 i o (get_or-set_same s i 1 0 (omega (arith, o.listed))))

  pub byte_closed : byte s i ≤ 1 → live N s k ≡ true → byte s i ≡ 0
  byte_closed b h = let n : byte s i ≢ 1 = (live_so N s k h).1 i o in omega arith
