-- The measure of demand 3: how many branches live in the wanted state are missing. A planned pair takes one off it, any other
-- pair at most one.
use Rattle.std.specs.Prelude.{◌≡◌, refl, ◌≢◌, Bool, true, ◌&&◌, eqb, length}
use Rattle.std.proofs.Common.{sym, ◌∙◌, ne_eqb}
use Rattle.std.proofs.Math.Path.{ap}
use Rattle.std.proofs.Math.Bool.{false, cond, not}
use mathlib.Core.List.{List, [], ◌∷◌}
use Prim.Native.Nat.{ℕ, suc, ◌+◌, ◌≤◌, ◌<◌}
use Rattle.std.proofs.Math.Decide.{ℕ_discrete}
use native.Mathlib.Omega.{arith}
use Rattle.std.proofs.lemmas.Bool.{not-true}
use Rattle.numbers.specs.Counts.{count, count_cong, count_none, count_drop}
use Rattle.numbers.specs.CountLaws.{count_but}
use Rattle.numbers.specs.Tests.{both, clash, not_so}
use Rattle.numbers.specs.TableLaws.{get_or_table}
use Rattle.network.specs.Records.{Network}
use Rattle.states.specs.Live.{live}
use Rattle.states.specs.Switches.{State, byte, branch_of}
use Rattle.graph.specs.Graph.{Net}
use Rattle.feeders.specs.Feeder.{feeder}
use Rattle.changes.specs.Change.{only_in}
use Rattle.plan.specs.Plan.{Pair, exchanged}
use Rattle.plan.specs.Claim.{OtherPair, other_carried_out, others_carried_out}
use Rattle.states.specs.LiveBytes.{On, live_less}
use Rattle.plan.specs.Exchanges.{Fits, closing_closed, exchanged_other}

-- how many branches are wanted and not among those flagged
unfoldable pub missing : Net → (ℕ → Bool) → (ℕ → Bool) → ℕ
missing G W E = count (only_in W E) G.branches

module _ (W E : ℕ → Bool) (k : ℕ) where
  pub only_so : only_in W E k ≡ true → (W k ≡ true) × (E k ≡ false)
  only_so h = let p = both (W k) _ h in (p.0, not-true _ p.1)

  only_if : W k ≡ true → E k ≡ false → only_in W E k ≡ true
  only_if p q = rw (p, q)

module _ (G : Net) (W E : ℕ → Bool) where
  pub missing_same : (D : ℕ → Bool) → ((k : ℕ) → k < G.branches → E k ≡ D k) → missing G W E ≡ missing G W D
  unfolding missing
  missing_same D h = count_cong _ _ G.branches (λ k l. ap (λ b. W k && not b) (h k l))

  pub missing_none : ((k : ℕ) → k < G.branches → E k ≡ W k) → missing G W E ≡ 0
  unfolding missing
  missing_none h = count_none _ G.branches (λ k l. not_so _ (λ p. let w = only_so W E k p in clash w.0 (sym (h k l) ∙ w.1)))

  -- a pair that closes a wanted branch and opens one that is not wanted
  pub missing_less : (q : Pair) → Fits G E q → W q.closed ≡ true → W q.opened ≡ false → missing G W E ≡ suc (missing G W (exchanged E q))
  unfolding missing
  missing_less q h c o = count_drop (only_in W E) (only_in W (exchanged E q)) G.branches q.closed h.listed (only_if W E _ c h.dead)
      (not_so _ (λ p. clash (closing_closed h) (only_so W (exchanged E q) _ p).1))
      (λ k l n. same k n (ℕ_discrete k q.opened))
    where
      unwanted : (k : ℕ) → k ≡ q.opened → (D : ℕ → Bool) → only_in W D k ≡ false
      unwanted k e D = not_so _ (λ p. clash (only_so W D k p).0 (ap W e ∙ o))

      same : (k : ℕ) → k ≢ q.closed → Dec (k ≡ q.opened) → only_in W E k ≡ only_in W (exchanged E q) k
      same k n (yes e) = unwanted k e E ∙ sym (unwanted k e (exchanged E q))
      same k n (no m) = ap (λ b. W k && not b) (sym (exchanged_other E q k n m))

module _ (N : Network) (W : ℕ → Bool) where
  -- any other pair makes at most the branch that it closes live
  other_live : (q : OtherPair) (s : State) (k : ℕ) → k ≢ q.closed → live N (other_carried_out N q s) k ≡ true → live N s k ≡ true
  unfolding other_carried_out
  other_live q s k n = live_less N s (other_carried_out N q s) k stays
    where
      put : ℕ → ℕ
      put i = cond (eqb (branch_of N i) q.opened && q.by i) 1 (cond (eqb (branch_of N i) q.closed) 0 (byte s i))

      stays : (i : ℕ) → On N k i → byte s i ≡ 1 → byte (other_carried_out N q s) i ≡ 1
      stays i o b = get_or_table put (length N.switches) i 0 o.listed ∙ go (eqb (branch_of N i) q.opened && q.by i)
        where
          go : (t : Bool) → cond t 1 (cond (eqb (branch_of N i) q.closed) 0 (byte s i)) ≡ 1
          go true = refl
          go false = rw (ne_eqb (branch_of N i) q.closed (λ e. n (sym o.here ∙ e)), b)

  other_missing : (q : OtherPair) (s : State) → missing (feeder N) W (live N s) ≤ suc (missing (feeder N) W (live N (other_carried_out N q s)))
  unfolding missing
  other_missing q s = count_but _ _ (feeder N).branches q.closed (λ k l n h.
      let w = only_so W (live N s) k h in
      only_if W (live N (other_carried_out N q s)) k w.0 (not_so _ (λ t. clash (other_live q s k n t) w.1)))

  pub others_missing : (qs : List OtherPair) (s : State) → missing (feeder N) W (live N s) ≤ length qs + missing (feeder N) W (live N (others_carried_out N qs s))
  unfolding others_carried_out
  others_missing [] s = omega arith
  others_missing (q ∷ qs) s = omega (arith, other_missing q s, others_missing qs (other_carried_out N q s))
