-- Carrying out a pair of branches by the lists of its switches: from the live branches of a state it takes one and gives one, also with only some of the
-- moves made, it leaves every other byte, and undoing it gives the state back. From the laws of exchanges on flags and of live branches on bytes.
use Rattle.std.specs.Prelude.{◌≡◌, ◌↔◌, ◌≢◌, Bool, true, false, ℕ, ◌≤◌, ◌<◌, length}
use Rattle.std.proofs.Common.{sym, ◌∙◌, arith, ext_get_or}
use mathlib.Core.List.{List, reverse, Memᴰ}
use Rattle.std.proofs.Math.Decide.{ℕ_discrete}
use Rattle.numbers.specs.Tests.{not_so}
use Rattle.network.specs.Records.{Network}
use Rattle.states.specs.Live.{live}
use Rattle.states.specs.Switches.{State, byte, branch_of, GoodState, in_service}
use Rattle.states.specs.LiveBytes.{On, live_so, live_if, live_same, live_one}
use Rattle.feeders.specs.Feeder.{feeder}
use Rattle.plan.specs.Plan.{Pair, exchanged}
use Rattle.plan.specs.Claim.{set_all}
use Rattle.numbers.specs.Members.{mem_reverse, reverse_mem, mem?}
use Rattle.plan.specs.Sets.{length_all, all_out, all_in}
use Rattle.plan.specs.Exchanges.{Fits, opened_live, pair_differs, closing_closed, opening_opened, exchanged_other}

-- exactly the flagged branches are live in state s
pub record Shows (N : Network) (s : State) (E : ℕ → Bool) : Type 0 where
  pub good : GoodState N s
  pub flags : (k : ℕ) → live N s k ≡ E k

-- the switches at C are all open ones of branch e, those at O are some of branch f
pub record ByLists (N : Network) (s : State) (e f : ℕ) (C O : List ℕ) : Type 0 where
  pub closes : (i : ℕ) → Memᴰ i C ↔ (On N e i × (byte s i ≡ 1))
  pub opens : (i : ℕ) → Memᴰ i O → On N f i
  pub one : (i : ℕ) × Memᴰ i O
  pub served : in_service N e ≡ true

module _ {N : Network} {s : State} {E : ℕ → Bool} {q : Pair} {C O : List ℕ} (h : Shows N s E) (fits : Fits (feeder N) E q) (m : ByLists N s q.closed q.opened C O) where
  abbrev e : ℕ
  e = q.closed

  abbrev f : ℕ
  f = q.opened

  in_state_lem : {k i : ℕ} → On N k i → i < length s
  in_state_lem o = omega (arith, o.listed, h.good.long)

  not_in_C : (i : ℕ) → branch_of N i ≢ e → ¬ Memᴰ i C
  not_in_C i n z = n ((m.closes i).0 z).0.here

  not_in_O : (i : ℕ) → branch_of N i ≢ f → ¬ Memᴰ i O
  not_in_O i n z = n (m.opens i z).here

  pub mid_closed : live N (set_all s C 0) e ≡ true
  mid_closed = live_if N (set_all s C 0) e m.served (λ i o b. go i o b (mem? i C))
    where
      go : (i : ℕ) → On N e i → byte (set_all s C 0) i ≡ 1 → Dec (Memᴰ i C) → ⊥
      go i o b (yes z) = omega (arith, b, all_in s C 0 i (in_state_lem o) z)
      go i o b (no z) = z ((m.closes i).1 (o, sym (all_out s C 0 i z) ∙ b))

  pub mid_other : (k : ℕ) → k ≢ e → live N (set_all s C 0) k ≡ live N s k
  mid_other k n = live_same N (set_all s C 0) s k (λ i o. all_out s C 0 i (not_in_C i (λ p. n (sym o.here ∙ p))))

  -- with any of the openings done, from the first on, branch f is dead and every other as after the closing
  pub opened_some : (A : List ℕ) → ((i : ℕ) → Memᴰ i A → Memᴰ i O) → (i : ℕ) → Memᴰ i A → (k : ℕ) → live N (set_all (set_all s C 0) A 1) k ≡ exchanged E q k
  opened_some A part i z k = go (ℕ_discrete k f) (ℕ_discrete k e)
    where
      other : k ≢ f → live N (set_all (set_all s C 0) A 1) k ≡ live N (set_all s C 0) k
      other n = live_same N (set_all (set_all s C 0) A 1) (set_all s C 0) k (λ j o. all_out (set_all s C 0) A 1 j (λ y. not_in_O j (λ p. n (sym o.here ∙ p)) (part j y)))

      dead : live N (set_all (set_all s C 0) A 1) f ≡ false
      dead = not_so _ (λ t. (live_so N _ f t).1 i (m.opens i (part i z)) (all_in (set_all s C 0) A 1 i (rw length_all (in_state_lem (m.opens i (part i z)))) z))

      go : Dec (k ≡ f) → Dec (k ≡ e) → live N (set_all (set_all s C 0) A 1) k ≡ exchanged E q k
      go (yes p) d = rw p (dead ∙ sym (opening_opened E q))
      go (no n) (yes p) = other n ∙ rw p (mid_closed ∙ sym (closing_closed fits))
      go (no n) (no d) = other n ∙ mid_other k d ∙ h.flags k ∙ sym (exchanged_other E q k d n)

  pub end_flags : (k : ℕ) → live N (set_all (set_all s C 0) O 1) k ≡ exchanged E q k
  end_flags = opened_some O (λ i z. z) m.one.0 m.one.1

  -- with a closing still to come no branch has become live or dead
  pub closed_some : (A : List ℕ) → ((i : ℕ) → Memᴰ i A → Memᴰ i C) → (x : ℕ) → Memᴰ x C → ¬ Memᴰ x A → (k : ℕ) → live N (set_all s A 0) k ≡ live N s k
  closed_some A part x z n k = go (ℕ_discrete k e)
    where
      go : Dec (k ≡ e) → live N (set_all s A 0) k ≡ live N s k
      go (yes p) =
          let o = (m.closes x).0 z in
          rw p (not_so _ (λ t. (live_so N _ e t).1 x o.0 (all_out s A 0 x n ∙ o.1)) ∙ sym (h.flags e ∙ fits.dead))
      go (no d) = live_same N (set_all s A 0) s k (λ j o. all_out s A 0 j (λ y. not_in_C j (λ p. d (sym o.here ∙ p)) (part j y)))

  end_good : GoodState N (set_all (set_all s C 0) O 1)
  end_good = record { long = length_all (set_all s C 0) O 1 ∙ length_all s C 0 ∙ h.good.long; bytes = λ i l. go i l (mem? i O) (mem? i C) }
    where
      go : (i : ℕ) → i < length N.switches → Dec (Memᴰ i O) → Dec (Memᴰ i C) → byte (set_all (set_all s C 0) O 1) i ≤ 1
      go i l (yes z) d = omega (arith, all_in (set_all s C 0) O 1 i (rw length_all (omega (arith, h.good.long))) z)
      go i l (no z) (yes y) = omega (arith, all_out (set_all s C 0) O 1 i z, all_in s C 0 i (omega (arith, h.good.long)) y)
      go i l (no z) (no y) = omega (arith, all_out (set_all s C 0) O 1 i z, all_out s C 0 i y, h.good.bytes i l)

  pub end_shows : Shows N (set_all (set_all s C 0) O 1) (exchanged E q)
  end_shows = record { good = end_good; flags = end_flags }

  pub was_closed : (i : ℕ) → Memᴰ i O → byte s i ≡ 0
  was_closed i z =
      let o = m.opens i z in
      let n : byte s i ≢ 1 = (live_so N s f (h.flags f ∙ (opened_live fits).1)).1 i o in
      omega (arith, h.good.bytes i o.listed)

  -- no switch is both closed and opened
  pub apart_lists : (i : ℕ) → Memᴰ i C → ¬ Memᴰ i O
  apart_lists i y z = pair_differs fits (sym ((m.closes i).0 y).0.here ∙ (m.opens i z).here)

  -- undone, the pair leaves the state as it was
  pub undone : set_all (set_all (set_all (set_all s C 0) O 1) (reverse O) 0) (reverse C) 1 ≡ s
  undone = ext_get_or 0 _ s
      (length_all _ (reverse C) 1 ∙ length_all _ (reverse O) 0 ∙ length_all (set_all s C 0) O 1 ∙ length_all s C 0)
      (λ i l. go i (mem? i C) (mem? i O))
    where
      lu : length (set_all (set_all s C 0) O 1) ≡ length s
      lu = length_all (set_all s C 0) O 1 ∙ length_all s C 0

      go : (i : ℕ) → Dec (Memᴰ i C) → Dec (Memᴰ i O)
          → byte (set_all (set_all (set_all (set_all s C 0) O 1) (reverse O) 0) (reverse C) 1) i ≡ byte s i
      go i (yes y) d =
          all_in _ (reverse C) 1 i (rw (length_all, lu) (in_state_lem ((m.closes i).0 y).0)) (reverse_mem C i y) ∙ sym ((m.closes i).0 y).1
      go i (no y) (yes z) =
          all_out _ (reverse C) 1 i (λ x. y (mem_reverse C i x))
          ∙ all_in _ (reverse O) 0 i (rw lu (in_state_lem (m.opens i z))) (reverse_mem O i z)
          ∙ sym (was_closed i z)
      go i (no y) (no z) =
          all_out _ (reverse C) 1 i (λ x. y (mem_reverse C i x))
          ∙ all_out _ (reverse O) 0 i (λ x. z (mem_reverse O i x))
          ∙ all_out (set_all s C 0) O 1 i z
          ∙ all_out s C 0 i y

  -- then the pair turned round can be carried out
  pub movable_back : ByLists N (set_all (set_all s C 0) O 1) q.opened q.closed (reverse O) (reverse C)
  movable_back = record {
    closes = λ i. (
      λ z. let y = mem_reverse O i z in (m.opens i y, all_in (set_all s C 0) O 1 i (rw length_all (in_state_lem (m.opens i y))) y),
      λ p. reverse_mem O i (was_opened i p.0 p.1 (mem? i O)),
    );
    opens = λ i z. ((m.closes i).0 (mem_reverse C i z)).0;
    one = let x = some_closed in (x.0, reverse_mem C x.0 x.1);
    served = (live_so N s f (h.flags f ∙ (opened_live fits).1)).0;
  }
    where
      was_opened : (i : ℕ) → On N f i → byte (set_all (set_all s C 0) O 1) i ≡ 1 → Dec (Memᴰ i O) → Memᴰ i O
      was_opened i o b (yes z) = z
      was_opened i o b (no z) =
          absurd ((live_so N s f (h.flags f ∙ (opened_live fits).1)).1 i o
          (sym (all_out (set_all s C 0) O 1 i z ∙ all_out s C 0 i (not_in_C i (λ p. pair_differs fits (sym p ∙ o.here)))) ∙ b))

      some_closed : (i : ℕ) × Memᴰ i C
      some_closed =
          let (served, (i, o, n, b)) = live_one N (set_all s C 0) s e mid_closed (h.flags e ∙ fits.dead) in
          (i, (m.closes i).1 (o, b))
