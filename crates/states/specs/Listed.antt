-- What the checks leave for the code behind them: the records as they are listed, counts inside the arrays, and a byte for each switch.
use Rattle.std.specs.Prelude.{◌≡◌, refl, ◌↔◌, Bool, true, false, cond, not, ◌&&◌, [], ◌∷◌, ℕ, zero, suc, ◌≤◌, ◌<◌, leb, eqb, length}
use Rattle.std.specs.List.{list_all}
use Rattle.std.proofs.Common.{ap, arith, eqb-true, eq-eqb, leb-true, le-leb}
use Rattle.std.proofs.Math.ListN.{get_or}
use Rattle.numbers.specs.TableLaws.{length_table, get_or_table}
use Rattle.numbers.specs.Tests.{both}
use Rattle.numbers.specs.Every.{every}
use Rattle.network.specs.declared.switch.Switch.{Switch}
use Rattle.network.specs.declared.topology.PowerNetwork.{PowerNetwork}
use Rattle.network.specs.Records.{Network, no_bus, no_branch, no_switch, records_of}
use Rattle.network.specs.Answers.{accepted, refused, ◌if◌, judge}
use Rattle.network.specs.AnswerLaws.{judge_accepted}
use Rattle.network.specs.Check.{check_records}
use Rattle.network.specs.Inside.{Inside}
use Rattle.network.specs.InsideLaws.{check_inside}
use Rattle.network.specs.Positions.{on_a_branch}
use Rattle.states.specs.Live.{check_state}
use Rattle.states.specs.Switches.{State, byte, GoodState, switch}

-- ---- the records of a value
module _ (n : PowerNetwork) where
  pub buses_listed : length (records_of n).buses ≡ n.bus_count
  unfolding records_of
  buses_listed = length_table _ n.bus_count

  pub branches_listed : length (records_of n).branches ≡ n.branch_count
  unfolding records_of
  branches_listed = length_table _ n.branch_count

  pub switches_listed : length (records_of n).switches ≡ n.switch_count
  unfolding records_of
  switches_listed = length_table _ n.switch_count

  pub bus_at : (i : ℕ) → i < n.bus_count → get_or (records_of n).buses i no_bus ≡ get_or n.buses i no_bus
  unfolding records_of
  bus_at i h = get_or_table (λ j. get_or n.buses j no_bus) n.bus_count i no_bus h

  pub branch_at : (k : ℕ) → k < n.branch_count → get_or (records_of n).branches k no_branch ≡ get_or n.branches k no_branch
  unfolding records_of
  branch_at k h = get_or_table (λ j. get_or n.branches j no_branch) n.branch_count k no_branch h

  pub switch_at_lem : (i : ℕ) → i < n.switch_count → switch (records_of n) i ≡ get_or n.switches i no_switch
  unfolding records_of
  switch_at_lem i h = get_or_table (λ j. get_or n.switches j no_switch) n.switch_count i no_switch h

  -- ---- of a value that is accepted
  module _ (ok : check_records (records_of n) ≡ accepted tt) where
    inside : Inside (records_of n)
    inside = (check_inside (records_of n)).0 ok

    pub few_buses : n.bus_count ≤ 256
    few_buses = omega (arith, inside.counts.0, buses_listed)

    pub few_branches : n.branch_count ≤ 512
    few_branches = omega (arith, inside.counts.1, branches_listed)

    pub few_switches : n.switch_count ≤ 512
    few_switches = omega (arith, inside.counts.2, switches_listed)

    pub rounds_few : n.max_iterations ≤ 1000
    rounds_few = unfold records_of in inside.iterations

    module _ (i : ℕ) (h : i < n.switch_count) where
      -- a switch is on a listed branch
      pub switch_listed : (get_or n.switches i no_switch).branch_idx < n.branch_count
      switch_listed = omega (arith, on_a_branch (records_of n) inside i (omega (arith, switches_listed)), ap (λ (w : Switch). w.branch_idx) (switch_at_lem i h), branches_listed)

      pub switch_small : (get_or n.switches i no_switch).branch_idx < 512
      switch_small = omega (arith, switch_listed, few_branches)

-- ---- states
every_byte : (s : State) → (every (λ b. leb b 1) s ≡ true) ↔ ((i : ℕ) → i < length s → byte s i ≤ 1)
unfolding every
every_byte [] = (λ e i b. absurd (omega arith), λ h. refl)
every_byte (x ∷ s) = (λ e. fore (both (leb x 1) _ e).0 ((every_byte s).0 (both (leb x 1) _ e).1), λ h. rw (le-leb x 1 (h 0 (omega arith)), (every_byte s).1 (λ i b. h (suc i) (omega arith))))
  where
    fore : leb x 1 ≡ true → ((i : ℕ) → i < length s → byte s i ≤ 1) → (i : ℕ) → i < length (x ∷ s) → byte (x ∷ s) i ≤ 1
    fore e h zero b = leb-true x 1 e
    fore e h (suc i) b = h i (omega arith)

every_all : (s : State) → every (λ b. leb b 1) s ≡ list_all (λ b. leb b 1) s
unfolding every
every_all [] = refl
every_all (b ∷ s) = rw (every_all s)

-- refusal 10 by the tests that the code makes
pub state_judged : (n : PowerNetwork) (s : State) (place : ℕ) → check_state (records_of n) s place ≡ cond (eqb (length s) n.switch_count && list_all (λ b. leb b 1) s) (accepted tt) (refused 10 place)
unfolding check_state judge
state_judged n s place = rw (every_all s, switches_listed n) (go (eqb (length s) n.switch_count && list_all (λ b. leb b 1) s))
  where
    go : (b : Bool) → judge ((10 if not b) ∷ []) place ≡ cond b (accepted tt) (refused 10 place)
    go true = refl
    go false = refl

pub state_accepted : (N : Network) (s : State) (place : ℕ) → (check_state N s place ≡ accepted tt) ↔ GoodState N s
unfolding check_state
state_accepted N s place = (
  λ e. fore (both _ _ ((judge_accepted 10 _ place).0 e)),
  λ h. (judge_accepted 10 (eqb (length s) (length N.switches) && every (λ b. leb b 1) s) place).1 (rw (eq-eqb _ _ h.long, (every_byte s).1 (λ i b. h.bytes i (omega (arith, h.long))))),
)
  where
    fore : (eqb (length s) (length N.switches) ≡ true) × (every (λ b. leb b 1) s ≡ true) → GoodState N s
    fore h = let long : length s ≡ length N.switches = eqb-true _ _ h.0 in record { long = long; bytes = λ i b. (every_byte s).0 h.1 i (omega arith) }
