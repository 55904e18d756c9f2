-- A network passes the first test of the calls exactly where it is inside document 01's limits, has no branch from a bus to itself, and is supplied as document 02 says; and a
-- stored text's records where what is left of them is supplied so.
use Rattle.std.specs.Prelude.{◌≡◌, ◌↔◌, Bool, map, ℕ, ◌+◌, length}
use Rattle.std.proofs.Math.Path.{refl, sym}
use Rattle.std.proofs.Common.{ap, ◌∙◌, true≢false}
use Rattle.std.proofs.Math.Bool.{true, false, not}
use Rattle.std.specs.Prelude.{Option, None, Some}
use borrow.Author.Tests.{not-false}
use Rattle.numbers.specs.Choose.{among}
use Rattle.numbers.specs.ChooseLaws.{among_mem, mem_among}
use Rattle.network.specs.declared.topology.PowerNetwork.{PowerNetwork}
use Rattle.network.specs.Records.{Network, records_of}
use Rattle.network.specs.Answers.{accepted, ◌and_then◌, judge}
use Rattle.network.specs.AnswerLaws.{judge_iff, then_iff, then_nothing}
use Rattle.network.specs.Limits.{bus_id}
use Rattle.network.specs.Check.{head_of, check_run, check_lines, check_records}
use Rattle.network.specs.Inside.{Inside, Proper}
use Rattle.network.specs.InsideLaws.{lines_inside, check_inside}
use Rattle.own_loops.specs.OwnLoops.{without_own}
use Rattle.own_loops.specs.OwnLoopLaws.{left_inside}
use Rattle.states.specs.Live.{base_state, live}
use Rattle.feeders.specs.Feeder.{position, feeder, form_in, radial_in}
use Rattle.feeders.specs.FeederLaws.{inside_radial_tree}
use Rattle.feeders.specs.Supply.{left_if, base_radial, supply_faults, check_supply_line, check_supply, check_as, check_network, check_stored}
use Rattle.feeders.specs.Supplied.{Supplied}

-- the records whose base is judged pass where all do
pub left_checked : (stored : Bool) (N : Network) → check_records N ≡ accepted tt → check_records (left_if stored N) ≡ accepted tt
left_checked true N ok = (check_inside (without_own N)).1 (left_inside N ((check_inside N).0 ok)).0
left_checked false N ok = ok

module _ (stored : Bool) (N : Network) where
  -- neither the head nor the supply has a part in it
  pub base_alone : base_radial stored N.buses N.branches N.switches ≡ radial_in (left_if stored N) (base_state (left_if stored N))
  unfolding radial_in form_in feeder position live base_state without_own
  base_alone = go stored
    where
      go : (b : Bool) → base_radial b N.buses N.branches N.switches ≡ radial_in (left_if b N) (base_state (left_if b N))
      go true = refl
      go false = refl

  -- ---- the supply's own line
  pub unsupplied : N.supply ≡ None → check_supply_line stored N ≡ accepted tt
  unfolding check_supply_line check_run
  unsupplied e = rw e

  -- 14 and 15 are judged where the line stands
  pub supply_judged : (id : ℕ) → N.supply ≡ Some id
      → check_supply_line stored N ≡ judge (supply_faults stored N.buses N.branches N.switches id) (2 + length N.buses + length N.branches + length N.switches)
  unfolding check_supply_line check_run head_of
  supply_judged id e = rw e (then_nothing _)

  supply_iff : (id : ℕ) → N.supply ≡ Some id
      → (check_supply_line stored N ≡ accepted tt) ↔ ((among id (map bus_id N.buses) ≡ true) × (radial_in (left_if stored N) (base_state (left_if stored N)) ≡ true))
  unfolding supply_faults
  supply_iff id e = (
    λ h. let p = (judge_iff _ _).0 (sym (supply_judged id e) ∙ h) in (not-false _ p.0, sym base_alone ∙ not-false _ p.1.0),
    λ h. supply_judged id e ∙ (judge_iff _ _).1 (ap not h.0, (ap not (base_alone ∙ h.1), tt)),
  )

  -- the dropping leaves buses and supply
  same_buses : (left_if stored N).buses ≡ N.buses
  unfolding without_own
  same_buses = go stored
    where
      go : (b : Bool) → (left_if b N).buses ≡ N.buses
      go true = refl
      go false = refl

  same_supply : (left_if stored N).supply ≡ N.supply
  unfolding without_own
  same_supply = go stored
    where
      go : (b : Bool) → (left_if b N).supply ≡ N.supply
      go true = refl
      go false = refl

  -- ---- the test of a text's records, in words of limits
  left_if_inside : Inside N → Inside (left_if stored N)
  left_if_inside i = (check_inside (left_if stored N)).0 (left_checked stored N ((check_inside N).1 i))

  pub as_inside : (check_as stored N ≡ accepted tt) ↔ (Inside N × (stored ≡ false → Proper N) × Supplied (left_if stored N))
  unfolding check_as
  as_inside = (left, λ h. (then_iff _ _).1 ((lines_inside stored N).1 (h.0, h.1), right h.0 h.2 N.supply refl))
    where
      left : (check_lines stored N and_then check_supply_line stored N) ≡ accepted tt → Inside N × (stored ≡ false → Proper N) × Supplied (left_if stored N)
      left e =
          let t = (then_iff (check_lines stored N) (check_supply_line stored N)).0 e in
          let i = (lines_inside stored N).0 t.0 in (
            i.0,
            i.1,
            λ id s. let h = (supply_iff id (sym same_supply ∙ s)).0 t.1 in
                (rw same_buses (among_mem id _ h.0), (inside_radial_tree (left_if stored N) (left_if_inside i.0) _).0 h.1),
          )

      right : Inside N → Supplied (left_if stored N) → (z : Option ℕ) → N.supply ≡ z → check_supply_line stored N ≡ accepted tt
      right i s None e = unsupplied e
      right i s (Some id) e =
          let h = s id (same_supply ∙ e) in
          (supply_iff id e).1 (mem_among id _ (rw same_buses at h.0), (inside_radial_tree (left_if stored N) (left_if_inside i) _).1 h.1)

module _ (N : Network) where
  -- ---- the first test of the calls, and that of a stored text
  pub network_inside : (check_network N ≡ accepted tt) ↔ (Inside N × Proper N × Supplied N)
  unfolding check_network
  network_inside = (
    λ e. let t = (as_inside false N).0 e in (t.0, t.1 refl, t.2),
    λ h. (as_inside false N).1 (h.0, λ e. h.1, h.2),
  )

  pub stored_inside : (check_stored N ≡ accepted tt) ↔ (Inside N × Supplied (without_own N))
  unfolding check_stored
  stored_inside = (
    λ e. let t = (as_inside true N).0 e in (t.0, t.2),
    λ h. (as_inside true N).1 (h.0, λ e. absurd (true≢false e), h.1),
  )

  -- ---- what the calls behind it use
  pub records_supplied : check_records N ≡ accepted tt → check_supply N ≡ accepted tt → Supplied N
  unfolding check_supply
  records_supplied r s id named = let h = (supply_iff false N id named).0 s in (among_mem id _ h.0, (inside_radial_tree N ((check_inside N).0 r) (base_state N)).0 h.1)

  module _ (ok : check_network N ≡ accepted tt) where
    pub network_records : check_records N ≡ accepted tt
    network_records = (check_inside N).1 (network_inside.0 ok).0

    pub network_supply : check_supply N ≡ accepted tt
    unfolding check_network check_as check_supply
    network_supply = ((then_iff (check_lines false N) (check_supply_line false N)).0 ok).1

    pub base_radial_lem : (id : ℕ) → N.supply ≡ Some id → radial_in N (base_state N) ≡ true
    base_radial_lem id named = (inside_radial_tree N (network_inside.0 ok).0 (base_state N)).1 ((network_inside.0 ok).2 id named).1

-- ---- a value's supply
pub value_supply : (n : PowerNetwork) → (records_of n).supply ≡ n.supply
unfolding records_of
value_supply n = refl
