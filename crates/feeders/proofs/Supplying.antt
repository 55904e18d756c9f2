-- What the code of the supply's test finds decides as `check_supply_line` does: no bus with the id, or one, and then the base.
use Rattle.std.specs.Prelude.{◌≡◌, refl, Bool, true, false, map, ℕ, ◌+◌, Option, None, Some, length, take}
use Rattle.std.specs.Option.{is_some}
use Rattle.std.proofs.Common.{sym, ap, ◌∙◌, arith}
use Rattle.numbers.specs.Choose.{among}
use Rattle.network.specs.declared.topology.PowerNetwork.{PowerNetwork}
use Rattle.network.specs.Records.{Network, records_of}
use Rattle.network.specs.Answers.{accepted, refused, judge}
use Rattle.network.specs.Check.{check_records}
use Rattle.network.specs.Limits.{bus_id}
use Rattle.network.specs.Lookups.{bus_index}
use Rattle.network.specs.LookupLaws.{listed_buses}
use Rattle.states.specs.Listed.{buses_listed, branches_listed, switches_listed, few_buses}
use Rattle.states.specs.Live.{base_state}
use Rattle.feeders.specs.BusFound.{index_among}
use Rattle.feeders.specs.Feeder.{radial_in}
use Rattle.feeders.specs.Supply.{left_if, supply_faults, check_supply_line}
use Rattle.feeders.specs.SupplyLaws.{base_alone, unsupplied, supply_judged, value_supply}

module _ (stored : Bool) (n : PowerNetwork) (sized : length n.buses ≡ 256) (ok : check_records (records_of n) ≡ accepted tt) {id : ℕ} (named : n.supply ≡ Some id) where
  abbrev N : Network
  N = records_of n

  abbrev line : ℕ
  line = 2 + n.bus_count + n.branch_count + n.switch_count

  judged_here : check_supply_line stored N ≡ judge (supply_faults stored N.buses N.branches N.switches id) line
  judged_here =
      let here : 2 + length N.buses + length N.branches + length N.switches ≡ line = omega (arith, buses_listed n, branches_listed n, switches_listed n) in
      supply_judged stored N id (value_supply n ∙ named) ∙ ap (judge _) here

  module _ {found : Option ℕ} (e : found ≡ bus_index (take n.bus_count n.buses) id) where
    found_among : among id (map bus_id N.buses) ≡ is_some found
    found_among = sym (ap is_some e ∙ ap (λ l. is_some (bus_index l id)) (listed_buses n (omega (arith, few_buses n ok))) ∙ index_among N.buses id)

    pub bus_missing : is_some found ≡ false → refused 14 line ≡ check_supply_line stored N
    unfolding supply_faults judge
    bus_missing f = sym (judged_here ∙ rw (found_among ∙ f) refl)

    module _ (f : is_some found ≡ true) where
      pub base_passes : radial_in (left_if stored N) (base_state (left_if stored N)) ≡ true → accepted tt ≡ check_supply_line stored N
      unfolding supply_faults judge
      base_passes t = sym (judged_here ∙ rw (found_among ∙ f, base_alone stored N ∙ t) refl)

      pub base_fails : radial_in (left_if stored N) (base_state (left_if stored N)) ≡ false → refused 15 line ≡ check_supply_line stored N
      unfolding supply_faults judge
      base_fails t = sym (judged_here ∙ rw (found_among ∙ f, base_alone stored N ∙ t) refl)

-- without a supply the records decide
pub records_decide : (stored : Bool) (n : PowerNetwork) → n.supply ≡ None → accepted tt ≡ check_supply_line stored (records_of n)
records_decide stored n e = sym (unsupplied stored (records_of n) (value_supply n ∙ e))
