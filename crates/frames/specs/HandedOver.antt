-- Records handed over: what a value's fields say of the records that it lists. Beyond its arrays these are zeros.
use Rattle.std.specs.Prelude.{Bool, true, false, cond, None, Some, List, [], ◌∷◌}
use Prim.Native.Nat.{ℕ, zero, suc}
use Rattle.std.proofs.Common.{lit<}
use Rattle.std.specs.Float.Ieee.{of_bits, fits}
use Rattle.std.proofs.Math.ListN.{get_or}
use Rattle.numbers.specs.UpTo.{table}
use Rattle.numbers.specs.TableLaws.{length_table}
use Rattle.network.specs.declared.topology.PowerNetwork.{PowerNetwork}
use Rattle.network.specs.Records.{no_bus, no_branch, no_switch, records_of}
use Rattle.network.specs.Check.{head_of}
use Rattle.network.specs.Inside.{Each}
use Rattle.network.specs.EachLaws.{each_anywhere, each_append}
use Rattle.feeders.specs.Supply.{supplies}
use Rattle.frames.specs.Acceptable.{BusRoom, BranchRoom, SwitchRoom, Writable, Short, Held}

-- the fields of a value handed over, and those of the records in its arrays, are u16 and f64, their types in the code. So are those of every value of the code (`TypedValues.value_typed`)
pub record Typed (n : PowerNetwork) : Type 0 where
  pub counts : Short n.bus_count × Short n.branch_count × Short n.switch_count
  pub base : Held n.base_mva
  pub iterations : Short n.max_iterations
  pub buses : Each BusRoom n.buses
  pub branches : Each BranchRoom n.branches
  pub switches : Each SwitchRoom n.switches
  pub supply : Each Short (supplies n.supply)

-- where nothing is listed stand zeros
no_bus_room : BusRoom no_bus
unfolding of_bits fits
no_bus_room = (lit< tt, tt)

no_branch_room : BranchRoom no_branch
unfolding of_bits fits
no_branch_room = (lit< tt, lit< tt, tt)

no_switch_room : SwitchRoom no_switch
no_switch_room = (lit< tt, lit< tt)

module _ {A : Type 0} (P : A → Type 0) (none : A) (p : P none) where
  each_listed : (l : List A) → Each P l → (n : ℕ) → Each P (table (λ i. get_or l i none) n)
  unfolding table
  each_listed l h zero = tt
  each_listed l h (suc n) = each_append P (table (λ i. get_or l i none) n) (get_or l n none ∷ []) (each_listed l h n) (each_anywhere P l none h p n, tt)

-- a supply, named or not, is as short as its id
supply_named : (b : Bool) (id : ℕ) → Short id → Each Short (supplies (cond b (Some id) None))
supply_named true id h = (h, tt)
supply_named false id h = tt

pub typed_writable : (n : PowerNetwork) → Typed n → Writable (records_of n)
unfolding records_of head_of
typed_writable n t = record {
  head_room = (rw length_table t.counts.0, rw length_table t.counts.1, rw length_table t.counts.2, t.base, t.iterations);
  bus_room = each_listed BusRoom no_bus no_bus_room n.buses t.buses n.bus_count;
  branch_room = each_listed BranchRoom no_branch no_branch_room n.branches t.branches n.branch_count;
  switch_room = each_listed SwitchRoom no_switch no_switch_room n.switches t.switches n.switch_count;
  supply_room = t.supply;
}
