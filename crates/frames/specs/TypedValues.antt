-- Every value of the code's type has fields of their types. What it is for machine values to stand for a value (`Is`) says so: of a u16 that it is below 65,536, of an f64 that it fits its format.
use Rattle.std.specs.Prelude.{List, [], ◌∷◌, map, ℕ, Option, Some, None}
use Rattle.std.proofs.lemmas.List.{map-id}
use mir.Val.{Val}
use Rattle.std.specs.Borrow.{Fml}
use denote.Shadow.{shadow}
use denote.Laws.{Is}
use denote.Floats.{passes}
use denote.Builtin.{u16}
use denote.Enum.Declared.{intoss}
use denote.Struct.Field.{row_field}
use Rattle.std.specs.contracts.option.Option.{the_field, as_values}
use denote.Array as Array
use Rattle.network.specs.contracts.bus.Bus as BusType
use Rattle.network.specs.contracts.branch.Branch as BranchType
use Rattle.network.specs.contracts.switch.Switch as SwitchType
use Rattle.network.specs.contracts.topology.PowerNetwork as NetworkType
use Rattle.network.specs.declared.bus.Bus.{Bus}
use Rattle.network.specs.declared.branch.Branch.{Branch}
use Rattle.network.specs.declared.switch.Switch.{Switch}
use Rattle.network.specs.declared.topology.PowerNetwork.{PowerNetwork}
use Rattle.network.specs.Inside.{Each}
use Rattle.feeders.specs.Supply.{supplies}
use Rattle.frames.specs.Acceptable.{BusRoom, BranchRoom, SwitchRoom, Short}
use Rattle.frames.specs.HandedOver.{Typed}

-- what stands for an array stands for each of its elements
each_element : {A D : Type 0} (Q : A → Type 0) (into : A → D) (own : D → List Val → Fml) → ((a : A) (vs : List Val) → shadow (own (into a) vs) → Q a)
    → (l : List A) (us : List Val) → shadow (Array.each D own (map into l) us) → Each Q l
each_element Q into own h [] us o = tt
each_element Q into own h (a ∷ l) [] o = absurd o
each_element Q into own h (a ∷ l) (u ∷ us) o = (h a (u ∷ []) o.0, each_element Q into own h l us o.1)

bus_typed : (b : Bus) (vs : List Val) → Is BusType.the_row b vs → BusRoom b
bus_typed b vs o = let f = o.1.1 in (f.0.1, passes _ f.1.0.1.1.0.1)

branch_typed : (b : Branch) (vs : List Val) → Is BranchType.the_row b vs → BranchRoom b
branch_typed b vs o = let f = o.1.1 in (f.1.0.1, f.1.1.0.1, passes _ f.0.1)

switch_typed : (s : Switch) (vs : List Val) → Is SwitchType.the_row s vs → SwitchRoom s
switch_typed s vs o = let f = o.1.1 in (f.0.1, f.1.0.1)

supply_typed : (z : Option ℕ) (vs : List Val) → shadow ((the_field u16).row.own_val (intoss ([] ∷ (row_field u16 ∷ []) ∷ []) (as_values u16 z)) vs) → Each Short (supplies z)
supply_typed None vs o = tt
supply_typed (Some id) vs o = (o.1.1.1.1.0.1, tt)

pub value_typed : (n : PowerNetwork) (vs : List Val) → Is NetworkType.the_row n vs → Typed n
value_typed n vs o =
    let f = o.1.1 in
    let g = f.1.1.1 in
    record {
      counts = (g.0.1, g.1.0.1, g.1.1.0.1);
      base = passes _ g.1.1.1.0.1;
      iterations = g.1.1.1.1.1.0.1;
      supply = supply_typed n.supply _ g.1.1.1.1.1.1.0;
      buses = each_element BusRoom (λ x. x) (BusType.the_row).own_val bus_typed n.buses f.0.0 (rw map-id f.0.1.1);
      branches = each_element BranchRoom (λ x. x) (BranchType.the_row).own_val branch_typed n.branches f.1.0.0 (rw map-id f.1.0.1.1);
      switches = each_element SwitchRoom (λ x. x) (SwitchType.the_row).own_val switch_typed n.switches f.1.1.0.0 (rw map-id f.1.1.0.1.1);
    }
