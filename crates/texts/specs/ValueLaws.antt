-- The text of a value of the code: how long it is by the value's counts, and that the floats of an accepted value have bits.
use Rattle.std.specs.Prelude.{◌≡◌, ℕ, ◌+◌, ◌*◌, take, Option, Some, None, is_some}
use Rattle.std.proofs.Math.Path.{refl}
use Rattle.std.proofs.Common.{arith}
use Rattle.std.proofs.Math.Bool.{true}
use mir.Val.{bool_byte}
use mathlib.Core.List.{List, [], ◌∷◌}
use Rattle.std.proofs.Math.ListN.{length}
use Rattle.network.specs.declared.bus.Bus.{Bus}
use Rattle.network.specs.declared.branch.Branch.{Branch}
use Rattle.network.specs.declared.switch.Switch.{Switch}
use Rattle.network.specs.declared.topology.PowerNetwork.{PowerNetwork}
use Rattle.network.specs.Answers.{accepted}
use Rattle.network.specs.Check.{check_records, head_of}
use Rattle.network.specs.EachLaws.{each_map}
use Rattle.network.specs.LookupLaws.{listed_first}
use Rattle.network.specs.Inside.{Each, Inside}
use Rattle.network.specs.InsideLaws.{check_inside}
use Rattle.network.specs.Limits.{ok_base, ok_load, ok_r}
use Rattle.network.specs.Records.{no_bus, no_branch, no_switch, records_of}
use Rattle.states.specs.Listed.{buses_listed, branches_listed, switches_listed, few_buses, few_branches, few_switches}
use Rattle.record_lines.specs.Kinds.{head, bus, branch, switch, supply}
use Rattle.feeders.specs.Supply.{supplies}
use Rattle.frames.specs.Acceptable.{text_of}
use Rattle.frames.specs.Lengths.{line_length}
use Rattle.frames.specs.RecordLaws.{no_nan}
use Rattle.texts.specs.Lines.{IsNumber}
use Rattle.texts.specs.TextLaws.{text_length}

supplies_counted : (z : Option ℕ) → length (supplies z) ≡ bool_byte (is_some z)
supplies_counted None = refl
supplies_counted (Some id) = refl

module _ (n : PowerNetwork) where
  pub value_length : length (text_of (records_of n))
      ≡ line_length head + line_length bus * n.bus_count + line_length branch * n.branch_count + line_length switch * n.switch_count + line_length supply * bool_byte (is_some n.supply)
  unfolding records_of
  value_length = omega (arith, text_length (records_of n), buses_listed n, branches_listed n, switches_listed n, supplies_counted n.supply)

  -- ---- of a value that is accepted
  module _ (ok : check_records (records_of n) ≡ accepted tt) where
    inside : Inside (records_of n)
    inside = (check_inside (records_of n)).0 ok

    pub base_bits : IsNumber (head_of (records_of n)).base
    unfolding head_of ok_base
    base_bits = no_nan _ _ _ inside.base

    pub loads_bits : Each (λ (b : Bus). IsNumber b.pd.0) (records_of n).buses
    unfolding ok_load
    loads_bits = each_map (λ (b : Bus). ok_load b.pd.0 ≡ true) (λ (b : Bus). IsNumber b.pd.0) (records_of n).buses (λ b h. no_nan _ _ _ h) inside.loads

    pub rs_bits : Each (λ (b : Branch). IsNumber b.r) (records_of n).branches
    unfolding ok_r
    rs_bits = each_map (λ (b : Branch). ok_r b.r ≡ true) (λ (b : Branch). IsNumber b.r) (records_of n).branches (λ b h. no_nan _ _ _ h) inside.resistances

    -- ---- the listed records, as the code lends them, and that their floats have bits
    pub buses_lent : (k : ℕ) → k ≡ n.bus_count → length n.buses ≡ 256 → take k n.buses ≡ (records_of n).buses
    unfolding records_of
    buses_lent k e long = rw e (listed_first no_bus n.buses n.bus_count (omega (arith, few_buses n ok)))

    pub branches_lent : (k : ℕ) → k ≡ n.branch_count → length n.branches ≡ 512 → take k n.branches ≡ (records_of n).branches
    unfolding records_of
    branches_lent k e long = rw e (listed_first no_branch n.branches n.branch_count (omega (arith, few_branches n ok)))

    pub switches_lent : (k : ℕ) → k ≡ n.switch_count → length n.switches ≡ 512 → take k n.switches ≡ (records_of n).switches
    unfolding records_of
    switches_lent k e long = rw e (listed_first no_switch n.switches n.switch_count (omega (arith, few_switches n ok)))

-- a switch has no float
pub each_switch : (l : List Switch) → Each (λ (s : Switch). Unit {0}) l
each_switch [] = tt
each_switch (s ∷ l) = (tt, each_switch l)
