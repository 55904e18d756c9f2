-- What holds of every line's conditions, from what holds of the lines and of each kind's conditions.
use Rattle.std.specs.Prelude.{Bool, false}
use mathlib.Core.List.{List, [], ◌∷◌, ◌++◌}
use Prim.Native.Nat.{ℕ, zero, suc}
use Rattle.std.proofs.Math.ListN.{drop}
use Rattle.network.specs.declared.bus.Bus.{Bus}
use Rattle.network.specs.declared.branch.Branch.{Branch}
use Rattle.network.specs.declared.switch.Switch.{Switch}
use Rattle.network.specs.Answers.{Fault}
use Rattle.network.specs.Limits.{Head}
use Rattle.network.specs.Inside.{Each}
use Rattle.network.specs.EachLaws.{each_drop}
use Rattle.lines.specs.Hex.{Fields}
use Rattle.lines.specs.Lines.{Line}
use Rattle.lines.specs.Frames.{Frame}
use Rattle.record_lines.specs.Kinds.{head, bus, branch, switch, supply, is_frame, fields_of, head_from, bus_from, branch_from, switch_from, supply_from, head_line_faults, bus_line_faults, branch_line_faults, switch_line_faults}
use Rattle.frames.specs.Text.{at_most_one, supply_line_faults}
use Rattle.frames.specs.Conditions.{LineConditions, line_conditions, missing, kind_conditions, surplus_conditions, buses_of, branches_of, switches_of, body_conditions, conditions}

-- P holds of a missing line's conditions, and, where Q holds of the line, of a surplus line's and of those of each kind
pub record OfKinds (stored : Bool) (Q : Line → Type 0) (P : LineConditions → Type 0) : Type 0 where
  pub of_missing : P missing
  pub of_surplus : (l : Line) → Q l → P (line_conditions false l [])
  pub of_head : (l : Line) → Q l → P (line_conditions (is_frame head l) l (head_line_faults (fields_of head l)))
  pub of_bus : (before : List Bus) (l : Line) → Q l → P (line_conditions (is_frame bus l) l (bus_line_faults before (fields_of bus l)))
  pub of_branch : (buses : List Bus) (l : Line) → Q l → P (line_conditions (is_frame branch l) l (branch_line_faults stored buses (fields_of branch l)))
  pub of_switch : (h : Head) (before : List Switch) (l : Line) → Q l → P (line_conditions (is_frame switch l) l (switch_line_faults h before (fields_of switch l)))
  pub of_supply : (buses : List Bus) (branches : List Branch) (switches : List Switch) (l : Line)
      → Q l → P (line_conditions (is_frame supply l) l (supply_line_faults stored buses branches switches (fields_of supply l)))

module _ (stored : Bool) (Q : Line → Type 0) (P : LineConditions → Type 0) (k : OfKinds stored Q P) where
  kind_each : {A : Type 0} (F : Frame) (make : Fields F.widths → A) (faults : List A → Fields F.widths → List Fault)
      → ((before : List A) (l : Line) → Q l → P (line_conditions (is_frame F l) l (faults before (fields_of F l))))
      → (before : List A) (n : ℕ) (ls : List Line) (rest : List LineConditions) → Each Q ls → Each P rest → Each P (kind_conditions F make faults before n ls ++ rest)
  unfolding kind_conditions
  kind_each F make faults one before zero ls rest q h = h
  kind_each F make faults one before (suc n) [] rest q h = (k.of_missing, kind_each F make faults one before n [] rest tt h)
  kind_each F make faults one before (suc n) (l ∷ ls) rest q h = (one before l q.0, kind_each F make faults one (before ++ (make (fields_of F l) ∷ [])) n ls rest q.1 h)

  surplus_each : (ls : List Line) → Each Q ls → Each P (surplus_conditions ls)
  unfolding surplus_conditions
  surplus_each [] q = tt
  surplus_each (l ∷ ls) q = (k.of_surplus l q.0, tt)

  body_each : (h : Head) (ls : List Line) → Each Q ls → Each P (body_conditions stored h ls)
  unfolding body_conditions
  body_each h ls q =
      let after-buses = drop h.buses ls in
      let after-branches = drop h.branches after-buses in
      let left = drop h.switches after-branches in
      let buses = buses_of h.buses ls in
      let branches = branches_of h.branches after-buses in
      let switches = switches_of h.switches after-branches in
      let q-branches = each_drop Q h.buses ls q in
      let q-switches = each_drop Q h.branches after-buses q-branches in
      let q-left = each_drop Q h.switches after-branches q-switches in
      kind_each bus bus_from bus_line_faults k.of_bus [] h.buses ls _ q
      (kind_each branch branch_from (λ before. branch_line_faults stored buses) (λ before. k.of_branch buses) [] h.branches after-buses _ q-branches
      (kind_each switch switch_from (switch_line_faults h) (k.of_switch h) [] h.switches after-branches _ q-switches
      (kind_each supply supply_from (λ before. supply_line_faults stored buses branches switches) (λ before. k.of_supply buses branches switches) [] (at_most_one left) left _ q-left
      (surplus_each (drop (at_most_one left) left) (each_drop Q (at_most_one left) left q-left)))))

  pub all_each : (ls : List Line) → Each Q ls → Each P (conditions stored ls)
  unfolding conditions
  all_each [] q = (k.of_missing, tt)
  all_each (l ∷ ls) q = (k.of_head l q.0, body_each (head_from (fields_of head l)) ls q.1)

-- where nothing is asked of the lines
abbrev pub AnyLine : Line → Type 0
AnyLine l = Unit {0}

pub any_lines : (ls : List Line) → Each AnyLine ls
any_lines [] = tt
any_lines (l ∷ ls) = (tt, any_lines ls)
