-- The lines behind the head line, kind after kind: a pass that stops ends it; where all stop nowhere, what follows the last line decides.
use mathlib.Core.Path.{◌≡◌, refl, ap, ◌∙◌}
use mathlib.Core.List.{List, [], ◌++◌}
use Prim.Native.Nat.{ℕ, ◌+◌, ◌≤◌}
use native.Mathlib.Omega.{arith}
use lib.ListN.{length, take, drop}
use Rattle.std.proofs.Common.{Result, Ok, Err}
use Rattle.network.specs.declared.bus.Bus.{Bus}
use Rattle.network.specs.declared.branch.Branch.{Branch}
use Rattle.network.specs.declared.switch.Switch.{Switch}
use Rattle.network.specs.declared.error.Refusal.{Refusal}
use Rattle.network.specs.declared.topology.PowerNetwork.{PowerNetwork}
use Rattle.network.specs.Answers.{refused, answer_of, number_of, place_of, ◌and_then◌}
use Rattle.network.specs.Records.{no_bus, no_branch, no_switch, network_of, empty_network}
use Rattle.network.specs.Limits.{Head}
use Rattle.frames.specs.declared.pass.Pass as Code
use Rattle.lines.specs.Lines.{Line, cut}
use Rattle.lines.specs.FirstLine.{judge_end}
use Rattle.record_lines.specs.Kinds.{bus, branch, switch, bus_from, branch_from, switch_from, bus_bytes, branch_bytes, switch_bytes}
use Rattle.frames.specs.Text.{as_option, supply_place}
use Rattle.frames.specs.ReaderLaws.{end_judged}
use Rattle.frames.specs.Passes.{Pass, pass_run, halted, onward, after, pass_buses, pass_branches, pass_switches, pass_supply, collect}
use Rattle.frames.specs.FrameReads.{with_supply, IsNext, IsRead, AreRecords, IsCollected}
use Rattle.frames.proofs.StoreLaws.{IsHeld, kind_held}

-- ---- no record is listed before its lines are read, and then they stand first in their array
module _ (n : PowerNetwork) (h : Head) (e : n ≡ empty_network h.base h.algorithm h.iterations) (text : List ℕ) (k at : ℕ) (r : Code.Pass) where
  pub buses_held : k ≡ h.buses → h.buses ≤ 256 → (new : List Bus) → length new ≡ length (take k n.buses)
      → IsRead text (pass_run bus bus_from bus_bytes (length (take k n.buses)) 2 (cut (drop at text))) (take k n.buses) new r
      → IsHeld 256 no_bus text (pass_buses h (cut (drop at text))) (new ++ drop k n.buses) r
  unfolding network_of
  buses_held q few = kind_held 256 no_bus n.buses k (ap (λ (x : PowerNetwork). x.buses) e) (omega arith) bus bus_from bus_bytes h.buses 2 q text (cut (drop at text)) r

  pub branches_held : k ≡ h.branches → h.branches ≤ 512 → (new : List Branch) → length new ≡ length (take k n.branches)
      → IsRead text (pass_run branch branch_from branch_bytes (length (take k n.branches)) (2 + h.buses) (cut (drop at text))) (take k n.branches) new r
      → IsHeld 512 no_branch text (pass_branches h (cut (drop at text))) (new ++ drop k n.branches) r
  unfolding network_of
  branches_held q few = kind_held 512 no_branch n.branches k (ap (λ (x : PowerNetwork). x.branches) e) (omega arith) branch branch_from branch_bytes h.branches (2 + h.buses) q text (cut (drop at text)) r

  pub switches_held : k ≡ h.switches → h.switches ≤ 512 → (new : List Switch) → length new ≡ length (take k n.switches)
      → IsRead text (pass_run switch switch_from switch_bytes (length (take k n.switches)) (2 + h.buses + h.branches) (cut (drop at text))) (take k n.switches) new r
      → IsHeld 512 no_switch text (pass_switches h (cut (drop at text))) (new ++ drop k n.switches) r
  unfolding network_of
  switches_held q few = kind_held 512 no_switch n.switches k (ap (λ (x : PowerNetwork). x.switches) e) (omega arith) switch switch_from switch_bytes h.switches (2 + h.buses + h.branches) q text (cut (drop at text)) r

-- ---- where a pass of lines leads
module _ {A B C : Type 0} {store : List A → B} {text : List ℕ} {pass : Pass A} {stored : B} {r : Result ℕ Refusal} (i : IsNext store text pass stored r)
    (more : List Line → Pass C) where
  pub goes_on : {at : ℕ} → r ≡ Ok at → (at ≤ length text) × (after pass more ≡ more (cut (drop at text)))
  unfolding onward
  goes_on q = let o = rw q at i.next in (o.0, rw (o.2, ← o.1))

  pub ends : {x : Refusal} → r ≡ Err x → after pass more ≡ halted [] pass.left (number_of x) (place_of x)
  unfolding onward
  ends q = let o = rw q at i.next in rw (← o)

module _ (h : Head) (text : List ℕ) where
  abbrev lines : List Line
  lines = cut (drop 37 text)

  -- ---- the buses, branches and switches
  module _ (n : PowerNetwork) (new : n ≡ empty_network h.base h.algorithm h.iterations) (buses : List Bus) (b : Code.Pass) (pb : IsHeld 256 no_bus text (pass_buses h lines) buses b) where
    abbrev with_buses : PowerNetwork
    with_buses = record n { buses = buses; bus_count = b.read }

    pub buses_stop : {x : Refusal} → b.next ≡ Err x → AreRecords h text with_buses (Err x)
    unfolding onward network_of as_option
    buses_stop q =
        let stops = ends pb.lines (pass_branches h) q in
        rw stops (record { records = rw (stops, new, pb.lines.records, pb.count); next = refl })

    module _ {at : ℕ} (on : b.next ≡ Ok at) (branches : List Branch) (r : Code.Pass) (pr : IsHeld 512 no_branch text (pass_branches h (cut (drop at text))) branches r) where
      abbrev with_branches : PowerNetwork
      with_branches = record with_buses { branches = branches; branch_count = r.read }

      pub branches_stop : {x : Refusal} → r.next ≡ Err x → AreRecords h text with_branches (Err x)
      unfolding onward network_of as_option
      branches_stop q =
          let on = (goes_on pb.lines (pass_branches h) on).1 in
          rw (on, ends pr.lines (pass_switches h) q) (record { records = rw (on, new, pb.lines.records, pb.count, pr.lines.records, pr.count); next = refl })

      pub switches_read_lem : {at' : ℕ} → r.next ≡ Ok at' → (switches : List Switch) (s : Code.Pass) → IsHeld 512 no_switch text (pass_switches h (cut (drop at' text))) switches s
          → AreRecords h text (record with_branches { switches = switches; switch_count = s.read }) s.next
      unfolding onward network_of as_option
      switches_read_lem on' switches s ps =
          let on = (goes_on pb.lines (pass_branches h) on).1 in
          rw (on, (goes_on pr.lines (pass_switches h) on').1)
          (record { records = rw (on, new, pb.lines.records, pb.count, pr.lines.records, pr.count, ps.lines.records, ps.count); next = ps.lines.next })

  -- ---- behind the switches
  module _ (n : PowerNetwork) (r : Result ℕ Refusal) (pr : AreRecords h text n r) where
    pub no_supply : n ≡ with_supply n []
    unfolding with_supply network_of as_option
    no_supply = rw pr.records

    pub records_stop : {x : Refusal} → r ≡ Err x → {v : Result (Unit {0}) Refusal} → answer_of v ≡ refused (number_of x) (place_of x) → IsCollected (collect h lines) n v
    unfolding collect onward ◌and_then◌
    records_stop q e = rw (ends pr (pass_supply (supply_place h)) q) (record { network = pr.records; stopped = e })

    module _ {at : ℕ} (on : r ≡ Ok at) (m : PowerNetwork) (z : Result ℕ Refusal) (pz : IsNext (with_supply n) text (pass_supply (supply_place h) (cut (drop at text))) m z) where
      pub supply_stops : {x : Refusal} → z ≡ Err x → {v : Result (Unit {0}) Refusal} → answer_of v ≡ refused (number_of x) (place_of x) → IsCollected (collect h lines) m v
      unfolding collect onward with_supply network_of ◌and_then◌
      supply_stops q e =
          let on = (goes_on pr (pass_supply (supply_place h)) on).1 in
          let o = rw q at pz.next in
          rw on (record { network = pz.records ∙ rw pr.records; stopped = rw (← o) e })

      pub all_read : {at' : ℕ} → z ≡ Ok at' → {v : Result (Unit {0}) Refusal} → answer_of v ≡ judge_end (supply_place h + 1) (cut (drop at' text)) → IsCollected (collect h lines) m v
      unfolding collect onward with_supply network_of ◌and_then◌
      all_read q e =
          let on = (goes_on pr (pass_supply (supply_place h)) on).1 in
          let o = rw q at pz.next in
          rw on (record { network = pz.records ∙ rw pr.records; stopped = rw (o.2, ← o.1) (e ∙ end_judged _ _) })
