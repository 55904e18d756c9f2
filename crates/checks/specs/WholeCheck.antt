-- The check of a value that is handed over, part by part, in the numbers that the value has.
use Rattle.std.specs.Prelude.{◌≡◌, Bool, List, [], ℕ, ◌+◌, ◌≤◌, length, get_or, take}
use Rattle.std.proofs.Common.{ap, sym, ◌∙◌, arith}
use Rattle.numbers.specs.TableLaws.{length_table}
use Rattle.network.specs.declared.topology.PowerNetwork.{PowerNetwork}
use Rattle.network.specs.Records.{no_bus, no_branch, no_switch, records_of}
use Rattle.network.specs.LookupLaws.{listed_first}
use Rattle.network.specs.Answers.{accepted, ◌and_then◌, Fault, judge}
use Rattle.network.specs.AnswerLaws.{judge_iff, then_assoc, gives_way}
use Rattle.network.specs.Faults.{head_row, head_faults, bus_faults, branch_faults, switch_faults}
use Rattle.network.specs.Check.{head_of, check_run, check_lines}
use Rattle.network.specs.InsideLaws.{head_iff}

-- the head's conditions on the value's own counts
abbrev rows_of_head : PowerNetwork → List Fault
rows_of_head n = head_row n.bus_count n.branch_count n.switch_count n.base_mva n.max_iterations

rows_are_faults : (n : PowerNetwork) → rows_of_head n ≡ head_faults (head_of (records_of n))
unfolding head_faults head_of records_of
rows_are_faults n = simp length_table

pub whole_check : (stored : Bool) (n : PowerNetwork) → check_lines stored (records_of n)
    ≡ (judge (rows_of_head n) 1
    and_then (check_run bus_faults [] 2 (records_of n).buses
    and_then check_run (λ before. branch_faults stored (records_of n).buses) [] (2 + n.bus_count) (records_of n).branches)
    and_then check_run (switch_faults (head_of (records_of n))) [] (2 + n.bus_count + n.branch_count) (records_of n).switches)
unfolding check_lines head_of head_faults records_of
whole_check stored n = simp length_table (ap (λ a. judge (rows_of_head n) 1 and_then a) (then_assoc _ _ _))

-- an accepted head has its counts inside their limits
pub counts_inside : (n : PowerNetwork) {u : Unit {0}} → accepted u ≡ judge (rows_of_head n) 1 → (n.bus_count ≤ 256) × (n.branch_count ≤ 512) × (n.switch_count ≤ 512)
unfolding head_of records_of
counts_inside n e =
    let i = (head_iff (head_of (records_of n))).0 ((judge_iff (head_faults (head_of (records_of n))) 1).0 (ap (λ l. judge l 1) (sym (rows_are_faults n)) ∙ sym e)) in
    simp length_table at i.counts

-- behind an accepted head, the front parts of the value's arrays, which are as long as its counts say
pub parts_check : (stored : Bool) (n : PowerNetwork) {b m k : ℕ} → b ≡ n.bus_count → m ≡ n.branch_count → k ≡ n.switch_count
    → length n.buses ≡ 256 → length n.branches ≡ 512 → length n.switches ≡ 512 → {u : Unit {0}} → accepted u ≡ judge (rows_of_head n) 1
    → check_lines stored (records_of n)
    ≡ ((check_run bus_faults [] 2 (take b n.buses)
    and_then check_run (λ before. branch_faults stored (take b n.buses)) [] (2 + length (take b n.buses)) (take m n.branches))
    and_then check_run (switch_faults (head_of (records_of n))) [] (2 + n.bus_count + n.branch_count) (take k n.switches))
unfolding records_of
parts_check stored n {b} {m} {k} e f g p q r h =
    let i = counts_inside n h in
    rw (
      listed_first no_bus n.buses b (omega (arith, i.0)),
      listed_first no_branch n.branches m (omega (arith, i.1)),
      listed_first no_switch n.switches k (omega (arith, i.2)),
      length_table (λ j. get_or n.buses j no_bus) b,
      e,
      f,
      g,
    )
    (whole_check stored n ∙ sym (gives_way _ (sym h)))
