-- `check_switch_list` meets its contract: the switches before `at` passed, they are counted on their branch positions, their ties are counted, and their ids are in rows.
use Rattle.std.proofs.Common.{◌≡◌, map, take}
use Rattle.network.specs.Limits.{Head, switch_id, on, ties}
use Rattle.network.specs.Faults.{switch_faults}
use Rattle.ids.specs.PutIds.{Holding}
use Rattle.checks.specs.Counts.{counts}
use Rattle.checks.specs.CheckLaws.{Passed}
use Rattle.checks.proofs.check.check_switch_list.Given as goal

abbrev pub invariant-loop-at : goal.invariant-loop-at
invariant-loop-at l =
    record {
      passed : (h : Head) → h.branches ≡ l.branch_count → h.algorithm ≡ l.algorithm → Passed (switch_faults h) l.start l.switches l.at;
      counted_are : l.counted ≡ counts 512 (map on (take l.at l.switches));
      ties_are : l.ties ≡ ties (take l.at l.switches);
      held : Holding l.at (map switch_id (take l.at l.switches)) l.rows.ids l.rows.first l.rows.next;
    }
