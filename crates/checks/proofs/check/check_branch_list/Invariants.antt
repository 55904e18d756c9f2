-- `check_branch_list` meets its contract: the branches before `at` passed.
use Rattle.std.proofs.Common.{List, map}
use Rattle.network.specs.declared.bus.Bus.{Bus}
use Rattle.network.specs.Limits.{bus_id}
use Rattle.network.specs.Faults.{branch_faults}
use Rattle.ids.specs.PutIds.{Holding}
use Rattle.checks.specs.CheckLaws.{Passed}
use Rattle.checks.proofs.check.check_branch_list.Given as goal

abbrev pub invariant-loop-at : goal.invariant-loop-at
invariant-loop-at l = (buses : List Bus) → Holding l.bus_count (map bus_id buses) l.rows.ids l.rows.first l.rows.next → Passed (λ before. branch_faults l.stored buses) l.start l.branches l.at
