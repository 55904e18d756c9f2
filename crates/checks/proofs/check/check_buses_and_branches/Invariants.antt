-- `check_buses_and_branches` meets its contract: the buses before `at` passed, and their ids are in rows.
use Rattle.std.proofs.Common.{map, take}
use Rattle.network.specs.Limits.{bus_id}
use Rattle.network.specs.Faults.{bus_faults}
use Rattle.ids.specs.PutIds.{Holding}
use Rattle.checks.specs.CheckLaws.{Passed}
use Rattle.checks.proofs.check.check_buses_and_branches.Given as goal

abbrev pub invariant-loop-at : goal.invariant-loop-at
invariant-loop-at l =
    record {
      passed : Passed bus_faults 2 l.buses l.at;
      held : Holding l.at (map bus_id (take l.at l.buses)) l.rows.ids l.rows.first l.rows.next;
    }
