-- `walk_load` meets its contract. The invariant: the arrays hold the visits after as many turns as buses had theirs, and the loads of those buses are added.
-- The step is `turned` and `load_more`.
use Rattle.std.proofs.Common.{◌≡◌, ◌-◌, ◌≤◌}
use Rattle.lists.specs.Lists.{listed}
use Rattle.lists.proofs.Reaches.{array_load, Turned}
use Rattle.lists.proofs.lists.walk_load.Given as goal

abbrev pub invariant-loop-head : goal.invariant-loop-head
invariant-loop-head l = record {
  within : l.head ≤ l.reached.count;
  turned : Turned (listed l.at l.near) l.start l.barred l.reached l.head;
  loaded : l.total ≡ array_load l.mw l.reached.bus l.head;
}

abbrev pub decreases-loop-head : goal.decreases-loop-head
decreases-loop-head l = 256 - l.head
