-- A word of the contracts that are not public, what is left of a value; and the frames 87 position by position, of which `DroppedLines` speaks.
use Rattle.std.specs.Prelude.{◌≡◌, Bool, cond, List, [], ℕ, ◌+◌, get_or}
use Rattle.network.specs.declared.topology.PowerNetwork.{PowerNetwork}
use Rattle.network.specs.Answers.{accepted}
use Rattle.network.specs.Check.{check_records}
use Rattle.network.specs.Limits.{is_own_loop}
use Rattle.network.specs.Records.{no_branch, no_switch, records_of}
use Rattle.own_loops.specs.OwnLoops.{branch_reason, switch_reason, value_without}
use Rattle.feeders.specs.Supply.{check_network}
use Rattle.printing.specs.Printed.{dropped_text}

-- ---- position by position of a value's arrays
-- the frame 87 of a line, if it is dropped
unfoldable pub line_if : Bool → ℕ → ℕ → List ℕ
line_if isDropped line reason = cond isDropped (dropped_text line reason) []

abbrev pub branch_line : PowerNetwork → ℕ → List ℕ
branch_line n k = line_if (is_own_loop (get_or n.branches k no_branch)) (2 + n.bus_count + k) branch_reason

abbrev pub switch_line : PowerNetwork → ℕ → List ℕ
switch_line n i = line_if (is_own_loop (get_or n.branches (get_or n.switches i no_switch).branch_idx no_branch)) (2 + n.bus_count + n.branch_count + i) switch_reason

-- ---- what is left of a value that was read is accepted
pub record Left (n left : PowerNetwork) : Type 0 where
  pub read : check_records (records_of n) ≡ accepted tt
  pub left_so : left ≡ value_without n
  pub good : check_network (records_of left) ≡ accepted tt
