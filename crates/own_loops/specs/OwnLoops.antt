-- Document 02, Point 7: a feeder without its branches from a bus to itself. "it drops such branches and their switches, renumbers branch positions".
use Rattle.std.specs.Prelude.{◌≡◌, Bool, cond, not, List, [], ◌∷◌, ◌++◌, map, ℕ, suc, ◌+◌, ◌<◌, min, length, get_or}
use Rattle.numbers.specs.Arrays.{padded}
use Rattle.numbers.specs.Counts.{count}
use Rattle.numbers.specs.Keep.{keep}
use Rattle.network.specs.declared.branch.Branch.{Branch}
use Rattle.network.specs.declared.switch.Switch.{Switch}
use Rattle.network.specs.declared.topology.PowerNetwork.{PowerNetwork}
use Rattle.network.specs.Records.{Network, no_branch, no_switch, listed}
use Rattle.network.specs.Limits.{is_own_loop}

-- ---- what is left
-- a branch that goes from one bus to another
abbrev pub is_proper : Branch → Bool
is_proper b = not (is_own_loop b)

-- such a branch stands at this position. Behind the last branch stands `no_branch`, whose ends are equal: a switch on no branch counts as one on an own loop (inside the limits
-- there is none)
abbrev pub proper_at : List Branch → ℕ → Bool
proper_at branches k = is_proper (get_or branches k no_branch)

-- among the branches that are kept a switch's branch stands behind those kept before it; its id and flags stay
abbrev pub renumbered : List Branch → Switch → Switch
renumbered branches s =
    record { id = s.id; branch_idx = count (proper_at branches) s.branch_idx; normally_open = s.normally_open; can_operate = s.can_operate }

-- the switches on branches that are kept
abbrev pub switches_left : List Branch → List Switch → List Switch
switches_left branches switches = map (renumbered branches) (keep (λ s. proper_at branches s.branch_idx) switches)

-- the feeder without its own loops. "corrects the head": it counts what is listed (`Check.head_of`)
unfoldable pub without_own : Network → Network
without_own N =
    record {
      base = N.base;
      algorithm = N.algorithm;
      iterations = N.iterations;
      buses = N.buses;
      branches = keep is_proper N.branches;
      switches = switches_left N.branches N.switches;
      supply = N.supply;
    }

-- the branch that a switch is on
abbrev pub branch_under : Network → Switch → Branch
branch_under N s = get_or N.branches s.branch_idx no_branch

-- ---- what was dropped: "old line number u16, reason byte 01 branch or 02 switch"
abbrev pub branch_reason : ℕ
branch_reason = 1

abbrev pub switch_reason : ℕ
switch_reason = 2

pub record Dropped : Type 0 where
  pub line : ℕ
  pub reason : ℕ

-- those of a kind that pass the test, the first line of the kind at this place
unfoldable pub dropped_from : {A : Type 0} → (A → Bool) → ℕ → ℕ → List A → List Dropped
dropped_from isDropped reason line [] = []
dropped_from isDropped reason line (a ∷ l) =
    let later = dropped_from isDropped reason (suc line) l in
    cond (isDropped a) (record { line = line; reason = reason } ∷ later) later

abbrev pub dropped_branches : Network → List Dropped
dropped_branches N = dropped_from is_own_loop branch_reason (2 + length N.buses) N.branches

abbrev pub dropped_switches : Network → List Dropped
dropped_switches N = dropped_from (λ s. not (proper_at N.branches s.branch_idx)) switch_reason (2 + length N.buses + length N.branches) N.switches

-- "for each dropped line, in line order"
unfoldable pub dropped_lines : Network → List Dropped
dropped_lines N = dropped_branches N ++ dropped_switches N

-- a branch from a bus to itself, and a switch on one, stood on this line
abbrev pub DroppedBranch : Network → ℕ → Type 0
DroppedBranch N line =
    (k : ℕ) × (k < length N.branches) × (line ≡ 2 + length N.buses + k) × ((get_or N.branches k no_branch).from_bus ≡ (get_or N.branches k no_branch).to_bus)

abbrev pub DroppedSwitch : Network → ℕ → Type 0
DroppedSwitch N line =
    (i : ℕ) × (i < length N.switches) × (line ≡ 2 + length N.buses + length N.branches + i)
    × ((branch_under N (get_or N.switches i no_switch)).from_bus ≡ (branch_under N (get_or N.switches i no_switch)).to_bus)

-- ---- the same of a value handed over: of each kind the records that are counted, as many as its array has room for
abbrev pub branches_in : PowerNetwork → List Branch
branches_in n = listed no_branch n.branches (min n.branch_count 512)

abbrev pub switches_in : PowerNetwork → List Switch
switches_in n = listed no_switch n.switches (min n.switch_count 512)

unfoldable pub value_without : PowerNetwork → PowerNetwork
value_without n =
    let branches = keep is_proper (branches_in n) in
    let switches = switches_left (branches_in n) (switches_in n) in
    record {
      buses = n.buses;
      branches = padded 512 no_branch branches;
      switches = padded 512 no_switch switches;
      bus_count = n.bus_count;
      branch_count = length branches;
      switch_count = length switches;
      base_mva = n.base_mva;
      algorithm = n.algorithm;
      max_iterations = n.max_iterations;
      supply = n.supply;
    }
