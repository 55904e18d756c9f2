-- Document 01's table of refusals, rows 3 to 9, and document 02's 17: the conditions that a record meets or not, each kind's in the order in which they win.
use Rattle.std.specs.Prelude.{Bool, not, ◌&&◌, ◌||◌, List, [], ◌∷◌, map, ℕ, leb, ltb, eqb, Float}
use Rattle.numbers.specs.Choose.{among}
use Rattle.numbers.specs.Times.{times}
use Rattle.network.specs.declared.bus.Bus.{Bus}
use Rattle.network.specs.declared.branch.Branch.{Branch}
use Rattle.network.specs.declared.switch.Switch.{Switch}
use Rattle.network.specs.declared.switch.ReconfigAlgorithm.{ReconfigAlgorithm}
use Rattle.network.specs.Answers.{Fault, ◌if◌}
use Rattle.network.specs.Limits.{Head, method_byte, ok_base, ok_load, ok_r, bus_id, switch_id, is_own_loop, on, ties}

-- ---- the table's rows, each kind's conditions once. Row 3 has "iterations over 1,000" alone: a record's method, status and flags always have a meaning
-- a head, from its counts of buses, branches and switches, its base_mva and its iterations
abbrev pub head_row : ℕ → ℕ → ℕ → Float → ℕ → List Fault
head_row buses branches switches base iterations =
    (3 if ltb 1000 iterations)
    ∷ (4 if (ltb 256 buses || ltb 512 branches || ltb 512 switches))
    ∷ (5 if not (ok_base base))
    ∷ []

-- a bus; whether a bus before it has its id
abbrev pub bus_row : Bus → Bool → List Fault
bus_row b twice =
    (5 if not (ok_load b.pd.0))
    ∷ (7 if twice)
    ∷ []

-- a branch, of a stored text or not; whether a bus with the id of its from end is listed, and of its to end
abbrev pub branch_row : Bool → Branch → Bool → Bool → List Fault
branch_row stored b fromListed toListed =
    (5 if not (ok_r b.r))
    ∷ (6 if (not fromListed || not toListed))
    -- document 02, Point 7: "17, equal ends, at the branch line, after 6 and before 7"; a stored text may have such branches
    ∷ (17 if (not stored && is_own_loop b))
    ∷ []

-- a switch; how many branches there are, the method, whether a switch before it has its id, how many before it are on its branch, and how many before it are ties
abbrev pub switch_row : Switch → ℕ → ReconfigAlgorithm → Bool → ℕ → ℕ → List Fault
switch_row s branches algorithm twice onBranch tiesBefore =
    (6 if leb branches s.branch_idx)
    ∷ (7 if twice)
    -- document 02, Point 6: "Refusal 8 now means a third"
    ∷ (8 if leb 2 onBranch)
    ∷ (9 if (eqb (method_byte algorithm) 2 && (s.normally_open && leb 10 tiesBefore)))
    ∷ []

-- ---- the same among the records of a network
unfoldable pub head_faults : Head → List Fault
head_faults h = head_row h.buses h.branches h.switches h.base h.iterations

-- of a bus, with the buses before it
unfoldable pub bus_faults : List Bus → Bus → List Fault
bus_faults before b = bus_row b (among b.id (map bus_id before))

-- of a branch, with all buses
unfoldable pub branch_faults : Bool → List Bus → Branch → List Fault
branch_faults stored buses b = branch_row stored b (among b.from_bus (map bus_id buses)) (among b.to_bus (map bus_id buses))

-- of a switch, with the head and the switches before it
unfoldable pub switch_faults : Head → List Switch → Switch → List Fault
switch_faults h before s = switch_row s h.branches h.algorithm (among s.id (map switch_id before)) (times s.branch_idx (map on before)) (ties before)
