-- Reading in two passes. The first looks at each line's text and at the meaning of its bytes alone (rows 1, 2 and, of branch and switch lines, 3) and
-- collects the records up to the first line at fault; then the records are checked as records handed over without text are.
-- Split shows that this is reading line by line, of a stored text and of another:
--   split : (stored : Bool) (t : List ℕ) → read_as stored t ≡ read_twice stored t
use Rattle.std.specs.Prelude.{Bool, List, [], ◌∷◌, ◌++◌, ℕ, ◌+◌}
use Rattle.numbers.specs.UpTo.{up_to}
use Rattle.network.specs.declared.bus.Bus.{Bus}
use Rattle.network.specs.declared.branch.Branch.{Branch}
use Rattle.network.specs.declared.switch.Switch.{Switch}
use Rattle.network.specs.Answers.{Answer, accepted, refused, ◌and_then◌, Fault, Judgement}
use Rattle.network.specs.Records.{Network}
use Rattle.network.specs.Limits.{Head}
use Rattle.lines.specs.Hex.{Fields}
use Rattle.lines.specs.Lines.{Line, cut}
use Rattle.lines.specs.Frames.{Frame}
use Rattle.record_lines.specs.Kinds.{head, bus, branch, switch, supply, head_from, bus_from, branch_from, switch_from, supply_from, head_line_faults, bus_bytes, branch_bytes, switch_bytes, supply_bytes, read_one, without}
use Rattle.feeders.specs.Supply.{check_as}
use Rattle.frames.specs.Text.{read_end, at_most_one, as_option, supply_place}

-- ---- the pass over the lines of one kind
-- the records read so far, the lines left, and the refusal at which the pass stopped, if it did; the line refused is then the first of those left
pub record Pass (A : Type 0) : Type 0 where
  pub records : List A
  pub left : List Line
  pub stopped : Judgement

abbrev pub going : {A : Type 0} → List A → List Line → Pass A
going records left = record { records = records; left = left; stopped = accepted tt }

abbrev pub halted : {A : Type 0} → List A → List Line → ℕ → ℕ → Pass A
halted records left n place = record { records = records; left = left; stopped = refused n place }

-- what the next line adds
unfoldable pub pass_one : {A : Type 0} → List A → List Line → Answer (A × List Line) → Pass A
pass_one records left (accepted r) = going (records ++ (r.0 ∷ [])) r.1
pass_one records left (refused n place) = halted records left n place

-- a pass that has stopped stays as it is
unfoldable pub pass_on : {A : Type 0} → List A → List Line → Judgement → Answer (A × List Line) → Pass A
pass_on records left (accepted u) next = pass_one records left next
pass_on records left (refused n place) next = halted records left n place

-- one line more, at this place
unfoldable pub pass_step : {A : Type 0} → (F : Frame) → (Fields F.widths → A) → (Fields F.widths → List Fault) → ℕ → Pass A → Pass A
pass_step F make bytes place pass = pass_on pass.records pass.left pass.stopped (read_one F make bytes place pass.left)

-- n lines, the first at this place
unfoldable pub pass_run : {A : Type 0} → (F : Frame) → (Fields F.widths → A) → (Fields F.widths → List Fault) → ℕ → ℕ → List Line → Pass A
pass_run F make bytes n place ls = up_to (λ pass i. pass_step F make bytes (place + i) pass) (going [] ls) n

-- ---- the pass over a whole text
-- a kind's lines are reached where all lines of the kind before were read
unfoldable pub onward : {B : Type 0} → List Line → Judgement → (List Line → Pass B) → Pass B
onward left (accepted u) more = more left
onward left (refused n place) more = halted [] left n place

abbrev pub after : {A B : Type 0} → Pass A → (List Line → Pass B) → Pass B
after pass more = onward pass.left pass.stopped more

abbrev pub pass_buses : Head → List Line → Pass Bus
pass_buses h = pass_run bus bus_from bus_bytes h.buses 2

abbrev pub pass_branches : Head → List Line → Pass Branch
pass_branches h = pass_run branch branch_from branch_bytes h.branches (2 + h.buses)

abbrev pub pass_switches : Head → List Line → Pass Switch
pass_switches h = pass_run switch switch_from switch_bytes h.switches (2 + h.buses + h.branches)

-- one line, if a line is left
abbrev pub pass_supply : ℕ → List Line → Pass ℕ
pass_supply place ls = pass_run supply supply_from supply_bytes (at_most_one ls) place ls

-- the branches behind the buses, and the switches behind these
abbrev pub branches_read : Head → List Line → Pass Branch
branches_read h ls = after (pass_buses h ls) (pass_branches h)

abbrev pub switches_read : Head → List Line → Pass Switch
switches_read h ls = after (branches_read h ls) (pass_switches h)

-- the records collected, and the refusal of the first line at fault, if there is one
pub record Collected : Type 0 where
  pub network : Network
  pub stopped : Judgement

unfoldable pub collect : Head → List Line → Collected
collect h ls =
    let b = pass_buses h ls in
    let r = branches_read h ls in
    let s = switches_read h ls in
    let z = after s (pass_supply (supply_place h)) in
    record {
      network = record {
        base = h.base;
        algorithm = h.algorithm;
        iterations = h.iterations;
        buses = b.records;
        branches = r.records;
        switches = s.records;
        supply = as_option z.records;
      };
      stopped = z.stopped and_then without (read_end (supply_place h + 1) z.left);
    }

-- the records decide, each at its place, then the line at which the pass stopped, which comes after all of theirs
abbrev pub settle : Bool → Collected → Answer Network
settle stored c = check_as stored c.network and_then c.stopped and_then accepted c.network

unfoldable pub after_head : Bool → Answer (Head × List Line) → Answer Network
after_head stored (accepted r) = settle stored (collect r.0 r.1)
after_head stored (refused n place) = refused n place

unfoldable pub read_twice : Bool → List ℕ → Answer Network
read_twice stored t = after_head stored (read_one head head_from head_line_faults 1 (cut t))
