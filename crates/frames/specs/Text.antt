-- Document 01's frame text, with document 02's last line: the reader takes its lines, kind after kind, and what a text means, a new one or a stored one (document 02, Point 7).
use Rattle.std.specs.Prelude.{Bool, true, false, List, [], ◌∷◌, ◌++◌, ℕ, zero, suc, ◌+◌}
use Rattle.std.specs.Prelude.{Option, None, Some}
use Rattle.network.specs.declared.bus.Bus.{Bus}
use Rattle.network.specs.declared.branch.Branch.{Branch}
use Rattle.network.specs.declared.switch.Switch.{Switch}
use Rattle.network.specs.Answers.{Answer, accepted, refused, ◌and_then◌, Fault, judge}
use Rattle.network.specs.Limits.{Head}
use Rattle.network.specs.Records.{Network}
use Rattle.lines.specs.Hex.{Fields}
use Rattle.lines.specs.Lines.{Line, cut, line_faults}
use Rattle.lines.specs.Frames.{Frame}
use Rattle.record_lines.specs.Kinds.{head, bus, branch, switch, supply, head_from, bus_from, branch_from, switch_from, supply_from, head_line_faults, bus_line_faults, branch_line_faults, switch_line_faults, supply_bytes, Reader, read_one, without}
use Rattle.feeders.specs.Supply.{supply_faults}

-- after what was read, go on with the lines left; a refusal stays
unfoldable pub follow : {A B : Type 0} → Answer (A × List Line) → (A → Reader B) → Answer (B × List Line)
follow (accepted r) f = f r.0 r.1
follow (refused n p) f = refused n p

infixl 3 ◌>>=◌
abbrev pub ◌>>=◌ : {A B : Type 0} → Reader A → (A → Reader B) → Reader B
m >>= f = λ ls. follow (m ls) f

unfoldable pub pure : {A : Type 0} → A → Reader A
pure a ls = accepted (a, ls)

-- n lines of a kind, the first at this place. A line's faults may look at the records before it
unfoldable pub read_run : {A : Type 0} → (F : Frame) → (Fields F.widths → A) → (List A → Fields F.widths → List Fault) → List A → ℕ → ℕ → Reader (List A)
read_run F make faults before zero place = pure []
read_run F make faults before (suc n) place =
    do
      a ← read_one F make (faults before) place
      rest ← read_run F make faults (before ++ (a ∷ [])) n (suc place)
      pure (a ∷ rest)

-- no line more: the first surplus line is 1 or 2
unfoldable pub read_end : ℕ → Reader (Unit {0})
read_end place [] = accepted (tt, [])
read_end place (l ∷ ls) = judge (line_faults false l) place and_then accepted (tt, ls)

-- ---- document 02: "One optional last line"
-- as many lines as are left, at most one
unfoldable pub at_most_one : List Line → ℕ
at_most_one [] = 0
at_most_one (l ∷ ls) = 1

-- the supply that a run of at most one line gives
unfoldable pub as_option : List ℕ → Option ℕ
as_option [] = None
as_option (id ∷ ids) = Some id

-- refusals of the line behind 1 and 2: "14, bus not listed; 15, base not radial"
abbrev pub supply_line_faults : Bool → List Bus → List Branch → List Switch → Fields supply.widths → List Fault
supply_line_faults stored buses branches switches f = supply_bytes f ++ supply_faults stored buses branches switches (supply_from f)

-- its place, behind the lines that the head counts
abbrev pub supply_place : Head → ℕ
supply_place h = 2 + h.buses + h.branches + h.switches

abbrev pub read_supply : Bool → List Bus → List Branch → List Switch → ℕ → Reader (List ℕ)
read_supply stored buses branches switches place ls = read_run supply supply_from (λ before. supply_line_faults stored buses branches switches) [] (at_most_one ls) place ls

-- "Lines come in this order, as many as the head says", then the supply's line, if a line is left
unfoldable pub read_lines : Bool → Reader Network
read_lines stored =
    do
      h ← read_one head head_from head_line_faults 1
      buses ← read_run bus bus_from bus_line_faults [] h.buses 2
      branches ← read_run branch branch_from (λ before. branch_line_faults stored buses) [] h.branches (2 + h.buses)
      switches ← read_run switch switch_from (switch_line_faults h) [] h.switches (2 + h.buses + h.branches)
      ids ← read_supply stored buses branches switches (supply_place h)
      _ ← read_end (supply_place h + 1)
      pure (record { base = h.base; algorithm = h.algorithm; iterations = h.iterations; buses = buses; branches = branches; switches = switches; supply = as_option ids })

-- what a text means, stored or not: its records, or the first refusal with its place
unfoldable pub read_as : Bool → List ℕ → Answer Network
read_as stored t = without (read_lines stored (cut t))

-- "New texts with one are refused"
unfoldable pub read_text : List ℕ → Answer Network
read_text t = read_as false t

-- a stored text: its branches from a bus to itself pass, and its base is judged without them
unfoldable pub read_stored : List ℕ → Answer Network
read_stored t = read_as true t
