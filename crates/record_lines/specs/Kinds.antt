-- Document 01's four kinds of frame and document 02's fifth: the record that each makes, refusals 3 to 9 and 17 of the four, and one line of a kind.
use Rattle.std.specs.Prelude.{Bool, List, [], ◌∷◌, ◌++◌, ℕ, zero, suc, ◌%◌, ◌/◌, ltb, eqb}
use Rattle.std.specs.Float.{binary64}
use Rattle.std.specs.Float.Ieee.{of_bits}
use Rattle.network.specs.declared.bus.Bus as N-bus
use Rattle.network.specs.declared.branch.Branch as N-branch
use Rattle.network.specs.declared.switch.Switch as N-switch
use Rattle.network.specs.declared.switch.ReconfigAlgorithm.{ReconfigAlgorithm}
use Rattle.network.specs.declared.switch.ReconfigAlgorithm.TheVariants.{BranchExchange, TabuSearch, Exhaustive}
use Rattle.network.specs.Answers.{Answer, accepted, refused, ◌and_then◌, Fault, ◌if◌, judge}
use Rattle.network.specs.Limits.{Head}
use Rattle.network.specs.Faults.{head_faults, bus_faults, branch_faults, switch_faults}
use Rattle.lines.specs.Hex.{Fields, read_fields, total}
use Rattle.lines.specs.Frames.{Frame, layout}
use Rattle.lines.specs.FirstLine.{wanted}
use Rattle.lines.specs.Lines.{Line, line_faults}

-- ---- the kinds of frame
-- buses, branches, switches (u16), base_mva (f64), method byte, max_iterations (u16)
abbrev pub head : Frame
head = record { kind = 1; widths = 4 ∷ 4 ∷ 4 ∷ 16 ∷ 2 ∷ 4 ∷ [] }

-- id (u16), pd in MW (f64)
abbrev pub bus : Frame
bus = record { kind = 2; widths = 4 ∷ 16 ∷ [] }

-- from, to (u16), r (f64, per unit), status byte
abbrev pub branch : Frame
branch = record { kind = 3; widths = 4 ∷ 4 ∷ 16 ∷ 2 ∷ [] }

-- id (u16), branch position from 0 (u16), flags byte
abbrev pub switch : Frame
switch = record { kind = 4; widths = 4 ∷ 4 ∷ 2 ∷ [] }

-- document 02: "kind 05 and a bus id (u16)"
abbrev pub supply : Frame
supply = record { kind = 5; widths = 4 ∷ [] }

-- has a line this kind's length and kind byte?
unfoldable pub is_frame : Frame → Line → Bool
is_frame F l = wanted F.kind (total (layout F)) l

-- what the characters of a line say behind the kind byte
unfoldable pub fields_of : (F : Frame) → Line → Fields F.widths
fields_of F l = (read_fields (layout F) l.chars).1

-- ---- the record that the fields make
-- "Methods: 00 exchange, 01 tabu, 02 exhaustive": for these three bytes the method of the byte (`frames/specs/RecordLaws.method_kept`). A greater byte is 3 (`method_faults`), and its method counts nowhere
unfoldable pub method_of : ℕ → ReconfigAlgorithm
method_of zero = BranchExchange
method_of (suc zero) = TabuSearch
method_of (suc (suc n)) = Exhaustive

abbrev pub head_from : Fields head.widths → Head
head_from f =
    record {
      buses = f.0;
      branches = f.1.0;
      switches = f.1.1.0;
      base = of_bits binary64 f.1.1.1.0;
      algorithm = method_of f.1.1.1.1.0;
      iterations = f.1.1.1.1.1.0;
    }

abbrev pub bus_from : Fields bus.widths → N-bus.Bus
bus_from f = record { id = f.0; pd = record { 0 = of_bits binary64 f.1.0 } }

abbrev pub branch_from : Fields branch.widths → N-branch.Branch
branch_from f = record { from_bus = f.0; to_bus = f.1.0; r = of_bits binary64 f.1.1.0; status = eqb f.1.1.1.0 1 }

-- "flags byte: bit 0 normally_open, bit 1 can_operate"
abbrev pub switch_from : Fields switch.widths → N-switch.Switch
switch_from f =
    record { id = f.0; branch_idx = f.1.0; normally_open = eqb (f.1.1.0 % 2) 1; can_operate = eqb (f.1.1.0 / 2 % 2) 1 }

-- the id of the supply bus
abbrev pub supply_from : Fields supply.widths → ℕ
supply_from f = f.0

-- ---- row 3, "method, status or flags byte has no meaning"; bus and supply lines have no such byte
abbrev pub method_faults : ℕ → List Fault
method_faults method = (3 if ltb 2 method) ∷ []

abbrev pub head_bytes : Fields head.widths → List Fault
head_bytes f = method_faults f.1.1.1.1.0

abbrev pub bus_bytes : Fields bus.widths → List Fault
bus_bytes f = []

abbrev pub branch_bytes : Fields branch.widths → List Fault
branch_bytes f = (3 if ltb 1 f.1.1.1.0) ∷ []

abbrev pub switch_bytes : Fields switch.widths → List Fault
switch_bytes f = (3 if ltb 3 f.1.1.0) ∷ []

abbrev pub supply_bytes : Fields supply.widths → List Fault
supply_bytes f = []

-- ---- refusals 3 to 9, and 17, of a line: first a byte without a meaning, then the record's own conditions
abbrev pub head_line_faults : Fields head.widths → List Fault
head_line_faults f = head_bytes f ++ head_faults (head_from f)

abbrev pub bus_line_faults : List N-bus.Bus → Fields bus.widths → List Fault
bus_line_faults before f = bus_bytes f ++ bus_faults before (bus_from f)

abbrev pub branch_line_faults : Bool → List N-bus.Bus → Fields branch.widths → List Fault
branch_line_faults stored buses f = branch_bytes f ++ branch_faults stored buses (branch_from f)

abbrev pub switch_line_faults : Head → List N-switch.Switch → Fields switch.widths → List Fault
switch_line_faults h before f = switch_bytes f ++ switch_faults h before (switch_from f)

-- ---- a reader takes lines from the front
abbrev pub Reader : Type 0 → Type 0
Reader A = List Line → Answer (A × List Line)

-- one line of a kind, at this place; a missing line is 2
unfoldable pub read_one : {A : Type 0} → (F : Frame) → (Fields F.widths → A) → (Fields F.widths → List Fault) → ℕ → Reader A
read_one F make faults place [] = refused 2 place
read_one F make faults place (l ∷ ls) = judge (line_faults (is_frame F l) l ++ faults (fields_of F l)) place and_then accepted (make (fields_of F l), ls)

-- what a reader says without the lines left
unfoldable pub without : {A : Type 0} → Answer (A × List Line) → Answer A
without (accepted r) = accepted r.0
without (refused n p) = refused n p
