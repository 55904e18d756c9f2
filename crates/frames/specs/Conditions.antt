-- Every line's conditions, found from the text alone, and the sentence "The first faulty line decides; inside a line the lower number wins".
use Rattle.std.specs.Prelude.{◌≡◌, true, false, Bool, not, List, [], ◌∷◌, ◌++◌, map, ℕ, zero, suc, ◌≤◌, take, drop}
use Rattle.network.specs.declared.bus.Bus.{Bus}
use Rattle.network.specs.declared.branch.Branch.{Branch}
use Rattle.network.specs.declared.switch.Switch.{Switch}
use Rattle.network.specs.Answers.{Answer, accepted, refused, ◌and_then◌, Fault, ◌if◌, judge, Judgement}
use Rattle.network.specs.Limits.{Head}
use Rattle.network.specs.Inside.{Each}
use Rattle.lines.specs.Hex.{Fields}
use Rattle.lines.specs.Lines.{Line, is_long, is_miswritten}
use Rattle.lines.specs.Frames.{Frame}
use Rattle.record_lines.specs.Kinds.{head, bus, branch, switch, supply, is_frame, fields_of, head_from, bus_from, branch_from, switch_from, supply_from, head_line_faults, bus_line_faults, branch_line_faults, switch_line_faults}
use Rattle.frames.specs.Text.{at_most_one, supply_line_faults}

-- what a line may meet: "a line over 36 characters is 2 whatever they are", and its other conditions
pub record LineConditions : Type 0 where
  pub over : Bool
  pub others : List Fault

-- over 36 characters comes before the others
abbrev pub ranked : LineConditions → List Fault
ranked c = (2 if c.over) ∷ c.others

-- "line missing": 2
abbrev pub missing : LineConditions
missing = record { over = false; others = (2 if true) ∷ [] }

-- of a line: row 1, row 2 where it is not the line that is wanted, and the conditions of its fields
abbrev pub line_conditions : Bool → Line → List Fault → LineConditions
line_conditions asWanted l fields = record { over = is_long l; others = (1 if is_miswritten l) ∷ (2 if not asWanted) ∷ fields }

-- of n lines of a kind
unfoldable pub kind_conditions : {A : Type 0} → (F : Frame) → (Fields F.widths → A) → (List A → Fields F.widths → List Fault) → List A → ℕ → List Line → List LineConditions
kind_conditions F make faults before zero ls = []
kind_conditions F make faults before (suc n) [] = missing ∷ kind_conditions F make faults before n []
kind_conditions F make faults before (suc n) (l ∷ ls) =
    line_conditions (is_frame F l) l (faults before (fields_of F l)) ∷ kind_conditions F make faults (before ++ (make (fields_of F l) ∷ [])) n ls

-- of the first surplus line, if there is one
unfoldable pub surplus_conditions : List Line → List LineConditions
surplus_conditions [] = []
surplus_conditions (l ∷ ls) = line_conditions false l [] ∷ []

-- the records that lines write
unfoldable pub buses_of : ℕ → List Line → List Bus
buses_of n ls = map (λ l. bus_from (fields_of bus l)) (take n ls)

unfoldable pub branches_of : ℕ → List Line → List Branch
branches_of n ls = map (λ l. branch_from (fields_of branch l)) (take n ls)

unfoldable pub switches_of : ℕ → List Line → List Switch
switches_of n ls = map (λ l. switch_from (fields_of switch l)) (take n ls)

-- of the lines behind the head
unfoldable pub body_conditions : Bool → Head → List Line → List LineConditions
body_conditions stored h ls =
    let after-buses = drop h.buses ls in
    let after-branches = drop h.branches after-buses in
    let after-switches = drop h.switches after-branches in
    let buses = buses_of h.buses ls in
    let branches = branches_of h.branches after-buses in
    let switches = switches_of h.switches after-branches in
    kind_conditions bus bus_from bus_line_faults [] h.buses ls
    ++ (kind_conditions branch branch_from (λ before. branch_line_faults stored buses) [] h.branches after-buses
    ++ (kind_conditions switch switch_from (switch_line_faults h) [] h.switches after-branches
    ++ (kind_conditions supply supply_from (λ before. supply_line_faults stored buses branches switches) [] (at_most_one after-switches) after-switches
    ++ surplus_conditions (drop (at_most_one after-switches) after-switches))))

-- of all lines of a text, stored or not
unfoldable pub conditions : Bool → List Line → List LineConditions
conditions stored [] = missing ∷ []
conditions stored (l ∷ ls) = line_conditions (is_frame head l) l (head_line_faults (fields_of head l)) ∷ body_conditions stored (head_from (fields_of head l)) ls

-- the first line with a condition met decides, the first that it meets gives the number
unfoldable pub judge_lines : ℕ → List LineConditions → Judgement
judge_lines place [] = accepted tt
judge_lines place (c ∷ cs) = judge (ranked c) place and_then judge_lines (suc place) cs

-- an answer without what was asked for
unfoldable pub judgement_of : {A : Type 0} → Answer A → Judgement
judgement_of (accepted a) = accepted tt
judgement_of (refused n place) = refused n place

-- the numbers whose conditions are met
unfoldable pub met : List Fault → List ℕ
met [] = []
met ((n if true) ∷ fs) = n ∷ met fs
met ((n if false) ∷ fs) = met fs

-- the number that is given is the lowest of those met
abbrev pub LowestWins : List Fault → Type 0
LowestWins c = (n place : ℕ) → judge c place ≡ refused n place → Each (λ m. n ≤ m) (met c)
