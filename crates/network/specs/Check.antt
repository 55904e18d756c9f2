-- Document 01: "Records handed over without text are checked as their lines would be", each at the place where its line would stand.
use Rattle.std.specs.Prelude.{Bool, true, List, [], ◌∷◌, ◌++◌, ℕ, suc, ◌+◌, length}
use Rattle.network.specs.Records.{Network}
use Rattle.network.specs.Answers.{accepted, ◌and_then◌, Fault, judge, Judgement}
use Rattle.network.specs.Limits.{Head}
use Rattle.network.specs.Faults.{head_faults, bus_faults, branch_faults, switch_faults}

-- the head line counts the records
unfoldable pub head_of : Network → Head
head_of N =
    record { buses = length N.buses; branches = length N.branches; switches = length N.switches; base = N.base; algorithm = N.algorithm; iterations = N.iterations }

-- record after record of a kind, the first at this place; a record's faults may look at those before it
unfoldable pub check_run : {A : Type 0} → (List A → A → List Fault) → List A → ℕ → List A → Judgement
check_run faults before place [] = accepted tt
check_run faults before place (a ∷ rest) = judge (faults before a) place and_then check_run faults (before ++ (a ∷ [])) (suc place) rest

-- "The first faulty line decides": head, buses, branches, switches; in a stored text branches from a bus to itself pass
unfoldable pub check_lines : Bool → Network → Judgement
check_lines stored N =
    let h = head_of N in
    judge (head_faults h) 1
    and_then check_run bus_faults [] 2 N.buses
    and_then check_run (λ before. branch_faults stored N.buses) [] (2 + h.buses) N.branches
    and_then check_run (switch_faults h) [] (2 + h.buses + h.branches) N.switches

-- document 01's rows 3 to 9: it lets branches from a bus to itself pass
unfoldable pub check_records : Network → Judgement
check_records N = check_lines true N
