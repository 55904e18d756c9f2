-- Document 02: the optional line that names the supply bus, its refusals 14 and 15, and with it the first test of every call; and the same of a stored text, Point 7.
use Rattle.std.specs.Prelude.{Bool, true, false, cond, not, List, [], ◌∷◌, map, ℕ, ◌+◌}
use Rattle.std.specs.Prelude.{Option, None, Some}
use Rattle.numbers.specs.Choose.{among}
use Rattle.numbers.specs.Constants.{zero64}
use Rattle.network.specs.declared.bus.Bus.{Bus}
use Rattle.network.specs.declared.branch.Branch.{Branch}
use Rattle.network.specs.declared.switch.Switch.{Switch}
use Rattle.network.specs.declared.switch.ReconfigAlgorithm.TheVariants.{BranchExchange}
use Rattle.network.specs.Records.{Network}
use Rattle.network.specs.Answers.{◌and_then◌, Fault, ◌if◌, Judgement}
use Rattle.network.specs.Limits.{bus_id}
use Rattle.network.specs.Check.{head_of, check_run, check_lines}
use Rattle.own_loops.specs.OwnLoops.{without_own}
use Rattle.states.specs.Live.{base_state}
use Rattle.feeders.specs.Feeder.{radial_in}

-- these buses, branches and switches alone: what a base is, and whether it is radial, is settled by them
abbrev pub records_alone : List Bus → List Branch → List Switch → Network
records_alone buses branches switches =
    record { base = zero64; algorithm = BranchExchange; iterations = 0; buses = buses; branches = branches; switches = switches; supply = None }

-- the records whose base is judged: "judges 15 after the dropping", where the text is a stored one
abbrev pub left_if : Bool → Network → Network
left_if stored N = cond stored (without_own N) N

abbrev pub base_radial : Bool → List Bus → List Branch → List Switch → Bool
base_radial stored buses branches switches = let N = left_if stored (records_alone buses branches switches) in radial_in N (base_state N)

-- "14, bus not listed; 15, base not radial .. lower number first"
unfoldable pub supply_faults : Bool → List Bus → List Branch → List Switch → ℕ → List Fault
supply_faults stored buses branches switches id = (14 if not (among id (map bus_id buses))) ∷ (15 if not (base_radial stored buses branches switches)) ∷ []

-- "One optional last line": the ids that it gives, one or none
abbrev pub supplies : Option ℕ → List ℕ
supplies None = []
supplies (Some id) = id ∷ []

-- "both at the 05 line", which stands behind those of the switches as they are listed: "its place the old line"
unfoldable pub check_supply_line : Bool → Network → Judgement
check_supply_line stored N =
    let h = head_of N in
    check_run (λ before. supply_faults stored N.buses N.branches N.switches) [] (2 + h.buses + h.branches + h.switches) (supplies N.supply)

unfoldable pub check_supply : Network → Judgement
check_supply N = check_supply_line false N

-- the records of a text, stored or not, then its supply
unfoldable pub check_as : Bool → Network → Judgement
check_as stored N = check_lines stored N and_then check_supply_line stored N

-- what every call tests first
unfoldable pub check_network : Network → Judgement
check_network N = check_as false N

-- the records of a stored text
unfoldable pub check_stored : Network → Judgement
check_stored N = check_as true N
