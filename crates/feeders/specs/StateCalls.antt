-- The tests of a call on a state, behind that of the network: refusals 10 and 11.
use Rattle.std.specs.Prelude.{Bool, not, [], ◌∷◌, ℕ}
use Rattle.network.specs.Records.{Network}
use Rattle.network.specs.Answers.{Answer, accepted, ◌and_then◌, ◌if◌, judge, Judgement}
use Rattle.states.specs.Live.{check_state}
use Rattle.states.specs.Switches.{State}
use Rattle.feeders.specs.Feeder.{radial_in}
use Rattle.feeders.specs.Supply.{check_network}

-- a call on one state: "Calls test the network, then 10", and then it answers
abbrev pub on_state : {A : Type 0} → Network → State → A → Answer A
on_state N s answer = check_network N and_then check_state N s 0 and_then accepted answer

-- refusal 11: "state isn't radial"; place 0 for the present or only state, 1 for the wanted one
abbrev pub judge_radial : Bool → ℕ → Judgement
judge_radial isRadial place = judge ((11 if not isRadial) ∷ []) place

unfoldable pub check_radial : Network → State → ℕ → Judgement
check_radial N s place = judge_radial (radial_in N s) place
