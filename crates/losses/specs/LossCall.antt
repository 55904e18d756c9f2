-- What the loss call answers.
use Rattle.std.specs.Prelude.{Bool, ℕ, Float}
use Rattle.std.specs.Prelude.{Option, None, Some}
use Rattle.network.specs.Records.{Network}
use Rattle.network.specs.Answers.{Answer, accepted, ◌and_then◌, Judgement}
use Rattle.states.specs.Live.{check_state}
use Rattle.states.specs.Switches.{State}
use Rattle.feeders.specs.StateCalls.{judge_radial, check_radial}
use Rattle.feeders.specs.Supply.{check_network}
use Rattle.losses.specs.Loss.{loss_in}

-- document 02: "A loss call on a state that isn't radial then gets refusal 11": where a supply is named, and only there
abbrev pub check_fed : Network → Option ℕ → State → Judgement
check_fed N None s = accepted tt
check_fed N (Some id) s = check_radial N s 0

-- the same by what the code has: the supply, where one is named, and whether the state is radial
abbrev pub judge_fed : Option ℕ → Bool → Judgement
judge_fed None isRadial = accepted tt
judge_fed (Some id) isRadial = judge_radial isRadial 0

-- the network, then 10, then 11, then the loss in MW. Without a supply that is `on_state` of the loss (LossCallLaws.unsupplied_call)
unfoldable pub loss_call : Network → State → Answer Float
loss_call N s = check_network N and_then check_state N s 0 and_then check_fed N N.supply s and_then accepted (loss_in N s)
