-- What the planner hands on to the calls that do more with its pairs: the answer of its tests, and the pairs.
use Rattle.std.specs.Prelude.{List, []}
use Rattle.network.specs.Records.{Network}
use Rattle.network.specs.Answers.{accepted, refused, Judgement}
use Rattle.states.specs.Switches.{State}
use Rattle.changes.specs.Change.{check_plan}
use Rattle.plan.specs.Plan.{Moves, plan}

pub record Made : Type 0 where
  pub answer : Judgement
  pub pairs : List Moves

-- beside a refusal there are no pairs
abbrev pub made_with : Judgement → List Moves → Made
made_with (accepted u) moves = record { answer = accepted u; pairs = moves }
made_with (refused number place) moves = record { answer = refused number place; pairs = [] }

unfoldable pub made_plan : Network → State → State → Made
made_plan N present wanted = made_with (check_plan N present wanted) (plan N present wanted)
