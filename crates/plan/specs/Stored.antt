-- What the code's values stand for: the switches that a pair moves, the pairs of a list, and what the planner answers.
use Rattle.std.specs.Prelude.{List, [], map, ℕ, length, Result, Ok, Err}
use Rattle.network.specs.declared.error.Refusal.{Refusal}
use Rattle.network.specs.Answers.{accepted, refused, number_of, place_of}
use Rattle.printing.specs.Printed.{pair_text}
use Rattle.printing.specs.Stored.{ids_in}
use Rattle.plan.specs.declared.pairs.Pair.{Pair}
use Rattle.plan.specs.declared.planner.PlanLines.{PlanLines}
use Rattle.plan.specs.declared.list.SwitchList.{SwitchList}
use Rattle.plan.specs.SwitchLists.{listed}
use Rattle.plan.specs.Plan.{Moves}
use Rattle.plan.specs.MadePlans.{Made}

abbrev pub switches_in : Pair → Moves
switches_in p = record { closes = ids_in p.closes; opens = ids_in p.opens }

abbrev pub moves_in : List Pair → List Moves
moves_in l = map switches_in l

-- how many bytes the line of a pair has
abbrev pub line_length : Pair → ℕ
line_length p = length (pair_text (ids_in p.closes) (ids_in p.opens))

-- the answer of the planner's tests, and its pairs: beside a refusal there are none
abbrev pub made_in : Result (SwitchList Pair) Refusal → Made
made_in (Ok pairs) = record { answer = accepted tt; pairs = moves_in (listed pairs) }
made_in (Err r) = record { answer = refused (number_of r) (place_of r); pairs = [] }

-- how many bytes have been written: none beside a refusal
abbrev pub bytes_in : Result PlanLines Refusal → ℕ
bytes_in (Ok lines) = lines.length
bytes_in (Err r) = 0
