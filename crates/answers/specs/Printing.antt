-- What is printed for a text (document 01, section Triangle; the lines 84 and 86 by document 02, points 5 and 6).
use Rattle.std.specs.Prelude.{cond, List, [], ◌++◌, ℕ, length, take}
use Rattle.std.specs.Float.{binary64}
use Rattle.std.specs.Float.Ieee.{to_bits}
use Rattle.network.specs.Records.{Network}
use Rattle.network.specs.Answers.{Answer, accepted, refused}
use Rattle.states.specs.Live.{base_state}
use Rattle.frames.specs.Text.{read_text}
use Rattle.frames.specs.Conditions.{judgement_of}
use Rattle.graph.specs.Form.{is_tree}
use Rattle.printing.specs.Printed.{answer_text, form_text, refusal_text}
use Rattle.printing.specs.Calls.{Call, called}
use Rattle.feeders.specs.Feeder.{radial_in}
use Rattle.plan.specs.Plan.{plan, plan_text}
use Rattle.searches.specs.Results.{Result}
use Rattle.reconfiguration.specs.Solve.{result, best}
use Rattle.operations.specs.Operations.{operations, operations_text}

-- "81: radial byte of the best state, base loss, best loss, reduction percent, iterations (u16), converged"
unfoldable pub result_text : Result → List ℕ
result_text r = answer_text (is_tree r.form) (to_bits binary64 r.base_loss) (to_bits binary64 r.best_loss) (to_bits binary64 r.reduction) r.iterations r.converged

-- "A frame 84 .. follows 81, for the best state"
unfoldable pub result_lines : Result → List ℕ
result_lines r = result_text r ++ form_text r.form

-- the 82 lines, from the base to the best state
unfoldable pub operation_lines : Network → List ℕ
operation_lines N = operations_text (operations N (base_state N) (best N).state)

-- the 86 lines, "only for a radial base"
unfoldable pub plan_lines : Network → List ℕ
plan_lines N = cond (radial_in N (base_state N)) (plan_text (plan N (base_state N) (best N).state)) []

-- the lines behind the 81 line and the 84 line
unfoldable pub move_lines : Network → List ℕ
move_lines N = operation_lines N ++ plan_lines N

unfoldable pub network_text : Network → List ℕ
network_text N = result_lines (result N) ++ move_lines N

-- "A refusal prints one line"
abbrev pub printed_of : Answer Network → List ℕ
printed_of (accepted N) = network_text N
printed_of (refused number place) = refusal_text number place

-- what `feeder` prints for a text
unfoldable pub printed : List ℕ → List ℕ
printed text = printed_of (read_text text)

-- the call, "Calls test the network, then .. 13": the text's own refusal with its number and place, then 13, then how many bytes, with the bytes at the front of the
-- slice. "A refusal .. writes no lent byte"
unfoldable pub answered_text : List ℕ → List ℕ → Call ℕ
answered_text text out = called (judgement_of (read_text text)) (length (printed text)) (printed text) out

-- what is printed of an answer beside a slice: so many bytes of its front, or the line of the refusal
abbrev pub printed_answer : Answer ℕ → List ℕ → List ℕ
printed_answer (accepted count) out = take count out
printed_answer (refused number place) out = refusal_text number place

-- what `feeder` prints of the call's answer; with room for every answer it is `printed text` (`PrintingLaws.printed_by_call`)
abbrev pub printed_by : Call ℕ → List ℕ
printed_by c = printed_answer c.answer c.out
