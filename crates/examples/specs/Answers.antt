-- Document 01's worked example: what is printed for the triangle's text, and a refusal's line.
use Rattle.std.specs.Prelude.{true, ◌≡◌, refl, ℕ}
use mathlib.Core.List.{List, [], ◌∷◌, ◌++◌, flat_map}
use Rattle.std.proofs.Common.{sym}
use Rattle.std.specs.Float.Ieee.{of_bits, to_bits, le, lt, neg, add, sub, mul, div}
use Rattle.numbers.specs.UpTo.{up_to, table}
use Rattle.numbers.specs.Counts.{count}
use Rattle.numbers.specs.Choose.{those, least, first_some, first_of, index_of, ◌or_else◌, last_some}
use Rattle.network.specs.Answers.{refused}
use Rattle.states.specs.Live.{live, open_on, base_state}
use Rattle.lines.specs.Hex.{digit, digits, write_fields}
use Rattle.lines.specs.Frames.{frame_text}
use Rattle.frames.specs.Proof.{passed}
use Rattle.examples.specs.Texts.{line, triangle_text, triangle_read, table-rows}
use Rattle.examples.specs.Feeders.{triangle}
use Rattle.printing.specs.Printed.{answer_text, form_text, operation_text, pair_text, refusal_text}
use Rattle.graph.specs.Walk.{far, neighbours, reached, enter, enter_all, turn, walk_by, walk, by_of, across, back, bfs_path}
use Rattle.graph.specs.Radial.{radial}
use Rattle.graph.specs.Form.{form}
use Rattle.feeders.specs.Feeder.{feeder, position, ends_path, form_in, radial_in}
use Rattle.losses.specs.Loss.{walk_load, downstream, term_of, total_of, loss, drawn, loss_in}
use Rattle.plan.specs.Plan.{ranks, closings, opening, exchanged, pairs_from, pairs, open_switches, plan, plan_text}
use Rattle.plan.specs.Claim.{SwitchingPlan}
use Rattle.states.specs.Switches.{swapped}
use Rattle.exchange.specs.Exchange.{loop_of, section_of, swap_with, trial, improves, improved, round_of, after_round, exchange, exchange_best}
use Rattle.searches.specs.Results.{reduction, result_by}
use Rattle.searches.specs.Rounds.{until_ended}
use Rattle.reconfiguration.specs.Solve.{best_by, best, result}
use Rattle.reconfiguration.specs.AnswersHavePlans.{solve_has_plan}
use Rattle.operations.specs.Operations.{operation_to, operations, operations_text}
use Rattle.answers.specs.Printing.{result_text, result_lines, operation_lines, plan_lines, move_lines, network_text, printed, answered_text}
use Rattle.answers.specs.PrintingLaws.{text_refused}

pub triangle_printed : printed triangle_text
    ≡ line 58 0x810140100000000000003FF00000000000004052C00000000000000201
    ++ (line 10 0x840000FFFF
    ++ (line 8 0x82000A00
    ++ (line 8 0x82000B01
    ++ line 14 0x8601000B01000A)))
unfolding printed network_text move_lines plan_lines operation_lines result_lines result_text form_text result result_by reduction best best_by exchange_best exchange until_ended last_some after_round round_of improved improves trial swap_with section_of loop_of swapped operations operation_to operations_text plan plan_text pairs pairs_from ranks closings opening exchanged open_switches ends_path loss_in drawn loss total_of term_of downstream walk_load radial_in form_in form feeder position radial bfs_path back across by_of walk walk_by turn enter_all enter reached neighbours far base_state live open_on those least first_some first_of index_of ◌or_else◌ count up_to table answer_text operation_text pair_text frame_text write_fields digits digit flat_map of_bits to_bits add sub mul div lt le neg
triangle_printed = rw triangle_read

-- "A refusal prints one line": `0G` is 1 at line 1
refusal_printed : printed (48 ∷ 71 ∷ []) ≡ line 8 0x8F010001
unfolding printed refusal_text frame_text write_fields digits digit
refusal_printed = rw table-rows.0

-- the call answers that refusal and writes nothing, whatever it is lent
refusal_answered : (out : List ℕ) → answered_text (48 ∷ 71 ∷ []) out ≡ record { answer = refused 1 1; out = out }
refusal_answered out = sym (text_refused (48 ∷ 71 ∷ []) out table-rows.0)

-- so the hypotheses of `solve_has_plan` can be met
triangle_radial : radial_in triangle (base_state triangle) ≡ true
unfolding radial_in form_in form feeder position radial walk walk_by turn enter_all enter reached neighbours far base_state live open_on index_of count up_to
triangle_radial = refl

triangle_has_plan : SwitchingPlan triangle (base_state triangle) (best triangle).state
triangle_has_plan = solve_has_plan triangle (passed triangle_text triangle triangle_read) triangle_radial
