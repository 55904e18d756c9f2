-- Examples of document 02's supply, by computation: losses, searches and refusals of the triangle with the line, from its records and from its text.
use Rattle.std.specs.Prelude.{Bool, true, false, ◌≡◌, refl, ℕ, ◌+◌}
use mathlib.Core.List.{List, [], ◌∷◌, ◌++◌, flat_map, map}
use Rattle.std.specs.Float.Ieee.{add, div, le, lt, mul, neg, of_bits, sub, to_bits}
use Rattle.numbers.specs.Choose.{◌or_else◌, among, first_of, first_some, index_of, last_some, least, those}
use Rattle.numbers.specs.Counts.{count}
use Rattle.numbers.specs.Every.{every}
use Rattle.numbers.specs.Times.{times}
use Rattle.numbers.specs.UpTo.{table, up_to}
use Rattle.network.specs.Answers.{◌and_then◌, accepted, judge, refused}
use Rattle.network.specs.Check.{check_lines, check_run, head_of}
use Rattle.network.specs.Faults.{branch_faults, bus_faults, head_faults, switch_faults}
use Rattle.network.specs.Limits.{ok_base, ok_load, ok_r, ties}
use Rattle.network.specs.Records.{Network}
use Rattle.states.specs.Live.{base_state, check_state, live, open_on}
use Rattle.states.specs.Switches.{swapped, toggled}
use Rattle.lines.specs.Frames.{frame_text}
use Rattle.lines.specs.Hex.{digit, digits, is_digit, number, read_fields, value, write_fields}
use Rattle.lines.specs.Lines.{cut, line_faults, put}
use Rattle.record_lines.specs.Kinds.{fields_of, is_frame, method_of, read_one, without}
use Rattle.frames.specs.Text.{as_option, at_most_one, follow, pure, read_end, read_as, read_lines, read_run, read_text}
use Rattle.printing.specs.Calls.{called, check_room}
use Rattle.printing.specs.Printed.{answer_text, form_text, operation_text, pair_text, refusal_text}
use Rattle.graph.specs.Radial.{radial}
use Rattle.graph.specs.declared.form.Form.{Form}
use Rattle.graph.specs.declared.form.Form.TheVariants as forms
use Rattle.graph.specs.Form.{relabel, label, closes, links, islands, form}
use Rattle.graph.specs.Sides.{away, towards}
use Rattle.graph.specs.Walk.{across, back, bfs_path, by_of, enter, enter_all, far, neighbours, reached, turn, walk, walk_by}
use Rattle.feeders.specs.Feeder.{ends_path, feeder, form_in, position, radial_in}
use Rattle.feeders.specs.StateCalls.{check_radial}
use Rattle.feeders.specs.Supply.{check_network, check_supply_line, check_as, supply_faults}
use Rattle.losses.specs.Loss.{downstream, drawn, loss, loss_in, term_of, total_of, walk_load}
use Rattle.losses.specs.LossCall.{loss_call}
use Rattle.plan.specs.Plan.{closings, exchanged, open_switches, opening, pairs, pairs_from, plan, plan_text, ranks}
use Rattle.searches.specs.Results.{reduction, result_by, solved_by}
use Rattle.searches.specs.Rounds.{lesser_by, until_ended}
use Rattle.exchange.specs.Exchange.{after_round, exchange, exchange_best, improved, improves, loop_of, round_of, section_of, swap_with, trial}
use Rattle.tabu.specs.Tabu.{after_move, allowed, best_move, last_seven, tabu, tabu_best}
use Rattle.exhaustive.specs.Exhaustive.{exhaustive, exhaustive_best, least_or_base, masked, try_mask}
use Rattle.reconfiguration.specs.Solve.{best, best_by, result, solved}
use Rattle.operations.specs.Operations.{operation_to, operations, operations_text}
use Rattle.answers.specs.Printing.{move_lines, network_text, operation_lines, plan_lines, printed, result_lines, result_text}
use Rattle.examples.specs.Feeders.{branches, buses, fed_from, float, records, section, triangle}
use Rattle.examples.specs.Searches.{Row, Value, ◌gives◌, finds, in_state, of_state, plain, reckoned, refuses, said, searched, stands, turned}
use Rattle.examples.specs.Texts.{bus_lines, head_line, line, refused_as, switch_lines, triangle_text}

-- the triangle with its tie normally closed: its base is not radial
abbrev looped : Network
looped = records buses branches (section 10 1 ∷ section 11 2 ∷ [])

-- no loss beside this refusal
abbrev without_loss : Bool → Form → ℕ → ℕ → Value
without_loss isRadial is number place = of_state (accepted isRadial) (accepted is) (refused number place)

abbrev cases : List Row
cases =
    -- branch 0 turned loses 1.75; with the supply at bus 1 as much as it would in the drawing away from there, 4
    in_state turned (base_state turned) gives stands true forms.Tree (float 0x3FFC000000000000)
    ∷ in_state (fed_from 1 turned) (base_state turned) gives stands true forms.Tree (float 0x4010000000000000)
    ∷ in_state (fed_from 1 triangle) (base_state triangle) gives stands true forms.Tree (float 0x4010000000000000)
    -- from bus 3 the other way round: branch 0 has bus 1 behind it, branch 1 buses 2 and 1
    ∷ in_state (fed_from 3 triangle) (base_state triangle) gives stands true forms.Tree (float 0x3FDC000000000000)
    -- "A loss call on a state that isn't radial then gets refusal 11"; without the line it is a loss
    ∷ in_state (fed_from 1 triangle) (0 ∷ 0 ∷ []) gives without_loss false (forms.Loop 2 0) 11 0
    ∷ in_state triangle (0 ∷ 0 ∷ []) gives stands false (forms.Loop 2 0) (float 0x4016C00000000000)
    -- "14, bus not listed; 15, base not radial; both at the 05 line .. lower number first"
    ∷ in_state (fed_from 9 triangle) (base_state triangle) gives refuses 14 10
    ∷ in_state (fed_from 1 looped) (base_state looped) gives refuses 15 10
    ∷ in_state (fed_from 9 looped) (base_state looped) gives refuses 14 10
    ∷ in_state (fed_from 1 (plain [] [])) [] gives refuses 14 2
    -- "All searches use that loss": the turned triangle is exchanged as document 01's is, and from bus 3 the base stays
    ∷ searched (fed_from 1 turned) gives finds (1 ∷ 0 ∷ []) (float 0x4010000000000000) (float 0x3FF0000000000000) (float 0x4052C00000000000) 2 true
    ∷ searched (fed_from 3 triangle) gives finds (0 ∷ 1 ∷ []) (float 0x3FDC000000000000) (float 0x3FDC000000000000) (float 0) 1 true
    ∷ []

pub supply_cases : map reckoned cases ≡ map said cases
unfolding check_radial supply_faults away towards solved solved_by result_by reduction called check_room check_state every loss_call check_network check_as check_lines check_supply_line head_of check_run head_faults bus_faults branch_faults switch_faults times ok_base ok_load ok_r ties judge ◌and_then◌ neg best best_by exchange_best tabu_best exhaustive_best exchange until_ended last_some after_round round_of improved improves trial swap_with section_of loop_of swapped tabu best_move after_move last_seven lesser_by allowed among toggled exhaustive try_mask least_or_base masked loss_in drawn loss total_of term_of downstream walk_load radial_in form_in form islands closes links label relabel ends_path feeder position radial bfs_path back across by_of walk walk_by turn enter_all enter reached neighbours far base_state live open_on those least first_some first_of index_of ◌or_else◌ count up_to table of_bits add sub mul div lt le
supply_cases = refl

-- ---- the line
abbrev turned_text : List ℕ
turned_text =
    head_line ++ (bus_lines ++ ((line 28 0x03000200013FD000000000000001 ++ (line 28 0x03000200033FDC00000000000001 ++ line 28 0x03000100033FC800000000000001)) ++ switch_lines))

abbrev no_buses : List ℕ
no_buses = line 36 0x010000000000003FF0000000000000000064

abbrev pub supply_line : ℕ → List ℕ
supply_line id = line 6 (0x050000 + id)

pub supplies-read :
    (read_text (turned_text ++ supply_line 1) ≡ accepted (fed_from 1 turned))
    × (read_text (triangle_text ++ supply_line 3) ≡ accepted (fed_from 3 triangle))
    × refused_as 14 10 (triangle_text ++ supply_line 9)
    × refused_as 2 11 (triangle_text ++ (supply_line 1 ++ supply_line 1))  -- a second line
    × refused_as 14 2 (no_buses ++ supply_line 1)
unfolding read_text read_as read_lines read_one read_run at_most_one as_option read_end without judge ◌and_then◌ follow pure cut put every line_faults is_frame fields_of method_of number value digit digits is_digit read_fields head_faults bus_faults branch_faults switch_faults times ok_base ok_load ok_r among ties of_bits le neg supply_faults radial_in form_in form islands closes links label relabel feeder position radial walk walk_by turn enter_all enter reached neighbours far base_state live open_on index_of count up_to
supplies-read = (refl, refl, refl, refl, refl)

-- the program's lines: those of document 01's triangle, however branch 0 is drawn; and no 82 line from bus 3
pub supplies-printed :
    (printed (turned_text ++ supply_line 1) ≡ line 58 0x810140100000000000003FF00000000000004052C00000000000000201 ++ (line 10 0x840000FFFF ++ (line 8 0x82000A00 ++ (line 8 0x82000B01 ++ line 14 0x8601000B01000A))))
    × (printed (triangle_text ++ supply_line 3) ≡ line 58 0x81013FDC0000000000003FDC0000000000000000000000000000000101 ++ line 10 0x840000FFFF)
    × (printed (triangle_text ++ supply_line 9) ≡ line 8 0x8F0E000A)
    × (printed (triangle_text ++ (supply_line 1 ++ supply_line 1)) ≡ line 8 0x8F02000B)
    × (printed (no_buses ++ supply_line 1) ≡ line 8 0x8F0E0002)
unfolding away towards refusal_text printed network_text move_lines plan_lines operation_lines result_lines result_text form_text result result_by reduction best best_by exchange_best exchange until_ended last_some after_round round_of improved improves trial swap_with section_of loop_of swapped operations operation_to operations_text plan plan_text pairs pairs_from ranks closings opening exchanged open_switches ends_path loss_in drawn loss total_of term_of downstream walk_load radial_in form_in form islands closes links label relabel feeder position radial bfs_path back across by_of walk walk_by turn enter_all enter reached neighbours far base_state live open_on those least first_some first_of index_of ◌or_else◌ count up_to table answer_text operation_text pair_text frame_text write_fields digits digit flat_map of_bits to_bits add sub mul div lt le neg
supplies-printed = (rw supplies-read.0, rw supplies-read.1, rw supplies-read.2, rw supplies-read.3, rw supplies-read.4)
