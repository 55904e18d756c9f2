-- Document 02, point 6, "A switch at each end", worked: the triangle with two switches on branch 1 and two on branch 2. All holds by computation but what the claims
-- of demand 3 and of point 4 say of it.
use Rattle.std.specs.Prelude.{true, false, ◌≡◌, refl, ℕ, replicate}
use mathlib.Core.List.{List, [], ◌∷◌, ◌++◌, map, flat_map}
use Rattle.std.specs.Float.Ieee.{of_bits, add, sub, mul, div, lt, le, neg}
use Rattle.numbers.specs.UpTo.{up_to, table}
use Rattle.numbers.specs.Counts.{count}
use Rattle.numbers.specs.Choose.{those, least, first_of, index_of, ◌or_else◌, among, first_some, last_some}
use Rattle.numbers.specs.Every.{every}
use Rattle.numbers.specs.Times.{times}
use Rattle.network.specs.Records.{Network}
use Rattle.network.specs.Answers.{accepted, refused, ◌and_then◌, judge}
use Rattle.network.specs.Limits.{ok_base, ok_load, ok_r, ties}
use Rattle.network.specs.Faults.{head_faults, bus_faults, branch_faults, switch_faults}
use Rattle.network.specs.Check.{head_of, check_run, check_lines}
use Rattle.network.specs.declared.switch.ReconfigAlgorithm.{ReconfigAlgorithm}
use Rattle.network.specs.declared.switch.ReconfigAlgorithm.TheVariants.{BranchExchange, TabuSearch, Exhaustive}
use Rattle.states.specs.Live.{live, open_on, check_state, base_state}
use Rattle.states.specs.Switches.{State, swapped, toggled}
use Rattle.lines.specs.Hex.{digit, digits, write_fields, is_digit, value, number, read_fields}
use Rattle.lines.specs.Frames.{frame_text}
use Rattle.lines.specs.Lines.{put, cut, line_faults}
use Rattle.record_lines.specs.Kinds.{is_frame, fields_of, method_of, read_one, without}
use Rattle.frames.specs.Text.{follow, pure, read_run, read_end, at_most_one, as_option, read_lines, read_as, read_text}
use Rattle.printing.specs.Printed.{pair_text, operation_text}
use Rattle.printing.specs.Calls.{check_room, called, TwoSlices, called_in_two}
use Rattle.graph.specs.Walk.{far, neighbours, reached, enter, enter_all, turn, walk_by, walk, by_of, across, bfs_path, back}
use Rattle.graph.specs.Radial.{radial}
use Rattle.graph.specs.declared.form.Form.TheVariants as forms
use Rattle.graph.specs.Form.{relabel, label, closes, form, links, islands}
use Rattle.feeders.specs.Feeder.{position, feeder, ends_path, form_in, radial_in}
use Rattle.feeders.specs.StateCalls.{check_radial}
use Rattle.feeders.specs.Supply.{check_supply_line, check_as, check_network}
use Rattle.losses.specs.Loss.{walk_load, downstream, term_of, total_of, loss, drawn, loss_in}
use Rattle.losses.specs.LossCall.{loss_call}
use Rattle.searches.specs.Results.{reduction, result_by, solved_by}
use Rattle.searches.specs.Rounds.{until_ended, lesser_by}
use Rattle.exchange.specs.Exchange.{loop_of, section_of, swap_with, trial, improves, improved, round_of, after_round, exchange, exchange_best}
use Rattle.tabu.specs.Tabu.{allowed, best_move, last_seven, after_move, tabu, tabu_best}
use Rattle.exhaustive.specs.Exhaustive.{masked, try_mask, exhaustive, least_or_base, exhaustive_best}
use Rattle.reconfiguration.specs.Solve.{best_by, best, solved}
use Rattle.changes.specs.Change.{differing, locked_difference, locked_differences, check_locked, check_plan}
use Rattle.operations.specs.Operations.{operations_text}
use Rattle.plan.specs.Plan.{ranks, closings, opening, exchanged, pairs_from, pairs, open_switches, plan, plan_text}
use Rattle.plan.specs.Claim.{OnLoop, SwitchingPlan}
use Rattle.plan.specs.Proof.{demand3}
use Rattle.resumption.specs.SingleMoves.{closing_moves, opening_moves, single_moves, moved, moved_all, going_back}
use Rattle.resumption.specs.Resume.{check_resume, resumed}
use Rattle.resumption.specs.Claim.{state_at, Between}
use Rattle.resumption.specs.Proof.{point4}
use Rattle.examples.specs.Feeders.{section, tie, buses, branches, float, network}
use Rattle.examples.specs.Texts.{line, bus_lines, branch_lines, refused_as}
use Rattle.examples.specs.Plans.{locked}
use Rattle.examples.specs.Searches.{Row, Value, in_state, searched, ◌gives◌, stands, finds, reckoned, said}

-- 12 and 11 at the ends of branch 2, both ties; 10 and the locked 13 at those of branch 1; in list order
abbrev both_ends : ReconfigAlgorithm → Network
both_ends algorithm = network algorithm 100 buses branches (tie 12 2 ∷ section 10 1 ∷ tie 11 2 ∷ locked (section 13 1) ∷ [])

abbrev ends : Network
ends = both_ends BranchExchange

-- ---- the text
-- with this head, and this behind the four switches
abbrev text : ℕ → List ℕ → List ℕ
text head more =
    line 36 head
    ++ (bus_lines
    ++ (branch_lines
    ++ (line 12 0x04000C000203
    ++ (line 12 0x04000A000102
    ++ (line 12 0x04000B000203
    ++ (line 12 0x04000D000100
    ++ more))))))

pub both-ends-read :
    (read_text (text 0x010003000300043FF0000000000000000064 []) ≡ accepted (both_ends BranchExchange))
    × (read_text (text 0x010003000300043FF0000000000000010064 []) ≡ accepted (both_ends TabuSearch))
    × (read_text (text 0x010003000300043FF0000000000000020064 []) ≡ accepted (both_ends Exhaustive))
    -- "Refusal 8 now means a third": a fifth switch, 14, on branch 2
    × refused_as 8 12 (text 0x010003000300053FF0000000000000000064 (line 12 0x04000E000202))
unfolding read_text read_as read_lines read_one read_run at_most_one as_option read_end without judge ◌and_then◌ follow pure cut put every line_faults is_frame fields_of method_of number value digit digits is_digit read_fields head_faults bus_faults branch_faults switch_faults times ok_base ok_load ok_r among ties of_bits le neg
both-ends-read = (refl, refl, refl, refl)

-- ---- the plan
-- the base, in which both ends of branch 2 are open
abbrev present : State
present = 1 ∷ 0 ∷ 1 ∷ 0 ∷ []

-- branch 1 is opened by 10 alone
abbrev wanted : State
wanted = 0 ∷ 1 ∷ 0 ∷ 0 ∷ []

-- "A plan pair closes all open switches of one branch and opens those of the other that the wanted state opens; refusal 12 looks at every switch it would move": here 13 stays,
-- and a state that wants it open as well is refused
pub both-ends-planned :
    (base_state ends ≡ present)
    × (check_plan ends present wanted ≡ accepted tt)
    × (plan ends present wanted ≡ record { closes = 12 ∷ 11 ∷ []; opens = 10 ∷ [] } ∷ [])
    × (check_plan ends present (0 ∷ 1 ∷ 0 ∷ 1 ∷ []) ≡ refused 12 13)
    -- the path that joins the ends of branch 2 before it is closed
    × (ends_path ends (live ends present) 2 ≡ 0 ∷ 1 ∷ [])
unfolding le of_bits neg up_to those first_of index_of count ◌and_then◌ judge ok_base ok_load ok_r among ties head_faults bus_faults branch_faults switch_faults times head_of check_run check_network check_as check_lines check_supply_line live open_on every check_state base_state far neighbours reached enter enter_all turn walk_by walk by_of across back bfs_path radial position feeder radial_in form_in form ends_path ranks closings opening exchanged pairs_from pairs open_switches plan check_radial differing locked_difference locked_differences check_locked check_plan
both-ends-planned = (refl, refl, refl, refl, refl)

-- "Frame 86 .. : a count byte, the closed ids, a count byte, the opened ids, each id u16, in list order"
both_ends_line : plan_text (plan ends present wanted) ≡ line 18 0x8602000C000B01000A
unfolding plan_text pair_text flat_map digits digit
both_ends_line = rw both-ends-planned.2

-- so the hypothesis of demand 3 can be met
both_ends_holds : SwitchingPlan ends present wanted
both_ends_holds = demand3 ends present wanted both-ends-planned.1

-- ---- its single moves
-- room for three lines
abbrev sevens : ℕ → List ℕ
sevens n = replicate n 7

abbrev after : ℕ → TwoSlices ℕ
after count = resumed ends present wanted count (sevens 27) (sevens 27)

-- "Point 4 counts each switch move": what remains, and what goes back
both-ends-resumed :
    (after 0 ≡ record { answer = accepted 3; first = line 8 0x82000C01 ++ (line 8 0x82000B01 ++ line 8 0x82000A00); second = sevens 27 })
    × (after 1 ≡ record { answer = accepted 2; first = line 8 0x82000B01 ++ (line 8 0x82000A00 ++ sevens 9); second = line 8 0x82000C00 ++ sevens 18 })
    × (after 2 ≡ record { answer = accepted 1; first = line 8 0x82000A00 ++ sevens 18; second = line 8 0x82000B00 ++ (line 8 0x82000C00 ++ sevens 9) })
    × (after 3 ≡ record { answer = accepted 0; first = sevens 27; second = line 8 0x82000A01 ++ (line 8 0x82000B00 ++ line 8 0x82000C00) })
    × (after 4 ≡ record { answer = refused 16 0; first = sevens 27; second = sevens 27 })
unfolding resumed check_resume called_in_two check_room ◌and_then◌ judge single_moves closing_moves opening_moves going_back flat_map operations_text operation_text frame_text write_fields digits digit
both-ends-resumed = (
  rw (both-ends-planned.1, both-ends-planned.2),
  rw (both-ends-planned.1, both-ends-planned.2),
  rw (both-ends-planned.1, both-ends-planned.2),
  rw (both-ends-planned.1, both-ends-planned.2),
  rw (both-ends-planned.1, both-ends-planned.2),
)

-- the states at these counts: with one move done branch 2 is as dead as before
both-ends-states :
    (state_at ends present wanted 1 ≡ 0 ∷ 0 ∷ 1 ∷ 0 ∷ [])
    × (state_at ends present wanted 2 ≡ 0 ∷ 0 ∷ 0 ∷ 0 ∷ [])
    × (state_at ends present wanted 3 ≡ wanted)
unfolding single_moves closing_moves opening_moves flat_map moved_all moved index_of
both-ends-states = (rw both-ends-planned.2, rw both-ends-planned.2, rw both-ends-planned.2)

-- "Point 4's one loop from the pair's last closing to its first opening": branch 2 with the path 0, 1 between its ends, on which branch 1 lies
both_ends_between : Between (plan ends present wanted) 2
unfolding single_moves closing_moves flat_map
both_ends_between = record { before = 0; pair = record { closes = 12 ∷ 11 ∷ []; opens = 10 ∷ [] }; next = rw both-ends-planned.2 refl; count = refl }

both_ends_loop : OnLoop ends present (state_at ends present wanted 2) 2 1
unfolding both_ends_between index_of single_moves flat_map moved_all
both_ends_loop = (point4 ends present wanted both-ends-planned.1).between 2 both_ends_between

-- ---- the calls on these states, and the searches
-- the base, of loss 4: one tie closed leaves branch 2 dead, so that no exchange is radial
abbrev keeps_base : ℕ → Value
keeps_base iterations = finds present (float 0x4010000000000000) (float 0x4010000000000000) (float 0) iterations true

abbrev cases : List Row
cases =
    -- "a tree at every other count": at 1 and at 3; at 2 all three branches are live, and branch 2 closes the loop
    in_state ends (0 ∷ 0 ∷ 1 ∷ 0 ∷ []) gives stands true forms.Tree (float 0x4010000000000000)
    ∷ in_state ends (0 ∷ 0 ∷ 0 ∷ 0 ∷ []) gives stands false (forms.Loop 2 0) (float 0x4016C00000000000)
    ∷ in_state ends wanted gives stands true forms.Tree (float 0x3FF0000000000000)
    ∷ searched (both_ends BranchExchange) gives keeps_base 1
    ∷ searched (both_ends TabuSearch) gives keeps_base 100
    -- both open, 12 open, 11 open: three radial states of four
    ∷ searched (both_ends Exhaustive) gives keeps_base 3
    ∷ []

pub both_ends_cases : map reckoned cases ≡ map said cases
unfolding solved solved_by result_by reduction called check_room check_state every loss_call check_network check_as check_lines check_supply_line head_of check_run head_faults bus_faults branch_faults switch_faults times ok_base ok_load ok_r ties judge ◌and_then◌ neg best best_by exchange_best tabu_best exhaustive_best exchange until_ended last_some after_round round_of improved improves trial swap_with section_of loop_of swapped tabu best_move after_move last_seven lesser_by allowed among toggled exhaustive try_mask least_or_base masked loss_in drawn loss total_of term_of downstream walk_load radial_in form_in form islands closes links label relabel ends_path feeder position radial bfs_path back across by_of walk walk_by turn enter_all enter reached neighbours far base_state live open_on those least first_some first_of index_of ◌or_else◌ count up_to table of_bits add sub mul div lt le
both_ends_cases = refl
