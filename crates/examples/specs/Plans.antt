-- Worked examples of the planner: document 01's triangle, and a feeder on which another order of the closings, or the path
-- walked from its other end, would give another plan.
use Rattle.std.specs.Prelude.{◌≡◌, refl, false, ℕ, replicate}
use mathlib.Core.List.{List, [], ◌∷◌, flat_map}
use Rattle.std.specs.Float.Ieee.{of_bits, le, neg}
use Rattle.numbers.specs.UpTo.{up_to}
use Rattle.numbers.specs.Counts.{count}
use Rattle.numbers.specs.Choose.{those, least, first_of, index_of, ◌or_else◌, among}
use Rattle.numbers.specs.Every.{every}
use Rattle.numbers.specs.Times.{times}
use Rattle.network.specs.declared.branch.Branch.{Branch}
use Rattle.network.specs.declared.switch.Switch.{Switch}
use Rattle.network.specs.Records.{Network}
use Rattle.network.specs.Answers.{accepted, refused, ◌and_then◌, judge}
use Rattle.network.specs.Limits.{ok_base, ok_load, ok_r, ties}
use Rattle.network.specs.Faults.{head_faults, bus_faults, branch_faults, switch_faults}
use Rattle.network.specs.Check.{head_of, check_run, check_lines}
use Rattle.states.specs.Live.{live, open_on, check_state, base_state}
use Rattle.states.specs.Switches.{State, byte}
use Rattle.lines.specs.Hex.{digit, digits, write_fields}
use Rattle.lines.specs.Frames.{frame_text}
use Rattle.printing.specs.Printed.{pair_text}
use Rattle.printing.specs.Calls.{check_room, called}
use Rattle.graph.specs.Walk.{far, neighbours, reached, enter, enter_all, turn, walk_by, walk, by_of, across, bfs_path}
use Rattle.graph.specs.Walk as Walk
use Rattle.graph.specs.Radial.{radial}
use Rattle.graph.specs.Form.{relabel, label, closes, form}
use Rattle.feeders.specs.Feeder.{position, feeder, ends_path, form_in, radial_in}
use Rattle.feeders.specs.StateCalls.{check_radial}
use Rattle.feeders.specs.Supply.{check_supply_line, check_as, check_network}
use Rattle.changes.specs.Change.{differing, locked_difference, locked_differences, check_locked, check_plan}
use Rattle.plan.specs.Plan.{ranks, closings, opening, exchanged, pairs_from, pairs, open_switches, plan, plan_text, planned}
use Rattle.plan.specs.Proof.{demand3}
use Rattle.plan.specs.Claim.{set_all, after_closing, carried_out, Step, forward, back, found, taken, run, after, SwitchingPlan}
use Rattle.examples.specs.Feeders.{bus, branch, section, tie, records, buses, branches, triangle}

abbrev out_of_service : Branch → Branch
out_of_service b = record { from_bus = b.from_bus; to_bus = b.to_bus; r = b.r; status = false }

abbrev pub locked : Switch → Switch
locked s = record { id = s.id; branch_idx = s.branch_idx; normally_open = s.normally_open; can_operate = false }

-- the base, and the state in which the two switches have changed places
abbrev pub present : State
present = 0 ∷ 1 ∷ []

abbrev pub wanted : State
wanted = 1 ∷ 0 ∷ []

-- Four buses in a row by branches 0, 1 and 2; branch 3 from the first to the third, branch 4 from the first to the last, and branch 5, out of service.
-- The switch of branch 4 is listed before that of branch 3; the switch of branch 5 is locked
abbrev four_buses : Network
four_buses =
    records
    (bus 1 0 ∷ bus 2 0 ∷ bus 3 0 ∷ bus 4 0 ∷ [])
    (branch 1 2 0 ∷ branch 2 3 0 ∷ branch 3 4 0 ∷ branch 1 3 0 ∷ branch 1 4 0 ∷ out_of_service (branch 2 4 0) ∷ [])
    (tie 20 4 ∷ tie 21 3 ∷ section 22 2 ∷ section 23 1 ∷ locked (tie 24 5) ∷ [])

-- all five switches differ
abbrev four_present : State
four_present = 1 ∷ 1 ∷ 0 ∷ 0 ∷ 1 ∷ []

abbrev four_wanted : State
four_wanted = 0 ∷ 0 ∷ 1 ∷ 1 ∷ 0 ∷ []

-- The triangle's pair is the line 8601000B01000A. In the feeder of four buses, branch 4 comes first by switch order, and on the path 0, 1, 2 between its ends branch 1 is the first
-- that is not wanted; then branch 3, on the path 4, 2. By branch order the pairs would be 21 with 23 and 20 with 22; along the path from the to bus, 20 with 22 and 21 with 23.
-- Switch 24 is left as found, and that it is locked is no refusal
pub computed : (base_state triangle ≡ present)
    × (check_plan triangle present wanted ≡ accepted tt)
    × (plan triangle present wanted ≡ record { closes = 11 ∷ []; opens = 10 ∷ [] } ∷ [])
    × (check_plan four_buses four_present four_wanted ≡ accepted tt)
    × (plan four_buses four_present four_wanted ≡ record { closes = 20 ∷ []; opens = 23 ∷ [] } ∷ record { closes = 21 ∷ []; opens = 22 ∷ [] } ∷ [])
    × (ends_path triangle (live triangle present) 2 ≡ 0 ∷ 1 ∷ [])
    × (ends_path four_buses (live four_buses four_present) 4 ≡ 0 ∷ 1 ∷ 2 ∷ [])
unfolding le of_bits neg up_to those first_of index_of count ◌and_then◌ judge ok_base ok_load ok_r among ties head_faults bus_faults branch_faults switch_faults times head_of check_run check_network check_as check_lines check_supply_line live open_on every check_state base_state far neighbours reached enter enter_all turn walk_by walk by_of across Walk.back bfs_path radial position feeder radial_in form_in form ends_path ranks closings opening exchanged pairs_from pairs open_switches plan check_radial differing locked_difference locked_differences check_locked check_plan
computed = (refl, refl, refl, refl, refl, refl, refl)

-- forward, forward (all done: none found), back, back (none done: none found), forward
triangle_steps : after triangle present wanted (forward ∷ forward ∷ back ∷ back ∷ forward ∷ []) ≡ record { state = wanted; done = 1 }
unfolding index_of after run taken found carried_out after_closing set_all
triangle_steps = rw computed.2

-- so the hypothesis of demand 3 can be met
triangle_holds : SwitchingPlan triangle present wanted
triangle_holds = demand3 triangle present wanted computed.1

-- switch 24 stands as the present state has it after every list of steps, and not as the wanted one has it
four_as_found : (xs : List Step) → byte (after four_buses four_present four_wanted xs).state 4 ≡ 1
four_as_found xs = (demand3 four_buses four_present four_wanted computed.3).as_found xs 4 refl

-- ---- the call
abbrev sevens : List ℕ
sevens = replicate 14 7

-- the triangle with switch 10 locked
abbrev locked_triangle : Network
locked_triangle = records buses branches (locked (section 10 1) ∷ tie 11 2 ∷ [])

-- document 01's examples of rows 10 to 13, with the last one's slice for the planner: state 02; the triangle, all closed; switch 10 locked; 14 bytes for a line of 15. Nothing is
-- written. A plan with room is in `Answers.triangle_printed`
refusals :
    (planned triangle (0 ∷ 2 ∷ []) wanted sevens ≡ record { answer = refused 10 0; out = sevens })
    × (planned triangle (0 ∷ 0 ∷ []) wanted sevens ≡ record { answer = refused 11 0; out = sevens })
    × (planned locked_triangle present wanted sevens ≡ record { answer = refused 12 10; out = sevens })
    × (planned triangle present wanted sevens ≡ record { answer = refused 13 0; out = sevens })
unfolding le of_bits neg up_to those first_of index_of count ◌and_then◌ judge ok_base ok_load ok_r among ties head_faults bus_faults branch_faults switch_faults times head_of check_run check_network check_as check_lines check_supply_line live open_on every check_state base_state far neighbours reached enter enter_all turn walk_by walk by_of across Walk.back bfs_path radial position feeder radial_in form_in form least ◌or_else◌ closes label relabel ends_path ranks closings opening exchanged pairs_from pairs open_switches plan check_radial differing locked_difference locked_differences check_locked check_plan flat_map pair_text frame_text write_fields digits digit plan_text check_room called planned
refusals = (refl, refl, refl, refl)
