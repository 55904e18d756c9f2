-- Worked examples of a plan that was cut off: document 01's triangle at every number of moves that its plan has, one more, and the claim applied to it.
use Rattle.std.specs.Prelude.{◌≡◌, refl, ℕ, replicate}
use mathlib.Core.List.{List, [], ◌∷◌, ◌++◌, flat_map}
use Rattle.numbers.specs.Choose.{index_of}
use Rattle.network.specs.Answers.{accepted, refused, ◌and_then◌, judge}
use Rattle.lines.specs.Hex.{digit, digits, write_fields}
use Rattle.lines.specs.Frames.{frame_text}
use Rattle.printing.specs.Printed.{operation_text}
use Rattle.printing.specs.Calls.{TwoSlices, check_room, called_in_two}
use Rattle.operations.specs.Operations.{operations_text}
use Rattle.plan.specs.Plan.{plan}
use Rattle.plan.specs.Claim.{OnLoop}
use Rattle.resumption.specs.SingleMoves.{closing_moves, opening_moves, single_moves, moved, moved_all, going_back}
use Rattle.resumption.specs.Resume.{check_resume, resumed}
use Rattle.resumption.specs.Claim.{state_at, Between, Resumable}
use Rattle.resumption.specs.Proof.{point4}
use Rattle.examples.specs.Feeders.{triangle}
use Rattle.examples.specs.Texts.{line}
use Rattle.examples.specs.Plans.{present, wanted, computed}

-- room for two lines and two bytes more: 7 in the one slice, 8 in the other
abbrev sevens : ℕ → List ℕ
sevens n = replicate n 7

abbrev eights : ℕ → List ℕ
eights n = replicate n 8

abbrev after : ℕ → TwoSlices ℕ
after count = resumed triangle present wanted count (sevens 20) (eights 20)

-- 82000B01 closes switch 11, 82000A00 opens switch 10; going back, 82000A01 closes 10 and 82000B00 opens 11. A third move is not in the plan
triangle-resumed :
    (after 0 ≡ record { answer = accepted 2; first = line 8 0x82000B01 ++ (line 8 0x82000A00 ++ sevens 2); second = eights 20 })
    × (after 1 ≡ record { answer = accepted 1; first = line 8 0x82000A00 ++ sevens 11; second = line 8 0x82000B00 ++ eights 11 })
    × (after 2 ≡ record { answer = accepted 0; first = sevens 20; second = line 8 0x82000A01 ++ (line 8 0x82000B00 ++ eights 2) })
    × (after 3 ≡ record { answer = refused 16 0; first = sevens 20; second = eights 20 })
unfolding resumed check_resume called_in_two check_room ◌and_then◌ judge single_moves closing_moves opening_moves going_back flat_map operations_text operation_text frame_text write_fields digits digit
triangle-resumed = (rw (computed.1, computed.2), rw (computed.1, computed.2), rw (computed.1, computed.2), rw (computed.1, computed.2))

-- one slice is a byte too short: 13, and neither is written; 16 comes before it
short-slices :
    (resumed triangle present wanted 1 (sevens 20) (eights 8) ≡ record { answer = refused 13 0; first = sevens 20; second = eights 8 })
    × (resumed triangle present wanted 1 (sevens 8) (eights 20) ≡ record { answer = refused 13 0; first = sevens 8; second = eights 20 })
    × (resumed triangle present wanted 3 [] [] ≡ record { answer = refused 16 0; first = []; second = [] })
unfolding resumed check_resume called_in_two check_room ◌and_then◌ judge single_moves closing_moves opening_moves going_back flat_map operations_text operation_text frame_text write_fields digits digit
short-slices = (rw (computed.1, computed.2), rw (computed.1, computed.2), rw (computed.1, computed.2))

-- with one move done both switches are closed
triangle_states : (state_at triangle present wanted 0 ≡ present) × (state_at triangle present wanted 1 ≡ 0 ∷ 0 ∷ []) × (state_at triangle present wanted 2 ≡ wanted)
unfolding single_moves closing_moves opening_moves flat_map moved_all moved index_of
triangle_states = (refl, rw computed.2, rw computed.2)

-- so the hypothesis of Point 4 can be met
triangle_resumable : Resumable triangle present wanted
triangle_resumable = point4 triangle present wanted computed.1

-- one move ends between the closing and the opening of the only pair, and there the claim speaks of its loop
triangle_between : Between (plan triangle present wanted) 1
unfolding single_moves closing_moves flat_map
triangle_between = record { before = 0; pair = record { closes = 11 ∷ []; opens = 10 ∷ [] }; next = rw computed.2 refl; count = refl }

triangle_loop : OnLoop triangle present (state_at triangle present wanted 1) 2 1
unfolding triangle_between index_of single_moves flat_map moved_all
triangle_loop = triangle_resumable.between 1 triangle_between
