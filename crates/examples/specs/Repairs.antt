-- Document 02, Point 7's examples, by computation: the triangle with a branch from bus 2 to itself and a switch on it, and one bus with such a branch. Their records and texts, and what
-- the repair makes of them.
use mathlib.Core.List.{List, [], ◌∷◌, ◌++◌, flat_map}
use Rattle.std.specs.Prelude.{◌≡◌, refl, ℕ}
use Rattle.std.specs.Float.Ieee.{of_bits, to_bits, le, neg}
use Rattle.numbers.specs.Choose.{◌or_else◌, among, index_of, least}
use Rattle.numbers.specs.Counts.{count}
use Rattle.numbers.specs.Every.{every}
use Rattle.numbers.specs.Keep.{keep}
use Rattle.numbers.specs.Times.{times}
use Rattle.numbers.specs.UpTo.{up_to}
use Rattle.network.specs.declared.switch.Switch.{Switch}
use Rattle.network.specs.Records.{Network}
use Rattle.network.specs.Answers.{accepted, refused, ◌and_then◌, judge}
use Rattle.network.specs.Limits.{ok_base, ok_load, ok_r, ties}
use Rattle.network.specs.Faults.{head_faults, bus_faults, branch_faults, switch_faults}
use Rattle.network.specs.Check.{head_of, check_run, check_lines}
use Rattle.own_loops.specs.OwnLoops.{without_own, branch_reason, switch_reason, dropped_from, dropped_lines}
use Rattle.states.specs.Live.{live, open_on, base_state}
use Rattle.graph.specs.Walk.{far, neighbours, reached, enter, enter_all, turn, walk_by, walk}
use Rattle.graph.specs.Radial.{radial}
use Rattle.graph.specs.Form.{relabel, label, closes, form}
use Rattle.feeders.specs.Feeder.{feeder, position, form_in, radial_in}
use Rattle.feeders.specs.Supply.{supply_faults, check_supply_line, check_as, check_network, check_stored}
use Rattle.lines.specs.Frames.{frame_text}
use Rattle.lines.specs.Hex.{is_digit, value, digit, number, digits, read_fields, write_fields}
use Rattle.lines.specs.Lines.{put, cut, line_faults}
use Rattle.record_lines.specs.Kinds.{is_frame, fields_of, method_of, read_one, without}
use Rattle.frames.specs.Text.{follow, pure, read_run, read_end, at_most_one, as_option, read_lines, read_as, read_text, read_stored}
use Rattle.frames.specs.Acceptable.{text_of}
use Rattle.printing.specs.Printed.{dropped_text, refusal_text}
use Rattle.repairs.specs.Repairs.{repaired, printed_repair}
use Rattle.answers.specs.Printing.{printed}
use Rattle.examples.specs.Feeders.{bus, branch, section, tie, records, buses, triangle, fed_from}
use Rattle.examples.specs.Searches.{plain}
use Rattle.examples.specs.Texts.{line, bus_lines, triangle_text, refused_as}
use Rattle.examples.specs.Supplies.{supply_line}

-- ---- the records
-- the own loop is branch 1, between the triangle's; switch 12 on it stands between 10 and the last switch
abbrev ending : Switch → Network
ending last =
    records
    buses
    (branch 1 2 0x3FD0000000000000 ∷ branch 2 2 0x3FD0000000000000 ∷ branch 2 3 0x3FDC000000000000 ∷ branch 1 3 0x3FC8000000000000 ∷ [])
    (section 10 2 ∷ section 12 1 ∷ last ∷ [])

abbrev stored : Network
stored = ending (tie 11 3)

-- with switch 11 normally closed the base has a loop without the own loop too
abbrev looped : Network
looped = ending (section 11 3)

abbrev own_bus : Network
own_bus = plain (bus 1 0 ∷ []) (branch 1 1 0 ∷ [])

pub records-repaired :
    (check_network stored ≡ refused 17 6)
    × (check_stored stored ≡ accepted tt)
    × (without_own stored ≡ triangle)
    × (dropped_lines stored ≡ record { line = 6; reason = branch_reason } ∷ record { line = 10; reason = switch_reason } ∷ [])
    -- "judges 15 after the dropping, its place the old line"
    × (check_stored (fed_from 1 stored) ≡ accepted tt)
    × (check_stored (fed_from 1 looped) ≡ refused 15 12)
    × (check_network (fed_from 1 looped) ≡ refused 17 6)
    × (without_own own_bus ≡ plain (bus 1 0 ∷ []) [])
    × (dropped_lines own_bus ≡ record { line = 3; reason = branch_reason } ∷ [])
unfolding check_network check_stored check_as check_lines check_supply_line supply_faults head_of check_run head_faults bus_faults branch_faults switch_faults times ok_base ok_load ok_r ties judge ◌and_then◌ neg le of_bits among without_own keep dropped_lines dropped_from radial_in form_in form closes label relabel feeder position live open_on base_state radial walk walk_by turn enter_all enter reached neighbours far least ◌or_else◌ index_of count up_to
records-repaired = (refl, refl, refl, refl, refl, refl, refl, refl, refl)

-- ---- their texts
abbrev text_ending : ℕ → List ℕ
text_ending last =
    line 36 0x010003000400033FF0000000000000000064
    ++ (bus_lines
    ++ (line 28 0x03000100023FD000000000000001
    ++ (line 28 0x03000200023FD000000000000001
    ++ (line 28 0x03000200033FDC00000000000001
    ++ (line 28 0x03000100033FC800000000000001
    ++ (line 12 0x04000A000202
    ++ (line 12 0x04000C000102
    ++ line 12 last)))))))

abbrev stored_text : List ℕ
stored_text = text_ending 0x04000B000303

abbrev looped_text : List ℕ
looped_text = text_ending 0x04000B000302 ++ supply_line 1

abbrev bus_line : List ℕ
bus_line = line 22 0x0200010000000000000000

abbrev own_bus_text : List ℕ
own_bus_text = line 36 0x010001000100003FF0000000000000000064 ++ (bus_line ++ line 28 0x0300010001000000000000000001)

pub stored-read :
    refused_as 17 6 stored_text
    × refused_as 17 3 own_bus_text
    × (read_stored stored_text ≡ accepted stored)
    × (read_stored (stored_text ++ supply_line 1) ≡ accepted (fed_from 1 stored))
    × (read_stored looped_text ≡ refused 15 12)
    × (read_stored own_bus_text ≡ accepted own_bus)
unfolding read_text read_stored read_as read_lines read_one read_run at_most_one as_option read_end without judge ◌and_then◌ follow pure cut put every line_faults is_frame fields_of method_of number value digit digits is_digit read_fields head_faults bus_faults branch_faults switch_faults times ok_base ok_load ok_r among ties of_bits le neg supply_faults without_own keep radial_in form_in form closes label relabel feeder position radial walk walk_by turn enter_all enter reached neighbours far base_state live open_on least ◌or_else◌ index_of count up_to
stored-read = (refl, refl, refl, refl, refl, refl)

-- what `feeder` prints
refused_printed : (printed stored_text ≡ line 8 0x8F110006) × (printed own_bus_text ≡ line 8 0x8F110003)
unfolding printed refusal_text frame_text write_fields digits digit
refused_printed = (rw stored-read.0, rw stored-read.1)

-- what `repair` prints: document 01's triangle, with its supply's line where it has one; the 8F line of a refusal; a bus
pub repairs-printed :
    (printed_repair stored_text ≡ triangle_text ++ (line 8 0x87000601 ++ line 8 0x87000A02))
    × (printed_repair (stored_text ++ supply_line 1) ≡ triangle_text ++ (supply_line 1 ++ (line 8 0x87000601 ++ line 8 0x87000A02)))
    × (printed_repair looped_text ≡ line 8 0x8F0F000C)
    × (printed_repair own_bus_text ≡ line 36 0x010001000000003FF0000000000000000064 ++ (bus_line ++ line 8 0x87000301))
unfolding printed_repair repaired text_of head_of without_own keep dropped_lines dropped_from dropped_text refusal_text frame_text write_fields digits digit flat_map count of_bits to_bits
repairs-printed = (rw stored-read.2, rw stored-read.3, rw stored-read.4, rw stored-read.5)
