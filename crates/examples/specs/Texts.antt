-- The text of document 01's triangle, also from its records in bytes, and document 01's examples of the refusals that a text can get; all hold by computation. Programs check the others: `reader_cases`.
use mathlib.Core.List.{List, [], ◌∷◌, ◌++◌, flat_map}
use Rattle.std.specs.Prelude.{◌≡◌, refl, ℕ, zero, suc, ◌+◌, ◌*◌}
use Rattle.std.specs.Float.Ieee.{of_bits, le, neg}
use Rattle.numbers.specs.Every.{every}
use Rattle.numbers.specs.Times.{times}
use Rattle.network.specs.Answers.{accepted, refused, ◌and_then◌, judge}
use Rattle.network.specs.Limits.{ok_base, ok_load, ok_r, ties}
use Rattle.numbers.specs.Choose.{among}
use Rattle.network.specs.Faults.{head_faults, bus_faults, branch_faults, switch_faults}
use Rattle.lines.specs.Hex.{is_digit, value, digit, number, digits, read_fields}
use Rattle.lines.specs.Lines.{put, cut, line_faults}
use Rattle.record_lines.specs.Kinds.{is_frame, fields_of, method_of, read_one, without}
use Rattle.frames.specs.Text.{follow, pure, read_run, read_end, at_most_one, as_option, read_lines, read_as, read_text}
use Rattle.frames.specs.Conditions.{judgement_of}
use Rattle.record_bytes.specs.RecordBytes.{frame_bytes, lines_of_bytes, text_of_bytes, number_bytes}
use Rattle.examples.specs.Feeders.{triangle}

-- a line of w digits, written as one number, and its line feed
abbrev pub line : ℕ → ℕ → List ℕ
line w n = digits w n ++ (10 ∷ [])

-- ---- the triangle
abbrev pub head_line : List ℕ
head_line = line 36 0x010003000300023FF0000000000000000064

abbrev pub bus_lines : List ℕ
bus_lines = line 22 0x0200010000000000000000 ++ (line 22 0x0200023FF0000000000000 ++ line 22 0x0200034000000000000000)

abbrev pub branch_lines : List ℕ
branch_lines = line 28 0x03000100023FD000000000000001 ++ (line 28 0x03000200033FDC00000000000001 ++ line 28 0x03000100033FC800000000000001)

abbrev pub switch_lines : List ℕ
switch_lines = line 12 0x04000A000102 ++ line 12 0x04000B000203

abbrev pub triangle_text : List ℕ
triangle_text = head_line ++ (bus_lines ++ (branch_lines ++ switch_lines))

pub triangle_read : read_text triangle_text ≡ accepted triangle
unfolding read_text read_as read_lines read_one read_run at_most_one as_option read_end without judge ◌and_then◌ follow pure cut put every line_faults is_frame fields_of method_of number value digit digits is_digit read_fields head_faults bus_faults branch_faults switch_faults times ok_base ok_load ok_r among ties of_bits le neg
triangle_read = refl

-- its records in bytes: the same digits, two in a byte
abbrev triangle_bytes : List ℕ
triangle_bytes =
    number_bytes 18 0x010003000300023FF0000000000000000064
    ++ (number_bytes 11 0x0200010000000000000000 ++ (number_bytes 11 0x0200023FF0000000000000 ++ (number_bytes 11 0x0200034000000000000000
    ++ (number_bytes 14 0x03000100023FD000000000000001 ++ (number_bytes 14 0x03000200033FDC00000000000001 ++ (number_bytes 14 0x03000100033FC800000000000001
    ++ (number_bytes 6 0x04000A000102 ++ number_bytes 6 0x04000B000203)))))))

pub triangle_written : text_of_bytes triangle_bytes ≡ triangle_text
unfolding text_of_bytes lines_of_bytes frame_bytes number_bytes flat_map digits digit
triangle_written = refl

-- ---- refused texts
abbrev pub refused_as : ℕ → ℕ → List ℕ → Type 0
refused_as n place t = read_text t ≡ refused n place

-- the triangle up to the last line of a kind, then this text
abbrev last_bus : List ℕ → List ℕ
last_bus t = head_line ++ (line 22 0x0200010000000000000000 ++ (line 22 0x0200023FF0000000000000 ++ t))

abbrev last_branch : List ℕ → List ℕ
last_branch t = head_line ++ (bus_lines ++ (line 28 0x03000100023FD000000000000001 ++ (line 28 0x03000200033FDC00000000000001 ++ t)))

-- document 01's table, its example of each of the first eight rows; of row 8 by document 02, point 6: "Refusal 8 now means a third"
pub table-rows :
    refused_as 1 1 (48 ∷ 71 ∷ [])  -- `0G`
    × refused_as 2 1 []  -- empty text
    × refused_as 3 7 (last_branch (line 28 0x03000100033FC800000000000002))  -- status 02
    × refused_as 4 1 (line 36 0x010101000300023FF0000000000000000064)  -- 0101 buses
    × refused_as 5 4 (last_bus (line 22 0x0200037FF0000000000000))  -- pd 7FF0000000000000
    × refused_as 6 4 (line 36 0x010002000100003FF0000000000000000064 ++ (line 22 0x0200010000000000000000 ++ (line 22 0x0200020000000000000000 ++ line 28 0x0300010009000000000000000000)))  -- end 0009 of buses 1 and 2
    × refused_as 7 3 (head_line ++ (line 22 0x0200010000000000000000 ++ line 22 0x0200010000000000000000))  -- bus 0001 again
    × refused_as 8 10 (line 36 0x010003000300033FF0000000000000000064 ++ (bus_lines ++ (branch_lines ++ (line 12 0x04000A000002 ++ (line 12 0x04000B000003 ++ line 12 0x04000C000003)))))  -- three switches on 0000
unfolding read_text read_as read_lines read_one read_run at_most_one as_option read_end without judge ◌and_then◌ follow pure cut put every line_faults is_frame fields_of method_of number value digit digits is_digit read_fields head_faults bus_faults branch_faults switch_faults times ok_base ok_load ok_r among ties of_bits le neg
table-rows = (refl, refl, refl, refl, refl, refl, refl, refl)

-- row 9: with method 02, ten ties pass, eleven are refused at the eleventh's line
abbrev parallels : ℕ → List ℕ
parallels zero = []
parallels (suc n) = line 28 0x0300010002000000000000000001 ++ parallels n

abbrev tie_lines : ℕ → List ℕ
tie_lines zero = []
tie_lines (suc n) = line 12 (0x040000000001 + n * 0x1000100) ++ tie_lines n

abbrev many_ties : ℕ → List ℕ
many_ties n = line 36 (0x010002000000003FF0000000000000020000 + n * 0x100010000000000000000000000) ++ (line 22 0x0200010000000000000000 ++ (line 22 0x0200020000000000000000 ++ (parallels n ++ tie_lines n)))

many_ties_lem : (judgement_of (read_text (many_ties 10)) ≡ accepted tt) × refused_as 9 25 (many_ties 11)
unfolding read_text read_as read_lines read_one read_run at_most_one as_option read_end without judge ◌and_then◌ follow pure cut put every line_faults is_frame fields_of method_of number value digit digits is_digit read_fields head_faults bus_faults branch_faults switch_faults times ok_base ok_load ok_r among ties of_bits le neg judgement_of
many_ties_lem = (refl, refl)
