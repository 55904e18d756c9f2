-- Records in bytes, as a caller in C hands them over: each record's kind byte and its fields in the order of documents 01 and 02, u16 in two bytes, f64 bits in eight, most significant
-- first, one record behind the other. They are the frames with a byte for two digits and no line feeds.
use Rattle.std.specs.Prelude.{cond, ℕ, zero, suc, ◌/◌, ◌%◌, ◌^◌, min, eqb, length, take, drop}
use mathlib.Core.List.{List, [], ◌∷◌, ◌++◌, flat_map}
use Rattle.network.specs.Check.{head_of}
use Rattle.network.specs.Records.{Network}
use Rattle.lines.specs.Hex.{digits, Fields, total}
use Rattle.lines.specs.Frames.{Frame, layout}
use Rattle.record_lines.specs.Kinds.{head, bus, branch, switch, supply}
use Rattle.feeders.specs.Supply.{supplies}
use Rattle.frames.specs.Acceptable.{head_fields, bus_fields, branch_fields, switch_fields, supply_fields}
use Rattle.frames.specs.Conditions.{judgement_of}
use Rattle.frames.specs.Text.{read_text}
use Rattle.printing.specs.Calls.{Call, called}

-- ---- the text of such bytes
-- a byte for two digits: 18 of the head, 11 of a bus, 14 of a branch, 6 of a switch, 3 of a supply
abbrev pub bytes_of : Frame → ℕ
bytes_of F = total (layout F) / 2

-- how many bytes the frame has that begins with this kind byte: as many as its kind has; where the kind is none of the five or fewer are left, all that are left
unfoldable pub frame_bytes : ℕ → ℕ → ℕ
frame_bytes kind left =
    cond (eqb kind head.kind) (min (bytes_of head) left)
    (cond (eqb kind bus.kind) (min (bytes_of bus) left)
    (cond (eqb kind branch.kind) (min (bytes_of branch) left)
    (cond (eqb kind switch.kind) (min (bytes_of switch) left)
    (cond (eqb kind supply.kind) (min (bytes_of supply) left) left))))

-- a frame in digits, with its line feed
abbrev pub line_of_bytes : List ℕ → List ℕ
line_of_bytes frame = flat_map (digits 2) frame ++ (10 ∷ [])

-- the lines of at most so many frames
unfoldable pub lines_of_bytes : ℕ → List ℕ → List ℕ
lines_of_bytes zero bytes = []
lines_of_bytes (suc more) [] = []
lines_of_bytes (suc more) (kind ∷ bytes) =
    let n = frame_bytes kind (length (kind ∷ bytes)) in
    line_of_bytes (take n (kind ∷ bytes)) ++ lines_of_bytes more (drop n (kind ∷ bytes))

-- the text of records in bytes: there are no more frames than bytes
unfoldable pub text_of_bytes : List ℕ → List ℕ
text_of_bytes bytes = lines_of_bytes (length bytes) bytes

-- the refusal of that text, then 13, else how many bytes it has, and the text at the slice's front. Where the text is accepted with N that is what `write_text`
-- answers for N (`RecordBytesLaws.records_accepted`); of bytes the refusal is 2 to 9, 14, 15, 17 or 13 (`RecordRefusals.records_refusals`)
unfoldable pub written_records : List ℕ → List ℕ → Call ℕ
written_records bytes out = called (judgement_of (read_text (text_of_bytes bytes))) (length (text_of_bytes bytes)) (text_of_bytes bytes) out

-- ---- the records of a network in such bytes: their text is the network's (`RecordBytesLaws.records_of_lem`), they are bytes (`records_bytes`), and they are answered
-- as the network is (`records_alike`)
-- a number in n bytes, the most significant first
unfoldable pub number_bytes : ℕ → ℕ → List ℕ
number_bytes zero number = []
number_bytes (suc n) number = number / 256 ^ n ∷ number_bytes n (number % 256 ^ n)

-- each field in its bytes
unfoldable pub field_bytes : (ws : List ℕ) → Fields ws → List ℕ
field_bytes [] f = []
field_bytes (w ∷ ws) f = number_bytes (w / 2) f.0 ++ field_bytes ws f.1

-- a record's kind byte and its fields, in the order of the table
abbrev pub record_bytes : (F : Frame) → Fields F.widths → List ℕ
record_bytes F f = field_bytes (layout F) (F.kind, f)

-- one behind the other: "Lines come in this order, as many as the head says", and last the supply's, if there is a supply
unfoldable pub bytes_of_records : Network → List ℕ
bytes_of_records N =
    record_bytes head (head_fields (head_of N))
    ++ (flat_map (λ b. record_bytes bus (bus_fields b)) N.buses
    ++ (flat_map (λ b. record_bytes branch (branch_fields b)) N.branches
    ++ (flat_map (λ s. record_bytes switch (switch_fields s)) N.switches
    ++ flat_map (λ id. record_bytes supply (supply_fields id)) (supplies N.supply))))
