-- How long the text of a network is, known before anything is written, and the call that writes it.
use Rattle.std.specs.Prelude.{◌≡◌, refl, ℕ, ◌+◌, ◌*◌, ◌≤◌, length}
use mathlib.Core.List.{List, flat_map}
use Rattle.std.specs.Prelude.{Option, None, Some}
use Rattle.std.proofs.Common.{arith, length-append}
use Rattle.network.specs.Records.{Network}
use Rattle.network.specs.Inside.{Inside}
use Rattle.network.specs.Answers.{accepted}
use Rattle.network.specs.Check.{head_of}
use Rattle.lines.specs.Hex.{Fields}
use Rattle.lines.specs.Frames.{Frame, frame_text}
use Rattle.record_lines.specs.Kinds.{head, bus, branch, switch, supply}
use Rattle.feeders.specs.Supply.{supplies, check_network}
use Rattle.frames.specs.Acceptable.{head_fields, bus_fields, branch_fields, switch_fields, supply_fields, text_of}
use Rattle.frames.specs.Lengths.{line_length, longest_text}
use Rattle.slices.specs.Written.{written}
use Rattle.printing.specs.CallLaws.{call_done}
use Rattle.printing.specs.LineTexts.{length_frame, length_lines}
use Rattle.texts.specs.Texts.{written_text}

-- the lines of a kind
pub kind_length : {A : Type 0} (F : Frame) (fields : A → Fields F.widths) (l : List A) → length (flat_map (λ a. frame_text F (fields a)) l) ≡ line_length F * length l
kind_length F fields l = length_lines (λ a. frame_text F (fields a)) (line_length F) (λ a. length_frame F (fields a)) l

-- 37 + 23 × buses + 29 × branches + 13 × switches, and 7 for a supply, of every network
pub text_length : (N : Network)
    → length (text_of N)
    ≡ line_length head + line_length bus * length N.buses + line_length branch * length N.branches + line_length switch * length N.switches + line_length supply * length (supplies N.supply)
unfolding text_of
text_length N =
    let z = kind_length supply supply_fields (supplies N.supply) in
    rw (length-append, length-append, length-append, length-append)
    (omega (arith, length_frame head (head_fields (head_of N)), kind_length bus bus_fields N.buses, kind_length branch branch_fields N.branches, kind_length switch switch_fields N.switches, z))

one_line : (z : Option ℕ) → length (supplies z) ≤ 1
one_line None = omega arith
one_line (Some id) = omega arith

-- "At most 256 buses, 512 branches, 512 switches", and one supply: at most 27,436, which a u16 holds
pub text_short : (N : Network) → Inside N → length (text_of N) ≤ longest_text
text_short N inside = omega (arith, text_length N, inside.counts.0, inside.counts.1, inside.counts.2, one_line N.supply)

-- the call, where the records are accepted and the slice has room
pub text_written : (N : Network) (out : List ℕ) {count : ℕ} → check_network N ≡ accepted tt → count ≡ length (text_of N) → count ≤ length out
    → {after : List ℕ} → after ≡ written (text_of N) out → record { answer = accepted count; out = after } ≡ written_text N out
unfolding written_text
text_written N out ok e room w = rw e (call_done (length (text_of N)) (text_of N) out ok refl (omega arith) w)
