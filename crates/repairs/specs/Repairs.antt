-- Document 02, Point 7: the repair of a stored text, and what `repair_text` answers.
use mathlib.Core.List.{List, ◌++◌, flat_map}
use Rattle.std.specs.Prelude.{ℕ, length}
use Rattle.network.specs.Answers.{Answer, accepted, refused}
use Rattle.network.specs.Records.{Network}
use Rattle.own_loops.specs.OwnLoops.{Dropped, without_own, dropped_lines}
use Rattle.frames.specs.Text.{read_stored}
use Rattle.frames.specs.Acceptable.{text_of}
use Rattle.frames.specs.Conditions.{judgement_of}
use Rattle.printing.specs.Printed.{dropped_text, refusal_text}
use Rattle.printing.specs.Calls.{Call, called}

-- "prints, after the text, a frame 87 .. for each dropped line, in line order"
abbrev pub dropped_lines_text : List Dropped → List ℕ
dropped_lines_text = flat_map (λ d. dropped_text d.line d.reason)

unfoldable pub repaired : Network → List ℕ
repaired N = text_of (without_own N) ++ dropped_lines_text (dropped_lines N)

-- what the program `repair` prints: the repaired text, or the 8F line of a refusal
abbrev pub repaired_of : Answer Network → List ℕ
repaired_of (accepted N) = repaired N
repaired_of (refused number place) = refusal_text number place

unfoldable pub printed_repair : List ℕ → List ℕ
printed_repair text = repaired_of (read_stored text)

-- the call: the stored text's refusal with its place, then 13, then how many bytes, with the bytes at the front of the slice
unfoldable pub repaired_text : List ℕ → List ℕ → Call ℕ
repaired_text text out = called (judgement_of (read_stored text)) (length (printed_repair text)) (printed_repair text) out
