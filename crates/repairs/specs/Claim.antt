-- What is claimed of the repair (document 02, Point 7). Its words are defined in `Repairs` (what is printed, and the call), in crate own_loops in OwnLoops (what is dropped; `own_loops.specs.Claim` says which
-- lines these are), in crate frames in Text (both readings) and Acceptable (`text_of`). What a stored text is refused for stands in `frames.specs.StoredClaim`. `Proof.claim` proves it.
use Rattle.std.specs.Prelude.{◌≡◌, List, [], ◌++◌, ℕ, ◌≤◌, ◌<◌, length, take, drop}
use Rattle.network.specs.Answers.{accepted, refused}
use Rattle.network.specs.Records.{Network}
use Rattle.own_loops.specs.OwnLoops.{without_own, dropped_lines}
use Rattle.frames.specs.Text.{read_text, read_stored}
use Rattle.frames.specs.Acceptable.{text_of}
use Rattle.frames.specs.Lengths.{longest_text, deciding_length}
use Rattle.repairs.specs.Repairs.{repaired, printed_repair, repaired_text}

pub record Claim : Type 0 where
  -- what stands before the 87 lines is a new text that is accepted, with what is left of the records
  pub repair_accepted : (t : List ℕ) (N : Network) → read_stored t ≡ accepted N → read_text (text_of (without_own N)) ≡ accepted (without_own N)
  -- "A text without any comes out byte for byte": every accepted text, and no 87 line follows
  pub repair_clean : (t : List ℕ) (M : Network) → read_text t ≡ accepted M → (read_stored t ≡ accepted M) × (repaired M ≡ t) × (dropped_lines M ≡ [])
  -- hence repairing the text of a repair changes nothing
  pub repair_again : (t : List ℕ) (N : Network) → read_stored t ≡ accepted N → printed_repair (text_of (without_own N)) ≡ text_of (without_own N)
  -- a repair is never longer than the stored text, so that 27,436 bytes are room
  pub repair_shorter : (t : List ℕ) (N : Network) → read_stored t ≡ accepted N → length (repaired N) ≤ length t
  pub repair_short : (t : List ℕ) (N : Network) → read_stored t ≡ accepted N → length (repaired N) ≤ longest_text
  -- the first `deciding_length` bytes decide
  pub repair_early : (n : ℕ) (t : List ℕ) → deciding_length ≤ n → printed_repair (take n t) ≡ printed_repair t
  -- the call: the stored text's refusal first, and the slice keeps every byte
  pub refused_first : (t out : List ℕ) (number place : ℕ) → read_stored t ≡ refused number place → repaired_text t out ≡ record { answer = refused number place; out = out }
  -- with room the repair is written in full, and the slice keeps its tail
  pub written_in_full : (t : List ℕ) (N : Network) (out : List ℕ) → read_stored t ≡ accepted N → length (repaired N) ≤ length out
      → repaired_text t out ≡ record { answer = accepted (length (repaired N)); out = repaired N ++ drop (length (repaired N)) out }
  -- a slice too short is 13, and keeps every byte
  pub too_short : (t : List ℕ) (N : Network) (out : List ℕ) → read_stored t ≡ accepted N → length out < length (repaired N) → repaired_text t out ≡ record { answer = refused 13 0; out = out }
