-- What is claimed of the text that is made of records. Its words are defined in `Texts` (the call), in crate frames in Acceptable (`text_of`, room in the digits) and Text (the reader), in crate
-- network in Records (what is listed) and Inside (the limits, and no branch from a bus to itself), in crate feeders in Supply (the check) and Supplied, and in printing/specs/Calls (13, the bytes that are kept). `Proof.claim` proves it.
use Rattle.std.specs.Prelude.{◌≡◌, List, ◌++◌, ℕ, ◌≤◌, ◌<◌, ◌^◌, Float, length, take, drop}
use Rattle.std.specs.Float.{binary64}
use Rattle.std.specs.Float.Ieee.{of_bits}
use mir.Val.{Val}
use denote.Laws.{Is}
use Rattle.network.specs.contracts.topology.PowerNetwork.{the_row}
use Rattle.network.specs.declared.topology.PowerNetwork.{PowerNetwork}
use Rattle.network.specs.Answers.{accepted, refused}
use Rattle.network.specs.Records.{Network, records_of}
use Rattle.network.specs.Inside.{Inside, Proper}
use Rattle.feeders.specs.Supply.{check_network}
use Rattle.feeders.specs.Supplied.{Supplied}
use Rattle.frames.specs.Text.{read_text}
use Rattle.frames.specs.Acceptable.{bits_of, Held, text_of, Writable}
use Rattle.texts.specs.Lines.{IsNumber}
use Rattle.texts.specs.Texts.{written_text}

pub record Claim : Type 0 where
  -- "Reading its text returns the same records": of every value that is handed over and accepted (`Is the_row n vs`: the machine's values vs stand for n), the same head, the same lists of buses, branches
  -- and switches, and the same supply. What stands behind its counts is no record
  pub read_back : (n : PowerNetwork) (vs : List Val) → Is the_row n vs → check_network (records_of n) ≡ accepted tt → read_text (text_of (records_of n)) ≡ accepted (records_of n)
  -- and of all records inside the limits of both documents whose fields have room in their digits
  pub records_back : (N : Network) → Inside N → Proper N → Supplied N → Writable N → read_text (text_of N) ≡ accepted N
  -- and of what `write_text` left in the lent slice: its first `count` bytes, where it answered `count`
  pub slice_back : (n : PowerNetwork) (vs : List Val) → Is the_row n vs → (out after : List ℕ) (count : ℕ)
      → record { answer = accepted count; out = after } ≡ written_text (records_of n) out → read_text (take count after) ≡ accepted (records_of n)
  -- "floats by their bits": equal floats have equal patterns, and floats that a pattern of 64 bits holds are equal where their patterns are
  pub same_bits : (x y : Float) → (x ≡ y → bits_of x ≡ bits_of y) × (Held x → Held y → bits_of x ≡ bits_of y → x ≡ y)
  -- a pattern that is no NaN is the pattern of the float that it is read as
  pub bits_kept : (pattern : ℕ) → pattern < 2 ^ 64 → IsNumber (of_bits binary64 pattern) → bits_of (of_bits binary64 pattern) ≡ pattern
  -- so that 0.0 and -0.0 are two
  pub two_zeros : of_bits binary64 0 ≡ of_bits binary64 0x8000_0000_0000_0000 → ⊥
  -- "each accepted text is the only one for its records": of all accepted texts
  pub only_text : (t : List ℕ) (N : Network) → read_text t ≡ accepted N → t ≡ text_of N
  pub one_text : (t u : List ℕ) (N : Network) → read_text t ≡ accepted N → read_text u ≡ accepted N → t ≡ u
  -- and the records are the only ones for their text
  pub only_records : (N M : Network) → check_network N ≡ accepted tt → check_network M ≡ accepted tt → Writable N → Writable M → text_of N ≡ text_of M → N ≡ M
  -- the call: "A writer turns an accepted network into document 01's frames", another one gets its refusal, and the slice keeps every byte
  pub refused_first : (N : Network) (out : List ℕ) (number place : ℕ) → check_network N ≡ refused number place → written_text N out ≡ record { answer = refused number place; out = out }
  -- the records of an accepted text are written as that text, and the slice keeps its tail
  pub written_back : (t : List ℕ) (N : Network) (out : List ℕ) → read_text t ≡ accepted N → length t ≤ length out
      → written_text N out ≡ record { answer = accepted (length t); out = t ++ drop (length t) out }
  -- inside the limits of both documents the text is written in full where it has room
  pub written_in_full : (N : Network) (out : List ℕ) → Inside N → Proper N → Supplied N → length (text_of N) ≤ length out
      → written_text N out ≡ record { answer = accepted (length (text_of N)); out = text_of N ++ drop (length (text_of N)) out }
  -- "A short lent slice gets refusal 13": it keeps every byte, and nothing else is refused
  pub too_short : (N : Network) (out : List ℕ) → Inside N → Proper N → Supplied N → length out < length (text_of N) → written_text N out ≡ record { answer = refused 13 0; out = out }
  pub only_13 : (N : Network) (out : List ℕ) → Inside N → Proper N → Supplied N → (number place : ℕ) → (written_text N out).answer ≡ refused number place
      → (number ≡ 13) × (place ≡ 0) × (length out < length (text_of N))
