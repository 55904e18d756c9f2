-- What is claimed of a stored text's reading (document 02, Point 7): "It refuses what was refused before, but judges 15 after the dropping, its place the old line."
-- Its words are defined in Text (both readings), Acceptable (`text_of`, `Repairable`), Conditions, in crate own_loops in OwnLoops (what is dropped), and in crate feeders in Supply (`check_stored`) and
-- Supplied. `StoredProof.stored_claim` proves it.
use Rattle.std.specs.Prelude.{◌≡◌, ◌⊎◌, ◌≢◌, ◌↔◌, true, List, ℕ, ◌≤◌, ◌<◌, take}
use mir.Val.{Val}
use denote.Laws.{Is}
use Rattle.network.specs.contracts.topology.PowerNetwork.{the_row}
use Rattle.network.specs.declared.topology.PowerNetwork.{PowerNetwork}
use Rattle.network.specs.Answers.{accepted, refused, ◌and_then◌}
use Rattle.network.specs.Records.{Network, records_of}
use Rattle.network.specs.Inside.{Each, Inside, Proper}
use Rattle.own_loops.specs.OwnLoops.{without_own}
use Rattle.feeders.specs.Supply.{check_stored}
use Rattle.feeders.specs.Supplied.{Supplied}
use Rattle.lines.specs.Lines.{cut}
use Rattle.frames.specs.Text.{read_text, read_stored}
use Rattle.frames.specs.Acceptable.{text_of, Writable, Repairable}
use Rattle.frames.specs.Lengths.{deciding_length}
use Rattle.frames.specs.Conditions.{conditions, judge_lines, judgement_of, LowestWins}

pub record StoredClaim : Type 0 where
  -- a stored text is read, with these records, exactly where it is their text, they are inside the limits, and what is left of them is supplied
  pub read_texts : (t : List ℕ) (N : Network) → (read_stored t ≡ accepted N) ↔ Repairable t N
  -- a text that is accepted is read the same
  pub new_read : (t : List ℕ) (N : Network) → read_text t ≡ accepted N → read_stored t ≡ accepted N
  -- and a stored text without a branch from a bus to itself is accepted
  pub proper_read : (t : List ℕ) (N : Network) → read_stored t ≡ accepted N → Proper N → read_text t ≡ accepted N
  -- "It refuses what was refused before": with the same number and place, but for 17
  pub refused_before : (t : List ℕ) (n p : ℕ) → read_text t ≡ refused n p → n ≢ 17 → read_stored t ≡ refused n p
  -- and nothing else, but for what stands behind a line that is refused with 17: there `first` says what decides
  pub refused_after : (t : List ℕ) (n p : ℕ) → read_stored t ≡ refused n p → (read_text t ≡ refused n p) ⊎ ((q : ℕ) × (q < p) × (read_text t ≡ refused 17 q))
  -- own loops are no fault of a stored text
  pub never_17 : (t : List ℕ) (n p : ℕ) → read_stored t ≡ refused n p → n ≢ 17
  -- "The first faulty line decides; inside a line the lower number wins", over the conditions of a stored text's lines
  pub first : (t : List ℕ) → judgement_of (read_stored t) ≡ judge_lines 1 (conditions true (cut t))
  pub lower : (t : List ℕ) → Each (λ c. LowestWins c.others) (conditions true (cut t))
  -- records pass the check of a stored text exactly where they are inside the limits, and what is left of them is supplied
  pub checked : (N : Network) → (check_stored N ≡ accepted tt) ↔ (Inside N × Supplied (without_own N))
  -- "Records handed over without text are checked as their lines would be": of records whose fields have room in their digits, and of every value that is handed over
  pub alike : (N : Network) → Writable N → read_stored (text_of N) ≡ (check_stored N and_then accepted N)
  pub handed_over : (n : PowerNetwork) (vs : List Val) → Is the_row n vs → read_stored (text_of (records_of n)) ≡ (check_stored (records_of n) and_then accepted (records_of n))
  -- the first `deciding_length` bytes decide
  pub early : (n : ℕ) (t : List ℕ) → deciding_length ≤ n → read_stored (take n t) ≡ read_stored t
