-- What is claimed of document 01's frame text, with document 02's line. Its words are defined in Text (the reader), Acceptable (the text of a network), Lengths,
-- Conditions (the conditions of each line), in crate network in Inside (the limits of document 01, and that no branch goes from a bus to itself), and in crate feeders in Supply (the check of records) and Supplied
-- (the limits of document 02). `Proof.claim` proves it.
use Rattle.std.specs.Prelude.{◌≡◌, ◌↔◌, false, List, ℕ, ◌≤◌, take}
use mir.Val.{Val}
use denote.Laws.{Is}
use Rattle.network.specs.contracts.topology.PowerNetwork.{the_row}
use Rattle.network.specs.declared.topology.PowerNetwork.{PowerNetwork}
use Rattle.network.specs.Answers.{accepted, ◌and_then◌}
use Rattle.network.specs.Records.{Network, records_of}
use Rattle.network.specs.Inside.{Each, Inside, Proper}
use Rattle.lines.specs.Lines.{cut}
use Rattle.feeders.specs.Supply.{check_network}
use Rattle.feeders.specs.Supplied.{Supplied}
use Rattle.frames.specs.Text.{read_text}
use Rattle.frames.specs.Acceptable.{text_of, Writable, Acceptable}
use Rattle.frames.specs.Lengths.{deciding_length}
use Rattle.frames.specs.Conditions.{conditions, judge_lines, judgement_of, LowestWins}

pub record Claim : Type 0 where
  -- "The frame reader makes the records": a text is accepted, with these records, exactly where it is their text and they are inside the limits of both documents
  pub accepted_texts : (t : List ℕ) (N : Network) → (read_text t ≡ accepted N) ↔ Acceptable t N
  -- "The first faulty line decides": over the conditions of each line, found from the text alone. In that line "a line over 36 characters is 2 whatever
  -- they are" comes first, and then the first of its other conditions that is met
  pub first : (t : List ℕ) → judgement_of (read_text t) ≡ judge_lines 1 (conditions false (cut t))
  -- "inside a line the lower number wins": of these other conditions that are met it is the lowest number that is given
  pub lower : (t : List ℕ) → Each (λ c. LowestWins c.others) (conditions false (cut t))
  -- records pass the check exactly where they are inside the limits of both documents
  pub checked : (N : Network) → (check_network N ≡ accepted tt) ↔ (Inside N × Proper N × Supplied N)
  -- "Records handed over without text are checked as their lines would be": with the number and the place that their text would get. Of records whose
  -- fields have room in their digits
  pub alike : (N : Network) → Writable N → read_text (text_of N) ≡ (check_network N and_then accepted N)
  -- and of every value that is handed over: `Is the_row n vs` says that the machine's values vs stand for n; its fields are u16 and f64 (`TypedValues.value_typed`), so
  -- that its records have room (`HandedOver.typed_writable`)
  pub handed_over : (n : PowerNetwork) (vs : List Val) → Is the_row n vs → read_text (text_of (records_of n)) ≡ (check_network (records_of n) and_then accepted (records_of n))
  -- the first `deciding_length` bytes decide: one line more than the longest acceptable text. A program that reads so many or more of a longer text gives the
  -- refusal that the whole text would get
  pub early : (n : ℕ) (t : List ℕ) → deciding_length ≤ n → read_text (take n t) ≡ read_text t
