-- The claim of document 01's frame text, from the laws of reading; and that records of an accepted text pass the check.
use Rattle.std.specs.Prelude.{◌≡◌, false, List, ℕ}
use Rattle.std.proofs.Common.{ap, ◌∙◌}
use Rattle.network.specs.Answers.{accepted, ◌and_then◌}
use Rattle.network.specs.Records.{Network, records_of}
use Rattle.feeders.specs.Supply.{check_network}
use Rattle.feeders.specs.SupplyLaws.{network_inside}
use Rattle.frames.specs.Text.{read_text}
use Rattle.frames.specs.Acceptable.{text_of, Writable, Acceptable}
use Rattle.frames.specs.Claim.{Claim}
use Rattle.frames.specs.ReadLaws.{read_written, accepted_written}
use Rattle.frames.specs.HandedOver.{typed_writable}
use Rattle.frames.specs.TypedValues.{value_typed}
use Rattle.frames.specs.FirstFault.{first_fault}
use Rattle.frames.specs.LowerNumber.{lowest_wins}
use Rattle.frames.specs.Early.{read_early}

-- ---- the laws of reading, of a new text
new_written : (N : Network) → Writable N → read_text (text_of N) ≡ (check_network N and_then accepted N)
unfolding read_text check_network
new_written = read_written false

text_written : (t : List ℕ) (N : Network) → read_text t ≡ accepted N → (t ≡ text_of N) × Writable N × (check_network N ≡ accepted tt)
unfolding read_text check_network
text_written = accepted_written false

acceptable : (t : List ℕ) (N : Network) → read_text t ≡ accepted N → Acceptable t N
acceptable t N e =
    let k = text_written t N e in
    let i = (network_inside N).0 k.2 in
    record { text = k.0; inside = i.0; proper = i.1; supplied = i.2; writable = k.1 }

acceptable_read : (t : List ℕ) (N : Network) → Acceptable t N → read_text t ≡ accepted N
unfolding ◌and_then◌
acceptable_read t N a = ap read_text a.text ∙ new_written N a.writable ∙ ap (λ v. v and_then accepted N) ((network_inside N).1 (a.inside, a.proper, a.supplied))

pub claim : Claim
unfolding read_text
claim = record {
  accepted_texts = λ t N. (acceptable t N, acceptable_read t N);
  first = first_fault false;
  lower = lowest_wins false;
  checked = network_inside;
  alike = new_written;
  handed_over = λ n vs h. new_written (records_of n) (typed_writable n (value_typed n vs h));
  early = read_early false;
}

-- records that came from a text are not refused afterwards
pub passed : (t : List ℕ) (N : Network) → read_text t ≡ accepted N → check_network N ≡ accepted tt
passed t N e = (text_written t N e).2
