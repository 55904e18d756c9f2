-- What `write_text` answers: the text of a network, `text_of`, into a lent slice.
use Rattle.std.specs.Prelude.{List, ℕ, length}
use Rattle.network.specs.Records.{Network}
use Rattle.feeders.specs.Supply.{check_network}
use Rattle.frames.specs.Acceptable.{text_of}
use Rattle.printing.specs.Calls.{Call, called}

-- the network's refusal, at the line on which the record would stand; then 13; then how many bytes the text has, and the text at the slice's front
unfoldable pub written_text : Network → List ℕ → Call ℕ
written_text N out = called (check_network N) (length (text_of N)) (text_of N) out
