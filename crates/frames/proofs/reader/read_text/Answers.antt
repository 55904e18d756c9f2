-- `read_text` meets its contract: reading, of a new text.
use Rattle.frames.specs.Text.{read_text}
use Rattle.frames.proofs.reader.read_text.Goals as goal

pub returns : goal.returns
unfolding read_text
returns c = c.read_as.ensures
