-- `read_stored` meets its contract: reading, of a stored one.
use Rattle.frames.specs.Text.{read_stored}
use Rattle.frames.proofs.reader.read_stored.Goals as goal

pub returns : goal.returns
unfolding read_stored
returns c = c.read_as.ensures
