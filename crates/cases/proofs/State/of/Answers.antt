-- `of` meets its contract: as many bytes as there are digits, or as a state has room for.
use Rattle.cases.proofs.Steps.{state_filled}
use Rattle.cases.proofs.State.of.Goals as goal

pub returns : goal.returns
returns c = rw c.state_bytes.ensures (state_filled _ _ c.min.ensures)
