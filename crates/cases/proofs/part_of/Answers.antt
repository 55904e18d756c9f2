-- `part_of` meets its contract: cut to what the input has, a part has the same bytes.
use Rattle.cases.proofs.Laws.{part_cut}
use Rattle.cases.proofs.part_of.Goals as goal

pub returns : goal.returns
returns c = part_cut _ _ _ _ c.min-to.ensures c.min-from.ensures
