-- `two_ids` meets its contract.
use Rattle.printing.proofs.PairPieces.{two_ids}
use borrow.Author.Rules.{rules}
use Rattle.printing.proofs.writer.two_ids.Goals as goal

pub returns : goal.returns
returns c = two_ids _ _ (search rules) (search rules)
