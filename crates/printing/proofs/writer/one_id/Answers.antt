-- `one_id` meets its contract.
use Rattle.printing.proofs.PairPieces.{one_id}
use borrow.Author.Rules.{rules}
use Rattle.printing.proofs.writer.one_id.Goals as goal

pub returns : goal.returns
returns c = one_id _ (search rules)
