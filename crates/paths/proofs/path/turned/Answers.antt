-- `turned` meets its contract: its front is the list, turned by `reverse`.
use Rattle.paths.proofs.Leading.{turned}
use Rattle.paths.proofs.path.turned.Goals as goal

pub returns : goal.returns
returns c l e = turned _ l _ _ e c.from.ensures c.reverse.ensures.after
