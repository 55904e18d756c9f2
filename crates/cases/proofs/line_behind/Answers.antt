-- `line_behind` meets its contract: the bounds are those of the line behind the least of `at` and the length.
use native.Mathlib.Omega.{arith}
use Rattle.cases.proofs.Laws.{line_found}
use Rattle.cases.proofs.line_behind.Goals as goal

pub returns : goal.returns
returns c = line_found _ _ _ _ (omega arith) (c.line_length.ensures.value, c.line_length.ensures.within)
