-- `line` meets its contract: so many lines are passed, and what is left begins with the others.
use Rattle.cases.proofs.Steps.{line_passed, line_found}
use Rattle.cases.proofs.LentCase.line.Goals as goal

pub passed-preserved : goal.passed-preserved
passed-preserved c = line_passed c.passed.invariant c.passed-test.true _ _ c.line_length.ensures.value c.min.ensures

pub returns : goal.returns
returns c = line_found c.passed.invariant c.passed-test.false _ c.line_length-2.ensures.value
