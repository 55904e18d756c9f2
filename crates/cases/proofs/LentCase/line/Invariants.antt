-- `line` meets its contract: so many lines are passed, and what is left begins with the others.
use Rattle.cases.proofs.Steps.{Passed}
use Rattle.cases.proofs.LentCase.line.Given as goal

abbrev pub invariant-passed : goal.invariant-passed
invariant-passed l = Passed l.self.lines.now l.number l.counter l.lines
