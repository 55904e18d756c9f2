-- `lines_end` meets its contract: so many lines are passed.
use Rattle.std.proofs.Common.{◌≡◌, ◌≤◌, length}
use Rattle.cases.specs.Lent.{lines_end}
use Rattle.cases.proofs.lines_end.Given as goal

abbrev pub invariant-lines : goal.invariant-lines
invariant-lines l = record { value : l.end ≡ lines_end l.input l.at l.counter; within : l.at ≤ length l.input → l.end ≤ length l.input }
