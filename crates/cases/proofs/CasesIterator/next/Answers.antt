-- `next` meets its contract: it lends the first case, and leaves those behind it.
use Rattle.std.proofs.Common.{rules, ap, length}
use Rattle.cases.proofs.Steps.{no_case, case_lent}
use Rattle.cases.proofs.CasesIterator.next.Goals as goal

pub returns-then-is_empty-clause-steps : goal.returns-then-is_empty-clause-steps
returns-then-is_empty-clause-steps c = let e = no_case c.args.self.now.own_lines c.args.self.now.rest.now (search rules) in (e, e)

pub returns-clause-steps : goal.returns-clause-steps
returns-clause-steps c =
    case_lent _ _ _ _ _ (search rules) c.first_case-case.ensures.0 c.lines_end-end.ensures.value c.min.ensures c.part_of.ensures c.part_of-2.ensures c.part_of-3.ensures

pub returns-clause-goes : goal.returns-clause-goes
returns-clause-goes c = let e = ap length (returns-clause-steps c) in search rules
