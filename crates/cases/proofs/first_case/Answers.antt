-- `first_case` meets its contract: each part is made as the definition makes it, and ends inside the input.
use native.Mathlib.Omega.{arith}
use lib.ListN.{length-take}
use Rattle.cases.proofs.Laws.{case_found}
use borrow.Author.Rules.{rules}
use Rattle.cases.proofs.first_case.Goals as goal

pub slice_bounds-leading-end : goal.slice_bounds-leading-end
slice_bounds-leading-end c = simp length-take (omega arith)

pub overflow_add-number : goal.overflow_add-number
overflow_add-number c = omega (arith, simp length-take at c.leading-number.ensures.1)

pub returns : goal.returns
returns c = (
  case_found _ _ _ _ _ _ c.line_length-head.ensures.value c.leading-number.ensures.0 c.min-name.ensures
      c.min-from.ensures c.min.ensures,
  search rules,
  search rules,
)
