-- `word` meets its contract: 4 digits write a number below 2 ^ 16.
use native.Mathlib.Omega.{arith}
use lib.ListN.{drop}
use Rattle.record_lines.proofs.FieldLaws.{field_below}
use Rattle.record_lines.proofs.field.word.Goals as goal

pub overflow_cast-result : goal.overflow_cast-result
overflow_cast-result c = omega (arith, field_below 4 (drop c.args.at c.args.f.now) c.number_at.ensures)
