-- `byte` meets its contract: 2 digits write a number below 2 ^ 8.
use native.Mathlib.Omega.{arith}
use lib.ListN.{drop}
use Rattle.record_lines.proofs.FieldLaws.{field_below}
use Rattle.record_lines.proofs.field.byte.Goals as goal

pub overflow_cast-result : goal.overflow_cast-result
overflow_cast-result c = omega (arith, field_below 2 (drop c.args.at c.args.f.now) c.number_at.ensures)
