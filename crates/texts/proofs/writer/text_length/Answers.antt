-- `text_length` meets its contract: the law `text_length`, of a value that lists as many records as its counts say.
use Rattle.std.proofs.Common.{arith}
use Rattle.texts.specs.ValueLaws.{value_length}
use Rattle.texts.proofs.writer.text_length.Goals as goal

pub returns : goal.returns
returns c = omega (arith, value_length c.args.network, c.from.ensures, c.from-2.ensures, c.from-3.ensures, rw c.is_some.ensures at c.from-4.ensures)
