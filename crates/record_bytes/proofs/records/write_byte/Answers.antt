-- `write_byte` meets its contract: the last byte of its line, or another.
use borrow.Author.Rules.{rules}
use Rattle.record_bytes.specs.RecordCalls.{last_written, more_written}
use Rattle.record_bytes.proofs.records.write_byte.Goals as goal

pub returns-then-left-eq1 : goal.returns-then-left-eq1
returns-then-left-eq1 c = last_written _ _ _ c.requires (search rules) _ c.if-left-eq1.true c.write_line.ensures

pub returns : goal.returns
returns c = more_written _ _ _ c.requires (search rules) _ c.if-left-eq1.false c.write_digits.ensures
