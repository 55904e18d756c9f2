-- `head_of` meets its contract: a value lists as many records as its counts say.
use Rattle.network.specs.Check.{head_of}
use Rattle.network.specs.Records.{records_of}
use Rattle.numbers.specs.TableLaws.{length_table}
use Rattle.texts.proofs.writer.head_of.Goals as goal

pub returns : goal.returns
unfolding head_of records_of
returns c = rw (length_table, length_table, length_table)
