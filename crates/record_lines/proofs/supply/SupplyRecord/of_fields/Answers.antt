-- `of_fields` meets its contract: the field is read at its position.
use Rattle.network.specs.Answers.{◌and_then◌, judge}
use Rattle.lines.specs.Hex.{read_fields}
use Rattle.record_lines.proofs.supply.SupplyRecord.of_fields.Goals as goal

pub returns : goal.returns
unfolding read_fields judge ◌and_then◌
returns c = rw c.word.ensures
