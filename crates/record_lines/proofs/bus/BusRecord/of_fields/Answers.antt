-- `of_fields` meets its contract: each field is read at its position.
use Rattle.network.specs.Answers.{◌and_then◌, judge}
use Rattle.lines.specs.Hex.{read_fields}
use Rattle.record_lines.proofs.bus.BusRecord.of_fields.Goals as goal

pub returns : goal.returns
unfolding read_fields judge ◌and_then◌
returns c = rw (c.word-id.ensures, c.float-pd.ensures)
