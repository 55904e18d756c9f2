-- `line_length` meets its contract: what is found among the first 37 characters is where the line ends.
use Rattle.lines.proofs.LineEndLaws.{line_ends}
use Rattle.lines.proofs.line.line_length.Goals as goal

pub returns : goal.returns
returns c = line_ends c.args.rest.now _ _ c.min-size.ensures c.find.ensures.value
