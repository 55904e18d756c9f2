-- `reading` meets its contract: a refused text counts for nothing, an accepted one for its records.
use Rattle.std.proofs.Common.{refl}
use Rattle.frames.specs.ReadingLaws.{read_refused, read_accepted}
use Rattle.timing.specs.RoundLaws.{count_refused, count_accepted}
use Rattle.timing.proofs.values.reading.Goals as goal

pub returns-in_default : goal.returns-in_default
returns-in_default c = count_refused _ _ _ (read_refused _ refl c.in_default.ensures)

pub returns : goal.returns
returns c = rw (c.from.ensures, c.from-2.ensures, c.from-3.ensures) (count_accepted _ _ (read_accepted _ refl c.in-Ok.ensures))
