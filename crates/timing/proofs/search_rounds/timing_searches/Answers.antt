-- `timing_searches` meets its contract: the text is refused, and every round counts for nothing, or the searches run on its records.
use Rattle.std.proofs.Common.{refl}
use Rattle.frames.specs.ReadingLaws.{read_refused, read_accepted}
use Rattle.timing.specs.RoundLaws.{searches_refused, searches_accepted}
use Rattle.timing.proofs.search_rounds.timing_searches.Goals as goal

pub returns-in_default : goal.returns-in_default
returns-in_default c = searches_refused _ _ _ _ (read_refused _ refl c.in_default.ensures)

pub returns : goal.returns
returns c = searches_accepted _ _ _ _ (read_accepted _ refl c.in-Ok.ensures) c.search_rounds.ensures
