-- `timing_rounds` meets its contract: the text is refused, and every round counts for nothing, or the rounds run on its records.
use Rattle.std.proofs.Common.{refl}
use Rattle.frames.specs.ReadingLaws.{read_refused, read_accepted}
use Rattle.timing.specs.RoundLaws.{total_refused}
use Rattle.timing.proofs.rounds.timing_rounds.Goals as goal

pub returns-in_default : goal.returns-in_default
returns-in_default c = total_refused _ _ _ _ _ _ _ (read_refused _ refl c.in_default.ensures)

pub rounds-requires : goal.rounds-requires
rounds-requires c = read_accepted _ refl c.in-Ok.ensures
