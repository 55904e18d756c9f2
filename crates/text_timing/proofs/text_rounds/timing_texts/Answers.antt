-- `timing_texts` meets its contract: the text is refused, and nothing is written, or the rounds run on its records.
use Rattle.std.proofs.Common.{refl}
use Rattle.frames.specs.ReadingLaws.{read_refused, read_accepted}
use Rattle.text_timing.specs.TextRoundLaws.{text_refused, text_accepted}
use Rattle.text_timing.proofs.text_rounds.timing_texts.Goals as goal

pub returns-in_default : goal.returns-in_default
returns-in_default c = text_refused _ _ _ _ _ (read_refused _ refl c.in_default.ensures)

pub returns : goal.returns
returns c = text_accepted _ _ _ _ _ (read_accepted _ refl c.in-Ok.ensures) c.text_rounds.ensures
