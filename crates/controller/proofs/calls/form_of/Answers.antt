-- `form_of` meets its contract: the text is refused, or the call on its records answers.
use Rattle.std.proofs.Common.{refl, ◌∙◌}
use Rattle.network.specs.AnswerLaws.{handed_on}
use Rattle.frames.specs.ReadingLaws.{read_refused, read_accepted}
use Rattle.controller.specs.CallLaws.{reading_refused, reading_answered}
use Rattle.controller.proofs.calls.form_of.Goals as goal

pub returns-in_err-network : goal.returns-in_err-network
returns-in_err-network c = handed_on _ _ c.from_residual.ensures.1 ∙ reading_refused _ _ (read_refused _ refl c.in_err-network.ensures)

pub returns : goal.returns
returns c = reading_answered _ _ (read_accepted _ refl c.in_ok-network.ensures) c.verify_radiality.ensures
