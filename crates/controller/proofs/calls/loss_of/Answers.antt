-- `loss_of` meets its contract: the text is refused, or the call on its records answers; no loss is a NaN.
use Rattle.std.proofs.Common.{refl, ap, ◌∙◌}
use lib.Ieee.{binary64, to_bits}
use Rattle.network.specs.Answers.{valued}
use Rattle.network.specs.AnswerLaws.{handed_on}
use Rattle.frames.specs.ReadingLaws.{read_refused, read_accepted}
use Rattle.controller.specs.Calls.{text_loss}
use Rattle.controller.specs.CallLaws.{loss_no_nan, reading_refused, reading_answered}
use Rattle.controller.proofs.calls.loss_of.Goals as goal

pub returns-in_err-network : goal.returns-in_err-network
unfolding text_loss
returns-in_err-network c = handed_on _ _ c.from_residual.ensures.1 ∙ ap (valued (to_bits binary64)) (reading_refused _ _ (read_refused _ refl c.in_err-network.ensures))

pub returns-in_err-loss : goal.returns-in_err-loss
unfolding text_loss
returns-in_err-loss c =
    handed_on _ _ c.from_residual-in_err-loss.ensures.1
    ∙ ap (valued (to_bits binary64)) (reading_answered _ _ (read_accepted _ refl c.in_ok-network.ensures) c.in_err-loss.ensures)

pub float_to_bits-result : goal.float_to_bits-result
float_to_bits-result c = loss_no_nan _ _ _ c.in_ok-loss.ensures

pub returns : goal.returns
unfolding text_loss
returns c = ap (valued (to_bits binary64)) (reading_answered _ _ (read_accepted _ refl c.in_ok-network.ensures) c.in_ok-loss.ensures)
