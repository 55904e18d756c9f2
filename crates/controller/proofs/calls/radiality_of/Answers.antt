-- `radiality_of` meets its contract: radial is a reading of the form.
use Rattle.std.proofs.Common.{ap, ◌∙◌}
use Rattle.network.specs.Answers.{valued, accepted}
use Rattle.network.specs.AnswerLaws.{handed_on}
use Rattle.controller.specs.Calls.{radial_byte, text_radiality}
use Rattle.controller.specs.CallLaws.{radial_or_not}
use Rattle.controller.proofs.calls.radiality_of.Goals as goal

pub returns-in_err-form : goal.returns-in_err-form
unfolding text_radiality
returns-in_err-form c = handed_on _ _ c.from_residual.ensures.1 ∙ ap (valued radial_byte) c.in_err-form.ensures ∙ radial_or_not _ _

pub returns : goal.returns
unfolding text_radiality
returns c = ap accepted (c.from.ensures ∙ c.radial_byte.ensures) ∙ ap (valued radial_byte) c.in_ok-form.ensures ∙ radial_or_not _ _
