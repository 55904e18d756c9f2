-- `form_number_of` meets its contract: the form is one number.
use Rattle.std.proofs.Common.{ap, ◌∙◌}
use Rattle.network.specs.Answers.{valued, accepted}
use Rattle.network.specs.AnswerLaws.{handed_on}
use Rattle.graph.specs.Form.{form_number}
use Rattle.controller.specs.Calls.{text_form}
use Rattle.controller.proofs.calls.form_number_of.Goals as goal

pub returns-in_err-form : goal.returns-in_err-form
unfolding text_form
returns-in_err-form c = handed_on _ _ c.from_residual.ensures.1 ∙ ap (valued form_number) c.in_err-form.ensures

pub returns : goal.returns
unfolding text_form
returns c = ap accepted c.form_number.ensures ∙ ap (valued form_number) c.in_ok-form.ensures
