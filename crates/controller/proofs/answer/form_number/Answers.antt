-- `form_number` meets its contract: the fields are the form's.
use Rattle.std.proofs.Common.{ap, arith}
use Rattle.graph.specs.declared.form.FormFields.{FormFields}
use Rattle.graph.specs.Form.{form_number}
use Rattle.controller.proofs.answer.form_number.Goals as goal

pub returns : goal.returns
unfolding form_number
returns c =
    let same = c.fields_of-fields.ensures in
    omega (arith, ap (λ (f : FormFields). f.islands) same, ap (λ (f : FormFields). f.branch) same)
