-- `form_of` meets its contract: a tree by the walk, else by the labels.
use Rattle.std.proofs.Common.{sym, ◌∙◌}
use Rattle.forms.proofs.Labelling.{radial_form, other_form_lem}
use Rattle.forms.proofs.form.form_of.Goals as goal

pub returns-then-is_radial : goal.returns-then-is_radial
returns-then-is_radial c = radial_form _ _ (sym c.is_radial.ensures ∙ c.if-is_radial.true)

pub returns : goal.returns
returns c = other_form_lem _ _ (sym c.is_radial.ensures ∙ c.if-is_radial.false) c.add_live-added.ensures c.islands_of.ensures c.instead.ensures
