-- `write_form` meets its contract: the fields make one number, whose digits are theirs.
use mathlib.Core.Path.{ap, ◌∙◌}
use native.Mathlib.Omega.{arith}
use lib.Dec.{lit<}
use Rattle.graph.specs.declared.form.FormFields.{FormFields}
use Rattle.slices.specs.Written.{written}
use Rattle.lines.specs.Frames.{frame_text}
use Rattle.printing.specs.Printed.{form_frame, form_text}
use Rattle.printing.specs.FrameNumbers.{frame_line}
use borrow.Author.Rules.{rules}
use Rattle.printing.proofs.writer.write_form.Goals as goal

pub returns : goal.returns
unfolding form_text
returns c =
    frame_line form_frame (_, (_, tt)) _ (lit< tt, (search rules, (search rules, tt))) (omega arith) c.write_line.ensures
    ∙ ap (λ (f : FormFields). written (frame_text form_frame (f.islands, (f.branch, tt))) c.args.out.now) c.fields_of-fields.ensures
