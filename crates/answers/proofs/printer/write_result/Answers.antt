-- `write_result` meets its contract: the floats of a result that has bits are written by their bits, and the 84 line stands behind the 81 line.
use Rattle.std.proofs.Common.{◌≡◌, arith}
use Rattle.slices.specs.Written.{written}
use Rattle.slices.specs.WrittenLaws.{written_append}
use Rattle.printing.specs.Lengths.{answer_length}
use Rattle.printing.specs.LineTexts.{length_form}
use Rattle.printing.specs.Printed.{form_text}
use Rattle.searches.specs.Results.{result_of}
use Rattle.answers.specs.Printing.{result_text, result_lines}
use Rattle.answers.specs.PrintingLaws.{length_result}
use Rattle.answers.proofs.printer.write_result.Goals as goal

pub returns : goal.returns
unfolding result_lines
returns c =
    let r = result_of c.args.res in
    let first : c.write_answer.new.out ≡ written (result_text r) c.args.out.now = unfold result_text in rw c.is_tree.ensures at c.write_answer.ensures in
    written_append (result_text r) (form_text r.form) c.args.out.now answer_length (length_result r) (omega (arith, length_form r.form, c.requires.1)) first c.write_form.ensures
