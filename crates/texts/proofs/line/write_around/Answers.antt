-- `write_around` meets its contract: the slice is too short for the line, or its pieces are written one behind the other.
use Rattle.std.proofs.Common.{◌∙◌, rules}
use Rattle.texts.specs.LineLaws.{around_short, around_written}
use Rattle.texts.proofs.line.write_around.Goals as goal

pub returns-then-out-end : goal.returns-then-out-end
returns-then-out-end c = around_short _ _ _ _ _ _ c.from-float.ensures c.from.ensures c.if-out-end.true

pub returns : goal.returns
returns c =
    around_written _ _ _ _ _ _ (search rules) (rw c.from.ensures at c.if-out-end.false) c.write_digits.ensures c.write_digits-2.ensures c.write_line.ensures
    ∙ rw c.from-float.ensures
