-- `write_losses` meets its contract: three numbers, each behind the one before it.
use mathlib.Core.Path.{ap, ◌∙◌}
use Prim.Native.Nat.{ℕ, ◌+◌, ◌%◌, ◌^◌}
use native.Mathlib.Omega.{arith}
use Rattle.lines.specs.HexLaws.{length_digits}
use Rattle.printing.specs.FrameNumbers.{three_written}
use Rattle.printing.proofs.AnswerPieces.{three_numbers}
use borrow.Author.Rules.{rules}
use Rattle.printing.proofs.writer.write_losses.Goals as goal

pub returns : goal.returns
returns c =
    three_written _ _ _ _ 16 32 (length_digits 16 _) (ap (λ (k : ℕ). 16 + k) (length_digits 16 _)) (omega (arith, c.requires, length_digits 16 (c.args.reduction % 16 ^ 16))) c.write_digits.ensures
    c.write_digits-2.ensures
    c.write_digits-3.ensures
    ∙ rw (three_numbers c.args.base c.args.best c.args.reduction (search rules) (search rules) (search rules))
