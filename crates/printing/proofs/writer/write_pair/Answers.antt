-- `write_pair` meets its contract: the slice is too short for the line, or its pieces are written one behind the other.
use native.Mathlib.Omega.{arith}
use Rattle.printing.proofs.PairPieces.{pair_short, pair_written}
use Rattle.printing.proofs.writer.write_pair.Goals as goal

pub returns-then-out-width : goal.returns-then-out-width
returns-then-out-width c = pair_short _ _ _ _ _ _ c.id_digits-closed.ensures c.id_digits-opened.ensures _ (omega (arith, c.if-out-width.true, c.from-width.ensures, c.from.ensures))

pub returns : goal.returns
returns c =
    let closed = c.from-width.ensures in
    pair_written _ _ c.from-width.result _ _ _ (rw closed c.id_digits-closed.ensures) c.id_digits-opened.ensures _ (omega (arith, c.if-out-width.false, c.from.ensures))
    c.write_digits.ensures
    c.write_digits-2.ensures
    c.write_line.ensures
