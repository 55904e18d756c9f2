-- `number` meets its contract: the invariant is that `n` is the number of the digits passed.
use Rattle.std.proofs.Common.{arith}
use Rattle.lines.proofs.DigitLaws.{none_read, read_room, digit_read, all_read}
use Rattle.lines.proofs.hex.number.Goals as goal

pub loop-c-init : goal.loop-c-init
loop-c-init c = none_read _

pub overflow_mul-n : goal.overflow_mul-n
overflow_mul-n c = omega (arith, read_room _ c.loop-c.invariant 15 (omega arith))

pub overflow_add-n : goal.overflow_add-n
overflow_add-n c =
    let r = digit_read _ c.loop-c.invariant (omega arith) c.value.ensures in
    omega (arith, read_room _ r 16 (omega arith))

pub loop-c-preserved : goal.loop-c-preserved
loop-c-preserved c = digit_read _ c.loop-c.invariant (omega arith) c.value.ensures

pub returns : goal.returns
returns c = all_read _ c.loop-c.invariant (omega arith)
