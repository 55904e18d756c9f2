-- `write_digits` meets its contract: the invariant is that the digits of `rest`, put at the front of `out`, would make the whole.
use Rattle.slices.proofs.Remaining.{digits_short, all_remain, digit_stored, none_remain}
use Rattle.slices.proofs.writer.write_digits.Goals as goal

pub returns-then-out-width : goal.returns-then-out-width
returns-then-out-width c = digits_short _ _ _ c.if-out-width.true

pub loop-i-init : goal.loop-i-init
loop-i-init c = all_remain c.if-out-width.false

pub loop-i-preserved : goal.loop-i-preserved
loop-i-preserved c = digit_stored _ _ c.loop-i.invariant c.loop-i-test.true c.digit.ensures

pub returns : goal.returns
returns c = none_remain _ c.loop-i.invariant c.loop-i-test.false c.if-out-width.false
