-- `leading` meets its contract: what is passed are digits. A value below 9,999,999 takes one digit more and stays small.
use Rattle.cases.proofs.Laws.{no_digit, large_number, digit_read, line_read}
use Rattle.cases.proofs.leading.Goals as goal

pub returns-in_default : goal.returns-in_default
returns-in_default c = no_digit c.loop-digits.invariant c.loop-digits-test.true c.in_default.ensures

pub returns-then-value-ge9999999 : goal.returns-then-value-ge9999999
returns-then-value-ge9999999 c = large_number c.loop-digits.invariant c.loop-digits-test.true c.if-value-ge9999999.true

pub loop-digits-preserved : goal.loop-digits-preserved
loop-digits-preserved c =
    rw c.from.ensures (digit_read c.loop-digits.invariant _ c.loop-digits-test.true c.in-Some.ensures c.if-value-ge9999999.false)

pub returns : goal.returns
returns c = line_read c.loop-digits.invariant c.loop-digits-test.false
