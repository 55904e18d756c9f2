-- `write_frames` meets its contract. The invariant: what the first i bytes make is written up to `at`.
use mathlib.Core.Path.{refl, ap, ◌∙◌}
use Prim.Native.Nat.{◌-◌}
use native.Mathlib.Omega.{arith}
use lib.ListN.{length, get_or}
use lib.Seq.{length-sets}
use borrow.Author.Rules.{rules}
use Rattle.record_bytes.specs.RecordSteps.{line_some}
use Rattle.record_bytes.specs.RecordCalls.{made_none, made_more, made_all, made_enough}
use Rattle.record_bytes.proofs.records.write_frames.Goals as goal

pub loop-i-init : goal.loop-i-init
loop-i-init c = (refl, made_none _ _)

pub returns-then-at-ge-DECIDING_LENGTH : goal.returns-then-at-ge-DECIDING_LENGTH
returns-then-at-ge-DECIDING_LENGTH c = made_enough _ _ _ _ _ c.loop-i.invariant.1 c.if-at-ge-DECIDING_LENGTH.true

pub overflow_sub-left : goal.overflow_sub-left
overflow_sub-left c = omega (arith, c.line_bytes-left.ensures, line_some c.loop-i.left (get_or c.args.records.now c.loop-i.i 0) (length c.args.records.now - c.loop-i.i) (omega arith))

pub loop-i-preserved : goal.loop-i-preserved
loop-i-preserved c = (ap length c.write_byte-at.ensures.0 ∙ simp length-sets c.loop-i.invariant.0, made_more _ _ _ _ _ c.loop-i.invariant.1 (search rules) (search rules) c.line_bytes-left.ensures c.write_byte-at.ensures.0 c.write_byte-at.ensures.1)

pub returns : goal.returns
returns c = made_all _ _ _ _ _ c.loop-i.invariant.1 c.loop-i-test.false
