-- `compute_switch_operations` meets its contract: it is refused, has no room, or writes the lines of the operations.
use Rattle.std.proofs.Common.{arith}
use Rattle.network.specs.AnswerLaws.{accepted_so}
use Rattle.operations.specs.OperationAnswers.{not_listed, stated, few, lines_fit, no_room, all_listed}
use Rattle.operations.proofs.operations.compute_switch_operations.Goals as goal

pub returns-in_err-check_states : goal.returns-in_err-check_states
returns-in_err-check_states c = not_listed c.args.network c.args.from.now c.args.to.now _ _ c.from_residual.ensures.1 c.in_err-check_states.was c.check_states.ensures

pub overflow_mul-count : goal.overflow_mul-count
overflow_mul-count c = omega (arith, few c.args.network c.args.from.now c.args.to.now (accepted_so c.in_ok-check_states.was c.check_states.ensures) _ c.count_differences-count.ensures)

pub returns-then-out-count : goal.returns-then-out-count
returns-then-out-count c = no_room _ _ _ (accepted_so c.in_ok-check_states.was c.check_states.ensures) _ c.count_differences-count.ensures _ c.if-out-count.true

pub write_operations-requires : goal.write_operations-requires
write_operations-requires c = (
  stated _ _ _ (accepted_so c.in_ok-check_states.was c.check_states.ensures),
  lines_fit _ _ _ (accepted_so c.in_ok-check_states.was c.check_states.ensures) _ c.count_differences-count.ensures _ c.if-out-count.false,
)

pub overflow_cast-result : goal.overflow_cast-result
overflow_cast-result c = omega (arith, few c.args.network c.args.from.now c.args.to.now (accepted_so c.in_ok-check_states.was c.check_states.ensures) _ c.count_differences-count.ensures)

pub returns : goal.returns
returns c = all_listed _ _ _ (accepted_so c.in_ok-check_states.was c.check_states.ensures) _ c.count_differences-count.ensures _ c.if-out-count.false c.write_operations.ensures
