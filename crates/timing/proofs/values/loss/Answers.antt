-- `loss` meets its contract: no loss is a NaN.
use Rattle.controller.specs.CallLaws.{loss_no_nan}
use Rattle.timing.proofs.values.loss.Goals as goal

pub float_to_bits-result : goal.float_to_bits-result
float_to_bits-result c = loss_no_nan _ _ _ c.in-Ok.ensures
