-- `live_loss` meets its contract: the loss is taken of the drawn graph.
use mathlib.Core.Path.{◌∙◌}
use Rattle.losses.specs.LiveLoss.{live_loss}
use Rattle.losses.proofs.loads.live_loss.Goals as goal

pub returns : goal.returns
unfolding live_loss
returns c = c.compute_losses_estimate.ensures.0 ∙ rw c.drawn_for-drawn.ensures
