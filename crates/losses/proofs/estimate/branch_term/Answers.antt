-- `branch_term` meets its contract: it computes as `term_of` does.
use mathlib.Core.Path.{refl}
use Rattle.losses.specs.Loss.{term_of}
use Rattle.losses.proofs.estimate.branch_term.Goals as goal

pub returns : goal.returns
unfolding term_of
returns c = refl
