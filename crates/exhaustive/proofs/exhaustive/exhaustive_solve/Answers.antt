-- `exhaustive_solve` meets its contract: the feeder is made to ask for this search where it does not.
use Rattle.std.proofs.Common.{◌∙◌}
use Rattle.exhaustive.specs.AsExhaustive.{exhaustive_own, exhaustive_made}
use Rattle.exhaustive.proofs.exhaustive.exhaustive_solve.Goals as goal

pub returns-in-Exhaustive : goal.returns-in-Exhaustive
returns-in-Exhaustive c = c.solve_as_exhaustive.ensures ∙ exhaustive_own _ _ c.in-Exhaustive.is

pub returns : goal.returns
returns c = c.solve_as_exhaustive-2.ensures ∙ exhaustive_made _ _ c.as_exhaustive.ensures
