-- `search` meets its contract: what is found counts by its bits, and no best loss is a NaN.
use Rattle.std.specs.Float.Ieee.{binary64, to_bits}
use Rattle.std.proofs.Common.{ap}
use Rattle.network.specs.Answers.{valued}
use Rattle.printing.specs.Calls.{Call}
use Rattle.searches.specs.Results.{Result}
use Rattle.timing.specs.Rounds.{value_of, search_value}
use Rattle.timing.specs.RoundLaws.{search_no_nan}
use Rattle.timing.proofs.values.search.Goals as goal

pub returns-in_default : goal.returns-in_default
unfolding search_value
returns-in_default c = ap (λ (p : Call Result). value_of (valued (λ (r : Result). to_bits binary64 r.best_loss) p.answer)) c.in_default.ensures

pub float_to_bits-result : goal.float_to_bits-result
float_to_bits-result c = search_no_nan _ _ _ (ap (λ (p : Call Result). p.answer) c.in-Ok.ensures)

pub returns : goal.returns
unfolding search_value
returns c = ap (λ (p : Call Result). value_of (valued (λ (r : Result). to_bits binary64 r.best_loss) p.answer)) c.in-Ok.ensures
