-- `round` meets its contract: the states in turn are those of the definition's round.
use Rattle.std.proofs.Common.{◌∙◌}
use Rattle.timing.specs.RoundLaws.{states_in_turn}
use Rattle.timing.proofs.rounds.round.Goals as goal

pub returns : goal.returns
returns c =
    let args = c.args in
    c.call.ensures ∙ states_in_turn _ _ args.a.now args.b.now args.i _ _ c.in_turn.ensures c.in_turn-2.ensures
