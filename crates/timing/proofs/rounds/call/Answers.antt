-- `call` meets its contract: each kind of call, on the records of the text.
use Rattle.std.proofs.Common.{ap, ◌∙◌, rules}
use Rattle.timing.specs.Rounds.{value_of}
use Rattle.timing.specs.RoundLaws.{asked_reading, asked_radiality, asked_loss, asked_pairs, asked_nothing}
use Rattle.timing.proofs.rounds.call.Goals as goal

pub returns-in-0 : goal.returns-in-0
returns-in-0 c = c.reading.ensures ∙ ap value_of (asked_reading _ _ _ _ c.in-0.is)

pub returns-in-1 : goal.returns-in-1
returns-in-1 c = c.radiality.ensures ∙ ap value_of (asked_radiality _ _ _ _ _ c.in-1.is c.requires)

pub returns-in-2 : goal.returns-in-2
returns-in-2 c = c.loss.ensures ∙ ap value_of (asked_loss _ _ _ _ _ c.in-2.is c.requires)

pub returns-in-3 : goal.returns-in-3
returns-in-3 c = c.pairs.ensures ∙ ap value_of (asked_pairs _ _ _ _ _ c.in-3.is c.requires)

pub returns-in_default : goal.returns-in_default
returns-in_default c = ap value_of (asked_nothing _ _ _ _ (search rules) (search rules) (search rules) (search rules))
