-- `first_unwanted` meets its contract: a branch that is wanted is passed over, the first that is not is found.
use Rattle.std.proofs.Common.{◌∙◌, sym, drop_of_length-le}
use Rattle.numbers.specs.Choose.{first_of}
use Rattle.openings.proofs.Unwanted.{one_wanted, one_unwanted}
use Rattle.openings.proofs.opening.first_unwanted.Goals as goal

pub returns-then-not-flagged : goal.returns-then-not-flagged
returns-then-not-flagged c = sym (c.loop-k.invariant ∙ one_unwanted _ _ _ c.loop-k-test.true (sym c.flagged.ensures ∙ c.if-not-flagged.true))

pub loop-k-preserved : goal.loop-k-preserved
loop-k-preserved c = c.loop-k.invariant ∙ one_wanted _ _ _ c.loop-k-test.true (sym c.flagged.ensures ∙ c.if-not-flagged.false)

pub returns : goal.returns
unfolding first_of
returns c = sym (rw (drop_of_length-le c.args.path.now {i = c.loop-k.k-index} c.loop-k-test.false) at c.loop-k.invariant)
