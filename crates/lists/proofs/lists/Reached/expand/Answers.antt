-- `expand` meets its contract. The invariant: the buses of the list so far are entered; the step is `one_entered`.
use Rattle.lists.proofs.Listing.{none_entered, one_entered, all_entered}
use Rattle.lists.proofs.lists.Reached.expand.Goals as goal

pub loop-i-init : goal.loop-i-init
loop-i-init c barred = none_entered _ _ _ barred _

pub enter-requires : goal.enter-requires
enter-requires c =
    let s = c.requires in
    (s.0, _, (c.loop-i.invariant s.0).done s.1 s.2)

pub loop-i-preserved : goal.loop-i-preserved
loop-i-preserved c barred = one_entered _ _ _ barred _ (c.loop-i.invariant barred) c.loop-i.auto.i c.loop-i-test.true (c.enter.ensures barred)

pub returns : goal.returns
returns c barred =
    all_entered _ _ _ barred _ (c.loop-i.invariant barred) c.loop-i.auto.i _ _ _ _ c.from-row.ensures c.from-from.ensures c.from.ensures c.min-to.ensures c.loop-i-test.false
