-- `position_of` meets its contract. The invariant: what is left of the row gives the position; the step is `sought_one`.
use Rattle.ids.specs.IdLaws.{seek_starts, none_found, found_here, sought_one, all_sought}
use Rattle.ids.proofs.rows.IdRows.position_of.Goals as goal

pub row-init : goal.row-init
row-init c = seek_starts _ _ _ _ _ _ _ c.bucket.ensures.0 c.from-at.ensures

pub returns-then-at-ge-MAX_IDS : goal.returns-then-at-ge-MAX_IDS
returns-then-at-ge-MAX_IDS c = none_found _ _ _ _ _ c.row.invariant c.if-at-ge-MAX_IDS.true

pub returns-then-self-at : goal.returns-then-self-at
returns-then-self-at c = found_here _ _ _ _ _ c.row.invariant c.row-test.true c.if-at-ge-MAX_IDS.false c.if-self-at.true

pub row-preserved : goal.row-preserved
row-preserved c = sought_one _ _ _ _ _ c.row.invariant c.row-test.true c.if-at-ge-MAX_IDS.false _ c.if-self-at.false c.from-at-in-row.ensures

pub returns : goal.returns
returns c = all_sought _ _ _ _ _ c.row.invariant c.row-test.false
