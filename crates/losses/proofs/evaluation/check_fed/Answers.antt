-- `check_fed` meets its contract: 11 where a supply is named and the live branches are not radial.
use Rattle.std.proofs.Common.{sym, ◌∙◌}
use Rattle.losses.proofs.FedLaws.{fed_unfit, fed_fit, unfed_fit}
use Rattle.losses.proofs.evaluation.check_fed.Goals as goal
use Rattle.losses.proofs.evaluation.check_fed.Goals.{else-is_some-via-then-is_some+else-not-is_radial, else-is_some-via-else-is_some}

pub returns-then-not-is_radial : goal.returns-then-not-is_radial
returns-then-not-is_radial c = fed_unfit _ _ (sym c.if-is_some.ensures) (sym c.if-not-is_radial.ensures)

pub returns : goal.returns
returns c =
    elim c.else-is_some.branch [
      | else-is_some-via-then-is_some+else-not-is_radial w ↦ fed_fit _ _ (sym w.is_radial.ensures ∙ w.if-not-is_radial.false)
      | else-is_some-via-else-is_some w ↦ unfed_fit _ _ (sym c.is_some.ensures ∙ w.if-is_some.false)
    ]
