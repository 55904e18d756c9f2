-- The rows of as many ids as there are: `none_listed` in front of the loop, `one_listed` at its step, `all_listed` behind it.
use mathlib.Core.Path.{◌≡◌, refl}
use lib.ListN.{length}
use native.Mathlib.Omega.{arith}
use borrow.Author.Rules.{rules}
use Rattle.network.specs.Limits.{bus_id}
use Rattle.network.specs.ReadLaws.{past_bus}
use Rattle.ids.specs.IdLaws.{none_listed, one_listed, all_listed}
use Rattle.ids.proofs.rows.bus_rows.Goals as goal

pub loop-at-init : goal.loop-at-init
loop-at-init c = rw c.new-rows.ensures (none_listed bus_id past_bus refl _ _)

pub loop-at-preserved : goal.loop-at-preserved
loop-at-preserved c =
    rw (c.put.ensures.stored (omega arith)) (one_listed bus_id past_bus refl _ _ _ _ c.loop-at.invariant (omega arith) (omega arith))

pub returns : goal.returns
returns c =
    let sized : length c.args.buses ≡ 256 = search rules in
    let done : c.loop-at.at ≡ 0 = omega arith in
    all_listed bus_id past_bus refl _ _ _ _ 256 sized c.at_most-n.ensures (rw done at c.loop-at.invariant)
