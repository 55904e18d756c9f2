-- `megawatts` meets its contract: the first i numbers are those of the loads, the others still 0.0.
use mathlib.Core.Path.{◌≡◌, ◌∙◌}
use Prim.Native.Nat.{◌<◌}
use native.Mathlib.Omega.{arith}
use lib.ListN.{length}
use borrow.Author.Rules.{rules}
use Rattle.numbers.specs.Constants.{zero64}
use Rattle.numbers.specs.TableLaws.{replicate_table, filled_none, filled_more, filled_all}
use Rattle.losses.proofs.Laws.{load_inside, all_megawatts}
use Rattle.losses.proofs.estimate.megawatts.Goals as goal

pub loop-i-init : goal.loop-i-init
loop-i-init c = (omega arith, replicate_table zero64 256 ∙ filled_none _ zero64 256)

pub loop-i-preserved : goal.loop-i-preserved
loop-i-preserved c =
    let loads = c.args.loads in
    let long : length loads ≡ 256 = search rules in
    let inside : c.loop-i.i < length loads = omega arith in
    (omega arith, rw (load_inside loads c.loop-i.i _ inside, c.loop-i.invariant.1) (filled_more _ zero64 256 c.loop-i.i (omega arith)))

pub returns : goal.returns
returns c =
    let loads = c.args.loads in
    let long : length loads ≡ 256 = search rules in
    c.loop-i.invariant.1 ∙ filled_all _ zero64 256 c.loop-i.i (λ j h l. absurd (omega arith)) ∙ all_megawatts loads long
