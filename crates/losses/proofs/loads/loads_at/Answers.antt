-- `loads_at` meets its contract: the first i loads are those of the buses, the others still 0.0.
use mathlib.Core.Path.{◌≡◌, ◌∙◌}
use native.Mathlib.Omega.{arith}
use lib.ListN.{length}
use borrow.Author.Rules.{rules}
use Rattle.numbers.specs.TableLaws.{replicate_table, filled_none, filled_more, filled_all}
use Rattle.network.specs.ReadLaws.{bus_read}
use Rattle.losses.specs.ListLoss.{no_power}
use Rattle.losses.proofs.loads.loads_at.Goals as goal

pub loop-i-init : goal.loop-i-init
loop-i-init c = (omega arith, replicate_table no_power 256 ∙ filled_none _ no_power 256)

pub loop-i-preserved : goal.loop-i-preserved
loop-i-preserved c =
    let sized : length c.args.buses ≡ 256 = search rules in
    let read = bus_read c.args.buses c.loop-i.i sized (search rules) in
    (search rules, rw (read, c.loop-i.invariant.1) (filled_more _ no_power 256 c.loop-i.i (search rules)))

pub returns : goal.returns
returns c = c.loop-i.invariant.1 ∙ filled_all _ no_power 256 c.loop-i.i (λ j h l. absurd (omega arith))
