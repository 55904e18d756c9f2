-- `live_lists` meets its contract: after u turns the array has the lists of the first u buses, and a turn is `one_rowed`.
use Rattle.std.proofs.Common.{arith, rules, ◌≡◌, ◌<◌, length, length-take, get_or-take}
use Rattle.lists.proofs.Listing.{none_rowed, one_rowed, all_rowed}
use Rattle.lists.proofs.lists.live_lists.Goals as goal

pub loop-u-init : goal.loop-u-init
loop-u-init c = none_rowed _ _ _ _

pub loop-u-preserved : goal.loop-u-preserved
loop-u-preserved c =
    let u = c.loop-u.u in
    let n = c.min-n.result in
    let first = c.args.graph.first in
    let short : u < n = omega (arith, length-take n first) in
    one_rowed _ _ _ _ c.loop-u.invariant (omega arith) (rw (get_or-take n first u 0 short) at c.list_row.ensures)

pub returns : goal.returns
returns c =
    let long : length c.args.graph.first ≡ 256 = search rules in
    all_rowed _ _ c.loop-u.invariant (omega (arith, length-take c.min-n.result c.args.graph.first))
