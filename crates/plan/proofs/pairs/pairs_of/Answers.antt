-- `pairs_of` meets its contract. The invariant: the first i switches are done with; the step is `one_made`, or the switch is passed by.
use Rattle.std.proofs.Common.{◌<◌, arith, length-take}
use Rattle.states.specs.Listed.{few_switches}
use Rattle.network.proofs.ArrayLengths.{buses_256}
use Rattle.plan.proofs.OpenIds.{read}
use Rattle.plan.proofs.Pairing.{passed, bytes, none_made, not_closed, pair_room, one_made, all_made}
use Rattle.plan.proofs.pairs.pairs_of.Goals as goal
use Rattle.plan.proofs.pairs.pairs_of.Goals.{then-is_closing, else-is_closing}

pub open_ids-closes-requires : goal.open_ids-closes-requires
open_ids-closes-requires c = (passed _ _ _ c.requires, (bytes _ _ _ c.requires).0)

pub open_ids-opens-requires : goal.open_ids-opens-requires
open_ids-opens-requires c = (passed _ _ _ c.requires, (bytes _ _ _ c.requires).1)

pub shared_ref_as_front-switch-items : goal.shared_ref_as_front-switch-items
shared_ref_as_front-switch-items c = omega (arith, few_switches _ (passed _ _ _ c.requires))

pub loop-switch-init : goal.loop-switch-init
loop-switch-init c = rw c.new-pairs.ensures (none_made _ _ _ c.requires)

pub bounds-opens-from : goal.bounds-opens-from
bounds-opens-from c =
    let n = c.args.network in
    let buses = buses_256 n c.well_formed.0 in
    let same = read n _ c.loop-switch.switch-index c.from.ensures c.loop-switch-test.true in
    let h : c.loop-switch.switch-index < n.switch_count = omega (arith, length-take c.from.result n.switches) in
    rw c.from-then-is_closing-2.ensures (pair_room _ _ _ c.requires _ c.loop-switch.invariant h same c.is_closing.ensures c.if-is_closing.true buses c.opening-f.ensures).1

pub pair_done-requires : goal.pair_done-requires
pair_done-requires c =
    let n = c.args.network in
    let buses = buses_256 n c.well_formed.0 in
    let same = read n _ c.loop-switch.switch-index c.from.ensures c.loop-switch-test.true in
    let h : c.loop-switch.switch-index < n.switch_count = omega (arith, length-take c.from.result n.switches) in
    pair_room _ _ _ c.requires _ c.loop-switch.invariant h same c.is_closing.ensures c.if-is_closing.true buses c.opening-f.ensures

pub loop-switch-preserved : goal.loop-switch-preserved
loop-switch-preserved c =
    let n = c.args.network in
    let buses = buses_256 n c.well_formed.0 in
    let same = read n _ c.loop-switch.switch-index c.from.ensures c.loop-switch-test.true in
    let h : c.loop-switch.switch-index < n.switch_count = omega (arith, length-take c.from.result n.switches) in
    elim c.if-is_closing.branch [
      | then-is_closing w ↦
          rw (w.stage-is, w.pair_done.ensures.1, w.from-then-is_closing.ensures, w.from-then-is_closing-2.ensures)
          (one_made _ _ _ c.requires _ c.loop-switch.invariant h same c.is_closing.ensures w.if-is_closing.true buses w.opening-f.ensures
          c.open_ids-closes.result c.open_ids-opens.result c.open_ids-closes.ensures c.open_ids-opens.ensures w.pair_done.ensures.0)
      | else-is_closing w ↦ rw w.stage-is (not_closed _ _ _ c.requires _ c.loop-switch.invariant h same c.is_closing.ensures w.if-is_closing.false)
    ]

pub returns : goal.returns
returns c = all_made _ _ _ c.requires _ c.loop-switch.invariant (omega (arith, length-take c.from.result c.args.network.switches))
