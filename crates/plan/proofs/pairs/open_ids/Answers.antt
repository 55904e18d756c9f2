-- `open_ids` meets its contract. The invariant: the ids of the first i switches are noted; the step is `open_noted`, or the switch is passed by.
use Rattle.std.proofs.Common.{◌<◌, arith, length-take}
use Rattle.states.specs.Listed.{few_switches}
use Rattle.plan.proofs.OpenIds.{read, none_noted, closed_noted, small, room, open_noted, all_noted}
use Rattle.plan.proofs.pairs.open_ids.Goals as goal
use Rattle.plan.proofs.pairs.open_ids.Goals.{then-state-i-eq-OPEN, else-state-i-eq-OPEN}

pub shared_ref_as_front-switches : goal.shared_ref_as_front-switches
shared_ref_as_front-switches c = omega (arith, few_switches _ c.requires.0)

pub loop-i-init : goal.loop-i-init
loop-i-init c = rw c.new-ids.ensures (none_noted _ _)

pub bounds-ids-on : goal.bounds-ids-on
bounds-ids-on c =
    let n = c.args.network.now in
    let same = read n _ c.loop-i.i c.from.ensures c.loop-i-test.true in
    let h : c.loop-i.i < n.switch_count = omega (arith, length-take c.from.result n.switches) in
    small _ _ c.loop-i.invariant h _ same c.if-state-i-eq-OPEN.true c.requires.0 c.from-on.ensures

pub with_id-requires : goal.with_id-requires
with_id-requires c =
    let n = c.args.network.now in
    let same = read n _ c.loop-i.i c.from.ensures c.loop-i-test.true in
    let h : c.loop-i.i < n.switch_count = omega (arith, length-take c.from.result n.switches) in
    room _ _ c.loop-i.invariant h _ same c.if-state-i-eq-OPEN.true c.requires.0 c.from-on.ensures

pub bounds-ids-on-then-state-i-eq-OPEN : goal.bounds-ids-on-then-state-i-eq-OPEN
bounds-ids-on-then-state-i-eq-OPEN c =
    let n = c.args.network.now in
    let same = read n _ c.loop-i.i c.from.ensures c.loop-i-test.true in
    let h : c.loop-i.i < n.switch_count = omega (arith, length-take c.from.result n.switches) in
    small _ _ c.loop-i.invariant h _ same c.if-state-i-eq-OPEN.true c.requires.0 c.from-on.ensures

pub loop-i-preserved : goal.loop-i-preserved
loop-i-preserved c =
    let n = c.args.network.now in
    let same = read n _ c.loop-i.i c.from.ensures c.loop-i-test.true in
    let h : c.loop-i.i < n.switch_count = omega (arith, length-take c.from.result n.switches) in
    elim c.if-state-i-eq-OPEN.branch [
      | then-state-i-eq-OPEN w ↦ rw w.ids-is (open_noted _ _ c.loop-i.invariant h _ same w.if-state-i-eq-OPEN.true c.requires.0 w.from-on.ensures _ w.with_id.ensures.0 w.with_id.ensures.1)
      | else-state-i-eq-OPEN w ↦ rw w.ids-is (closed_noted _ _ c.loop-i.invariant h w.if-state-i-eq-OPEN.false)
    ]

pub returns : goal.returns
returns c = λ k l. all_noted _ _ c.loop-i.invariant (omega (arith, length-take c.from.result c.args.network.now.switches)) k l
