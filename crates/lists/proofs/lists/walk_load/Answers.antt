-- `walk_load` meets its contract. The invariant: the arrays hold the visits after as many turns as buses had theirs, and the loads of those buses are added.
-- The step is `turned` and `load_more`.
use Rattle.std.proofs.Common.{refl, ap, ◌∙◌, ℕ, get_or, arith}
use Rattle.lists.proofs.Reaches.{load_none, load_more, none_turned_yet, reaching, few_reached, turned, same_load, buses_stay}
use Rattle.lists.proofs.lists.walk_load.Goals as goal

pub loop-head-init : goal.loop-head-init
loop-head-init c = record {
  within = omega arith;
  turned = none_turned_yet _ _ _ _ _ c.from.ensures (omega arith) c.from-2.ensures (omega arith);
  loaded = load_none _ _;
}

pub bounds-reached-from-in-loop-head : goal.bounds-reached-from-in-loop-head
bounds-reached-from-in-loop-head c = omega (arith, few_reached _ _ _ c.loop-head.invariant.turned)

pub expand-requires : goal.expand-requires
expand-requires c = (_, _, reaching _ _ _ c.loop-head.invariant.turned)

pub loop-head-smaller : goal.loop-head-smaller
loop-head-smaller c = omega (arith, few_reached _ _ _ c.loop-head.invariant.turned)

pub loop-head-preserved : goal.loop-head-preserved
loop-head-preserved c =
    let inv = c.loop-head.invariant in
    let w = reaching _ _ _ inv.turned in
    let stay = buses_stay _ _ _ w (c.expand.ensures _ _ w) in
    let longer = stay.0 in
    record {
      within = omega arith;
      turned = turned _ _ _ inv.turned _ _ c.from-in-loop-head.ensures refl c.loop-head-test.true c.expand.ensures;
      loaded = load_more _ _ _ _ _ _ inv.loaded (c.from-in-loop-head-2.ensures ∙ ap (λ (h : ℕ). get_or c.loop-head.reached.bus h 0) c.from-in-loop-head.ensures) (λ i l. stay.1 i (omega arith));
    }

pub returns : goal.returns
returns c =
    let inv = c.loop-head.invariant in
    same_load _ _ _ inv.turned _ _ inv.within c.loop-head-test.false inv.loaded
