-- `places_of` meets its contract: the buses from `place` on have their places; the step is `one_placed`.
use Rattle.std.proofs.Common.{◌≡◌, ◌<◌, ◌+◌, ◌-◌, sym, ◌∙◌, arith, rules, length, get_or, take, length-take, get_or-take}
use Rattle.drawing.proofs.Placing.{none_placed, one_placed, all_placed}
use Rattle.drawing.proofs.drawing.places_of.Goals as goal

pub loop-place-init : goal.loop-place-init
loop-place-init c =
    let w = c.args.walk.now in
    let full : length w.bus ≡ 256 = search rules in
    none_placed (take w.count w.bus) _ (omega (arith, length-take w.count w.bus))

pub loop-place-preserved : goal.loop-place-preserved
loop-place-preserved c =
    let w = c.args.walk.now in
    let order = take w.count w.bus in
    let at = c.loop-place.place - 1 in
    let full : length w.bus ≡ 256 = search rules in
    let after : c.loop-place.place ≡ at + 1 = omega arith in
    let inside : at < length order = omega (arith, length-take w.count w.bus) in
    let small : c.from-in-loop-place.result < 256 = search rules in
    let read : get_or order at 0 ≡ c.from-in-loop-place.result = get_or-take w.count w.bus at 0 (omega arith) ∙ sym c.from-in-loop-place.ensures in
    rw c.loop-place.invariant (one_placed order at _ after inside read small)

pub returns : goal.returns
returns c =
    let none : c.loop-place.place ≡ 0 = omega arith in
    c.loop-place.invariant ∙ rw none (all_placed _)
