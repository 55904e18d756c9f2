-- `going_back` meets its contract. The items of the loop are the moves from the last one on.
use Rattle.std.proofs.Common.{◌≡◌, ◌<◌, ◌+◌, sym, ap, ◌∙◌, arith, length, get_or, take, rules, length-append, length-take}
use mathlib.Core.List.{[], ◌∷◌, ◌++◌, map, reverse}
use Rattle.std.proofs.lemmas.List.{take_all, length-reverse, length-map}
use Rattle.std.proofs.lemmas.Iterator.Adapters.{YieldsList-from_rev_slice}
use Rattle.std.proofs.lemmas.Iterator.Consumers.{YieldsList-turn, YieldsList-end}
use Rattle.plan.specs.SwitchLists.{listed}
use Rattle.resumption.specs.SingleMoves.{inverse, going_back}
use Rattle.resumption.proofs.Moving.{one_more}
use Rattle.resumption.proofs.moves.going_back.Goals as goal

pub loop-operation-preserved : goal.loop-operation-preserved
loop-operation-preserved c =
    let done = c.args.done.now in
    let so_far = c.loop-operation.yielded in
    let items = YieldsList-from_rev_slice {s = c.into_iter-operation-iterator.result} done (search rules) in
    let t = YieldsList-turn items so_far c.loop-operation.operation-iterator c.loop-operation.yielded_by c.next.result c.next.new.self c.in-Some.operation c.in-Some.is c.next.ensures.steps in
    let more : length (so_far ++ (c.in-Some.operation ∷ [])) ≡ length so_far + 1 = length-append so_far _ in
    let x = c.in-Some.operation.now in
    let back = listed c.loop-operation.back in
    let room : length back < 512 = omega (arith, ap length c.loop-operation.invariant, length-map (take (length so_far) (reverse done)) inverse, length-take (length so_far) (reverse done), length-reverse done, t.0, c.requires) in
    c.push.ensures.stored room ∙ ap (λ o. back ++ (o ∷ [])) (c.inverse.ensures ∙ ap inverse t.1) ∙ ap (λ l. l ++ (inverse (get_or (reverse done) (length so_far) x) ∷ [])) c.loop-operation.invariant
    ∙ one_more inverse [] (reverse done) (length so_far) x t.0 ∙ ap (λ k. map inverse (take k (reverse done))) (sym more)

pub returns : goal.returns
unfolding going_back
returns c =
    let done = c.args.done.now in
    let so_far = c.loop-operation.yielded in
    let items = YieldsList-from_rev_slice {s = c.into_iter-operation-iterator.result} done (search rules) in
    let t = YieldsList-end items so_far c.loop-operation.operation-iterator c.loop-operation.yielded_by c.next.result c.next.new.self c.in-None.is c.next.ensures.steps in
    c.loop-operation.invariant ∙ ap (map inverse) (take_all (length so_far) (reverse done) (omega (arith, t.1)))
