-- `ways_of` meets its contract. The invariant: the visits so far are noted; the step is `one_noted`.
use Rattle.std.proofs.Common.{arith, rules, ◌∙◌, ◌≡◌, ◌+◌, [], ◌∷◌, ◌++◌, length, take, length-append}
use Rattle.std.proofs.lemmas.Slice.Zip.{zip_turn, zip_end}
use Rattle.paths.proofs.Noting.{none_noted, one_noted, all_noted}
use Rattle.paths.proofs.path.ways_of.Goals as goal

pub loop-x-init : goal.loop-x-init
loop-x-init c o w = none_noted

pub loop-x-preserved : goal.loop-x-preserved
loop-x-preserved c o w =
    let n = c.from-n.result in
    let walk = c.args.walk.now in
    let so_far = c.loop-x.yielded in
    let t = zip_turn (take n walk.bus) (take n walk.by) so_far c.into_iter-x-iterator.result c.loop-x.x-iterator c.next.new.self c.next.result (search rules) (search rules) c.loop-x.yielded_by _ c.in-Some.is c.next.ensures.steps in
    let more : length (so_far ++ ((c.in-Some.x, c.in-Some.k) ∷ [])) ≡ length so_far + 1 = length-append so_far _ in
    rw (more, c.or.ensures, c.from-at.ensures, c.loop-x.invariant o w)
    (one_noted o walk w n c.from-n.ensures (length so_far) t.0 (omega arith) (t.2 0) (t.3 0))

pub returns : goal.returns
returns c o w =
    let n = c.from-n.result in
    let walk = c.args.walk.now in
    let so_far = c.loop-x.yielded in
    let t = zip_end (take n walk.bus) (take n walk.by) so_far c.into_iter-x-iterator.result c.loop-x.x-iterator c.next.new.self c.next.result (search rules) (search rules) c.loop-x.yielded_by c.in-None.is c.next.ensures.steps in
    c.loop-x.invariant o w ∙ all_noted o walk w n c.from-n.ensures (length so_far) t (search rules) (search rules) (omega arith)
