-- `write_lines` meets its contract. The step of the loop is `one_dropped` or `one_left`.
use Rattle.std.proofs.Common.{◌≡◌, ap, sym, ◌∙◌, inl, inr, arith, rules, length}
use Rattle.repairs.proofs.Dropping.{none_dropped, all_dropped, one_left, line_room, one_dropped}
use Rattle.repairs.proofs.repair.write_lines.Goals as goal

pub loop-line-init : goal.loop-line-init
loop-line-init g c = rw (c.into_iter-line-iterator.ensures.into_iter_gives, c.zip-line-items.ensures.first, c.zip-line-items.ensures.second.0) (c.requires.few, λ drops same. none_dropped drops _ _ _ _ _)

pub slice_bounds-write_dropped-count : goal.slice_bounds-write_dropped-count
slice_bounds-write_dropped-count g c =
    let (drops, same, room) = c.requires.room in
    let long = line_room drops _ _ _ _ _ (c.loop-line.invariant.1 drops same) c.in-Some.ensures.steps.1 (sym (same _ _ c.dropped.ensures) ∙ c.if-dropped.true) room c.loop-line.auto.out in
    omega (arith, long)

pub slice_bounds-write_dropped-start : goal.slice_bounds-write_dropped-start
slice_bounds-write_dropped-start g c =
    let (drops, same, room) = c.requires.room in
    let long = line_room drops _ _ _ _ _ (c.loop-line.invariant.1 drops same) c.in-Some.ensures.steps.1 (sym (same _ _ c.dropped.ensures) ∙ c.if-dropped.true) room c.loop-line.auto.out in
    search rules

pub overflow_add-end : goal.overflow_add-end
overflow_add-end g c =
    let (drops, same, room) = c.requires.room in
    let long = line_room drops _ _ _ _ _ (c.loop-line.invariant.1 drops same) c.in-Some.ensures.steps.1 (sym (same _ _ c.dropped.ensures) ∙ c.if-dropped.true) room c.loop-line.auto.out in
    search rules

pub loop-line-preserved-then-dropped : goal.loop-line-preserved-then-dropped
loop-line-preserved-then-dropped g c =
    let (first, second) = c.in-Some.ensures.steps in
    let (d0, s0, room) = c.requires.room in
    let long = line_room d0 _ _ _ _ _ (c.loop-line.invariant.1 d0 s0) second (sym (s0 _ _ c.dropped.ensures) ∙ c.if-dropped.true) room c.loop-line.auto.out in (
      omega (arith, first.0, first.1, ap length second, c.loop-line.invariant.0),
      λ drops same.
          rw (first.1, first.0) (one_dropped drops _ _ _ _ _ (c.loop-line.invariant.1 drops same) second (sym (same _ _ c.dropped.ensures) ∙ c.if-dropped.true) long (rw first.0 at c.write_dropped.ensures)),
    )

pub loop-line-preserved : goal.loop-line-preserved
loop-line-preserved g c =
    let (first, second) = c.in-Some.ensures.steps in (
      omega (arith, first.0, first.1, ap length second, c.loop-line.invariant.0),
      λ drops same. rw (first.1, first.0) (one_left drops _ _ _ _ _ (c.loop-line.invariant.1 drops same) second (sym (same _ _ c.dropped.ensures) ∙ c.if-dropped.false)),
    )

pub returns : goal.returns
returns g c drops same =
    let none : length c.loop-line.line-iterator.b.rest.now ≡ 0 =
    elim c.in-None.ensures.steps [ inl h ↦ omega (arith, h.1.0, c.loop-line.invariant.0) | inr h ↦ h.1.0 ] in
    all_dropped drops _ _ _ _ _ _ (c.loop-line.invariant.1 drops same) none
