-- `read_lines` meets its contract: the invariant is `Reached`, the pass over the first `i` lines with their records in front.
use Rattle.std.proofs.Common.{refl, ap, ◌∙◌, rules}
use Rattle.network.specs.Answers.{answer_of}
use Rattle.std.proofs.lemmas.List.{set-get_or}
use Rattle.frames.proofs.LoopLaws.{none_reached, line_room, line_reached, line_stops}
use Rattle.frames.proofs.StoreLaws.{one_in_front}
use Rattle.frames.proofs.pass.read_lines.Goals as goal

pub loop-i-init : goal.loop-i-init
loop-i-init g c = let R = g.R.Record in none_reached R.frame R.made R.faults _ _ _ _ c.requires.0 refl

pub returns-in-Err : goal.returns-in-Err
returns-in-Err g c =
    let R = g.R.Record in
    let stops = line_stops R.frame R.made R.faults _ _ _ _ c.loop-i.invariant _ c.read_line.ensures _ c.loop-i-test.true (ap answer_of c.in-Err.is) in
    rw set-get_or (record { lines = stops.0; count = stops.1 })

pub overflow_add-at : goal.overflow_add-at
overflow_add-at g c =
    let R = g.R.Record in
    let room = line_room R.frame R.made R.faults _ _ _ _ c.loop-i.invariant _ c.read_line.ensures (ap answer_of c.in-Ok.is) _ (c.SIZE.ensures ∙ g.met.R.Record.of_size) in
    search rules

pub overflow_add-at-in-loop-i : goal.overflow_add-at-in-loop-i
overflow_add-at-in-loop-i g c =
    let R = g.R.Record in
    let room = line_room R.frame R.made R.faults _ _ _ _ c.loop-i.invariant _ c.read_line.ensures (ap answer_of c.in-Ok.is) _ (c.SIZE.ensures ∙ g.met.R.Record.of_size) in
    search rules

pub loop-i-preserved : goal.loop-i-preserved
loop-i-preserved g c =
    let R = g.R.Record in
    let reached = c.loop-i.invariant in
    line_reached R.frame R.made R.faults _ _ _ _ reached _ c.read_line.ensures (ap answer_of c.in-Ok.is) _ (c.SIZE.ensures ∙ g.met.R.Record.of_size)
    (rw reached.stored (one_in_front c.args.out.now reached.records c.in-Ok.record c.loop-i.i reached.many c.loop-i-test.true))
