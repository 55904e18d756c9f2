-- `write_pairs` meets its contract. The invariant: the lines of the first i pairs have been written; the step is `line_written`.
use Rattle.std.proofs.Common.{ap, arith, rules, ◌≤◌, ◌+◌, length}
use Rattle.plan.proofs.Lines.{no_lines, same_room, line_room, line_written, lines_all}
use Rattle.plan.proofs.planner.write_pairs.Goals as goal

pub loop-pair-init : goal.loop-pair-init
loop-pair-init c = no_lines c.args.pairs.now _

pub slice_bounds-write_pair-count : goal.slice_bounds-write_pair-count
slice_bounds-write_pair-count c = omega (arith, line_room c.args.pairs.now c.loop-pair.invariant c.requires c.loop-pair-test.true)

pub slice_bounds-write_pair-start : goal.slice_bounds-write_pair-start
slice_bounds-write_pair-start c = omega (arith, line_room c.args.pairs.now c.loop-pair.invariant c.requires c.loop-pair-test.true)

pub overflow_add-at : goal.overflow_add-at
overflow_add-at c =
    let fit = line_room c.args.pairs.now c.loop-pair.invariant c.requires c.loop-pair-test.true in
    let within : c.loop-pair.at + c.pair_length-at.result ≤ length c.args.out.now =
    omega (arith, fit, c.pair_length-at.ensures.0, same_room c.args.pairs.now c.loop-pair.invariant) in
    search rules

pub loop-pair-preserved : goal.loop-pair-preserved
loop-pair-preserved c = line_written c.args.pairs.now c.loop-pair.invariant c.requires c.loop-pair-test.true (ap (λ k. c.loop-pair.at + k) c.pair_length-at.ensures.0) c.write_pair.ensures

pub returns : goal.returns
returns c = lines_all c.args.pairs.now c.loop-pair.invariant c.loop-pair-test.false
