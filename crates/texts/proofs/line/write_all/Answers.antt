-- `write_all` meets its contract: the invariant is that the lines of the records passed are written.
use Rattle.std.proofs.Common.{ap, sym, subst, ◌∙◌, ◌+◌, arith, rules}
use Rattle.network.specs.EachLaws.{each_at}
use Rattle.texts.proofs.Writing.{no_lines, all_lines, line_room, line_more}
use Rattle.texts.proofs.line.write_all.Goals as goal

pub loop-record-init : goal.loop-record-init
loop-record-init g c = no_lines g.R.Line.text c.args.records.now c.args.out.now c.args.at

pub slice_bounds-write-count : goal.slice_bounds-write-count
slice_bounds-write-count g c =
    let room = line_room g.R.Line.text c.args.records.now c.args.out.now c.args.at c.loop-record.invariant c.loop-record-test.true _ c.record-item.is c.requires.1 c.loop-record.auto.out in
    omega (arith, room)

pub slice_bounds-write-start : goal.slice_bounds-write-start
slice_bounds-write-start g c =
    let room = line_room g.R.Line.text c.args.records.now c.args.out.now c.args.at c.loop-record.invariant c.loop-record-test.true _ c.record-item.is c.requires.1 c.loop-record.auto.out in
    search rules

pub write-requires : goal.write-requires
write-requires g c =
    let bits = each_at g.R.Line.has_bits c.args.records.now c.requires.0 c.loop-record.record-index c.record-item.result c.loop-record-test.true in
    subst g.R.Line.has_bits (sym c.record-item.is) bits

pub overflow_add-end : goal.overflow_add-end
overflow_add-end g c =
    let room = line_room g.R.Line.text c.args.records.now c.args.out.now c.args.at c.loop-record.invariant c.loop-record-test.true _ c.record-item.is c.requires.1 c.loop-record.auto.out in
    let long = ap (λ n. n + 1) c.SIZE.ensures ∙ sym (g.met.R.Line.long c.record-item.result) in
    search rules

pub overflow_add-end-in-loop-record : goal.overflow_add-end-in-loop-record
overflow_add-end-in-loop-record g c =
    let room = line_room g.R.Line.text c.args.records.now c.args.out.now c.args.at c.loop-record.invariant c.loop-record-test.true _ c.record-item.is c.requires.1 c.loop-record.auto.out in
    let long = ap (λ n. n + 1) c.SIZE.ensures ∙ sym (g.met.R.Line.long c.record-item.result) in
    search rules

pub loop-record-preserved : goal.loop-record-preserved
loop-record-preserved g c =
    let long = ap (λ n. n + 1) c.SIZE.ensures ∙ sym (g.met.R.Line.long c.record-item.result) in
    line_more g.R.Line.text c.args.records.now c.args.out.now c.args.at c.loop-record.invariant c.loop-record-test.true _ c.record-item.is c.requires.1 c.loop-record.auto.out {part = c.write.new.out} long c.write.ensures

pub returns : goal.returns
returns g c = all_lines g.R.Line.text c.args.records.now c.args.out.now c.args.at c.loop-record.invariant (omega arith)
