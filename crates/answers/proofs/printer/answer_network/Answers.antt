-- `answer_network` meets its contract: the lines are made in memory of the call's own, which is long enough, and copied where the slice is.
use Rattle.std.proofs.Common.{length, ap, ◌∙◌, arith, rules}
use Rattle.std.proofs.Math.ListN.{length-take}
use Rattle.slices.specs.WrittenLaws.{length_written}
use Rattle.answers.specs.PrintingLaws.{network_short}
use Rattle.answers.proofs.PrinterLaws.{no_room, all_copied}
use Rattle.answers.proofs.printer.answer_network.Goals as goal

pub returns-then-out-n : goal.returns-then-out-n
returns-then-out-n c = no_room _ _ c.print_network-n.ensures.0 c.if-out-n.true

pub slice_bounds-lines-end : goal.slice_bounds-lines-end
slice_bounds-lines-end c = omega (arith, c.print_network-n.ensures.0, network_short _ c.requires, ap length c.print_network-n.ensures.1 ∙ length_written _ _)

pub slice_bounds-write_bytes-end : goal.slice_bounds-write_bytes-end
slice_bounds-write_bytes-end c =
    omega (arith, c.print_network-n.ensures.0, network_short _ c.requires, ap length c.print_network-n.ensures.1 ∙ length_written _ _, length-take c.print_network-n.result c.print_network-n.new.out)

pub overflow_cast-result : goal.overflow_cast-result
overflow_cast-result c = omega (arith, c.print_network-n.ensures.0, network_short _ c.requires)

pub returns : goal.returns
returns c =
    let made = c.print_network-n.ensures in
    let short = network_short _ c.requires in
    all_copied _ _ made.0 c.if-out-n.false _ (search rules) made.1 c.write_bytes.ensures
