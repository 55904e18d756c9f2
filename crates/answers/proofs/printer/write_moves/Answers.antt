-- `write_moves` meets its contract: the plan's lines stand behind the operations' lines, and those behind the lines on the best state.
use Rattle.std.proofs.Common.{◌+◌, ◌-◌, length, sym, arith}
use lib.ListN.{length-drop}
use borrow.Rule.Slice.PartMut.{put_mid}
use Rattle.numbers.specs.Parts.{part_rest}
use Rattle.network.specs.Records.{records_of}
use Rattle.printing.specs.Lengths.{result_length}
use Rattle.answers.specs.Printing.{operation_lines, plan_lines, move_lines}
use Rattle.feeders.specs.SupplyLaws.{network_records}
use Rattle.answers.specs.PrintingLaws.{operations_short, plan_short}
use Rattle.answers.proofs.PrinterLaws.{moves_room, moves_stored, moves_long}
use Rattle.answers.proofs.printer.write_moves.Goals as goal

pub overflow_add-n : goal.overflow_add-n
overflow_add-n c = omega (arith, c.write_operations-operations.ensures.0, operations_short _ (network_records _ c.requires.0.0))

pub slice_bounds-write_plan-count : goal.slice_bounds-write_plan-count
slice_bounds-write_plan-count c =
    let short = operations_short _ (network_records _ c.requires.0.0) in
    omega (
      arith,
      c.write_operations-operations.ensures.0,
      short,
      c.requires.1,
      moves_room c.args.out.now (operation_lines (records_of c.args.network)) (omega (arith, short, c.requires.1)) c.write_operations-operations.ensures.1,
    )

pub slice_bounds-write_plan-start : goal.slice_bounds-write_plan-start
slice_bounds-write_plan-start c =
    let short = operations_short _ (network_records _ c.requires.0.0) in
    omega (
      arith,
      c.write_operations-operations.ensures.0,
      short,
      c.requires.1,
      moves_room c.args.out.now (operation_lines (records_of c.args.network)) (omega (arith, short, c.requires.1)) c.write_operations-operations.ensures.1,
    )

pub write_plan-requires : goal.write_plan-requires
write_plan-requires c =
    let short = operations_short _ (network_records _ c.requires.0.0) in (
      c.requires.0,
      rw part_rest (omega (
        arith,
        c.write_operations-operations.ensures.0,
        short,
        c.requires.1,
        length-drop (result_length + c.write_operations-operations.result) (put_mid result_length (length c.args.out.now - result_length) c.args.out.now c.write_operations-operations.new.out),
        moves_room c.args.out.now (operation_lines (records_of c.args.network)) (omega (arith, short, c.requires.1)) c.write_operations-operations.ensures.1,
      )),
    )

pub overflow_add-result : goal.overflow_add-result
overflow_add-result c = omega (arith, c.write_operations-operations.ensures.0, c.write_plan.ensures.0, operations_short _ (network_records _ c.requires.0.0), plan_short _ c.requires.0.0)

pub returns : goal.returns
returns c =
    let o = c.write_operations-operations.ensures in
    let q = c.write_plan.ensures in
    let N = records_of c.args.network in (
      moves_long N o.0 q.0,
      unfold move_lines in moves_stored c.args.out.now (operation_lines N) (plan_lines N) _ (sym o.0) (omega (arith, o.0, operations_short N (network_records N c.requires.0.0), plan_short N c.requires.0.0, c.requires.1)) o.1 q.1,
    )
