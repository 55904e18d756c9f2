-- `repair_text` meets its contract: the text is refused, the slice is too short, or the repair is written. The text that is left is never refused.
use Rattle.std.proofs.Common.{arith}
use Rattle.network.specs.AnswerLaws.{handed_on}
use Rattle.frames.specs.ReadingLaws.{read_accepted, read_refused}
use Rattle.repairs.specs.RepairLaws.{text_refused, repair_no_room, repair_done, is_repairable, repaired_short, left_of, never_refused, left_begun, lines_room, both_written}
use Rattle.repairs.proofs.repair.repair_text.Goals as goal

pub returns-in_err-network : goal.returns-in_err-network
returns-in_err-network c = rw (handed_on _ _ c.from_residual.ensures.1) (text_refused _ _ (read_refused _ c.in_err-network.was c.read_stored.ensures))

pub repaired_length-length-requires : goal.repaired_length-length-requires
repaired_length-length-requires c = left_of _ _ (read_accepted _ c.in_ok-network.was c.read_stored.ensures) c.without_own_loops-left.ensures

pub returns-then-out-length : goal.returns-then-out-length
returns-then-out-length c = repair_no_room _ _ _ (read_accepted _ c.in_ok-network.was c.read_stored.ensures) c.repaired_length-length.ensures c.if-out-length.true

pub returns-in_err-behind : goal.returns-in_err-behind
returns-in_err-behind c =
    let l = left_of _ _ (read_accepted _ c.in_ok-network.was c.read_stored.ensures) c.without_own_loops-left.ensures in
    never_refused _ _ l _ c.repaired_length-length.ensures c.if-out-length.false _ c.write_text.ensures c.in_err-behind.was

pub write_dropped_lines-requires : goal.write_dropped_lines-requires
write_dropped_lines-requires c =
    let l = left_of _ _ (read_accepted _ c.in_ok-network.was c.read_stored.ensures) c.without_own_loops-left.ensures in
    (l.read, lines_room _ _ l _ c.repaired_length-length.ensures c.if-out-length.false _ c.write_text.ensures c.in_ok-behind.was c.from.ensures)

pub overflow_cast-result : goal.overflow_cast-result
overflow_cast-result c = omega (arith, c.repaired_length-length.ensures, repaired_short _ (is_repairable _ _ (read_accepted _ c.in_ok-network.was c.read_stored.ensures)).inside)

pub returns : goal.returns
returns c =
    let read = read_accepted _ c.in_ok-network.was c.read_stored.ensures in
    let l = left_of _ _ read c.without_own_loops-left.ensures in
    let begun = left_begun _ _ l _ c.repaired_length-length.ensures c.if-out-length.false _ c.write_text.ensures c.in_ok-behind.was c.from.ensures in
    repair_done _ _ _ read c.repaired_length-length.ensures c.if-out-length.false (both_written _ _ l _ (c.write_dropped_lines.ensures _ _ begun))
