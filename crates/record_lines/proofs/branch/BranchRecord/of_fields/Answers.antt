-- `of_fields` meets its contract: each field is read at its position; the byte decides.
use Rattle.std.proofs.Common.{lt-ltb, le-ltb}
use lib.Seq.{drop-drop}
use Rattle.network.specs.Answers.{◌and_then◌, judge}
use Rattle.lines.specs.Hex.{read_fields}
use Rattle.record_lines.proofs.branch.BranchRecord.of_fields.Goals as goal

pub returns-then-status-gt1 : goal.returns-then-status-gt1
unfolding read_fields judge ◌and_then◌
returns-then-status-gt1 c = simp drop-drop (rw (← c.byte-status.ensures, lt-ltb 1 _ c.if-status-gt1.true))

pub returns : goal.returns
unfolding read_fields judge ◌and_then◌
returns c = simp drop-drop (rw (← c.byte-status.ensures, le-ltb 1 _ c.if-status-gt1.false, c.word.ensures, c.word-2.ensures, c.float.ensures))
