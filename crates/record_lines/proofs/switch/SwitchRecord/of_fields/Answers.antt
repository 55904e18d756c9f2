-- `of_fields` meets its contract: each field is read at its position; the byte decides.
use Rattle.std.proofs.Common.{lt-ltb, le-ltb}
use lib.Seq.{drop-drop}
use Rattle.network.specs.Answers.{◌and_then◌, judge}
use Rattle.lines.specs.Hex.{read_fields}
use Rattle.record_lines.proofs.switch.SwitchRecord.of_fields.Goals as goal

pub returns-then-flags-gt3 : goal.returns-then-flags-gt3
unfolding read_fields judge ◌and_then◌
returns-then-flags-gt3 c = simp drop-drop (rw (← c.byte-flags.ensures, lt-ltb 3 _ c.if-flags-gt3.true))

pub returns : goal.returns
unfolding read_fields judge ◌and_then◌
returns c = simp drop-drop (rw (← c.byte-flags.ensures, le-ltb 3 _ c.if-flags-gt3.false, c.word.ensures, c.word-2.ensures))
