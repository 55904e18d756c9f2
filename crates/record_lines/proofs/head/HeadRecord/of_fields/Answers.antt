-- `of_fields` meets its contract: each field is read at its position; the method byte decides.
use Rattle.std.proofs.Common.{lt-ltb, le-ltb}
use lib.Seq.{drop-drop}
use Rattle.network.specs.Answers.{◌and_then◌, judge}
use Rattle.lines.specs.Hex.{read_fields}
use Rattle.record_lines.proofs.FieldLaws.{method_is, method_known}
use Rattle.record_lines.proofs.head.HeadRecord.of_fields.Goals as goal

pub returns-in_default : goal.returns-in_default
unfolding read_fields judge ◌and_then◌
returns-in_default c = simp drop-drop (rw (← c.byte-method.ensures, lt-ltb 2 _ c.in_default.ensures))

pub returns : goal.returns
unfolding read_fields judge ◌and_then◌
returns c =
    let method = c.in-Ok.ensures in
    simp drop-drop (rw (← c.byte-method.ensures, le-ltb 2 _ (method_known _ method), c.word.ensures, c.word-2.ensures, c.word-3.ensures, c.float.ensures, c.word-4.ensures, method_is _ method))
