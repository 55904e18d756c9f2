-- `write` meets its contract: all its fields are one number.
use Rattle.std.proofs.Common.{arith, lit<, rules}
use Rattle.record_lines.specs.Kinds.{switch}
use Rattle.frames.specs.Acceptable.{flags_byte}
use Rattle.printing.specs.FrameNumbers.{frame_line}
use Rattle.texts.specs.LineLaws.{flags_byte_lem}
use Rattle.texts.proofs.line.SwitchLine.write.Goals as goal

pub returns : goal.returns
returns c =
    let s = c.args.self in
    let flags = flags_byte_lem s.normally_open s.can_operate c.from.ensures c.from-2.ensures in
    frame_line switch (s.id, (s.branch_idx, (flags_byte s.normally_open s.can_operate, tt))) _ (lit< tt, (search rules, (search rules, (flags.1, tt)))) (omega (arith, flags.0)) c.write_line.ensures
