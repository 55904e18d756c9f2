-- `write` meets its contract: its kind and its id are one number.
use Rattle.std.proofs.Common.{arith, lit<, rules}
use Rattle.record_lines.specs.Kinds.{supply}
use Rattle.printing.specs.FrameNumbers.{frame_line}
use Rattle.texts.proofs.line.SupplyLine.write.Goals as goal

pub returns : goal.returns
returns c = frame_line supply (c.args.self.0, tt) _ (lit< tt, (search rules, tt)) (omega arith) c.write_line.ensures
