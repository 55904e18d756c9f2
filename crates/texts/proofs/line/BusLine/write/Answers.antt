-- `write` meets its contract: its kind and its id are one number before the load.
use Rattle.std.proofs.Common.{refl, [], ◌∷◌, arith, lit<, rules}
use Rattle.lines.specs.Frames.{frame_text}
use Rattle.texts.specs.LineLaws.{around_line}
use Rattle.texts.proofs.line.BusLine.write.Goals as goal

pub returns : goal.returns
unfolding frame_text
returns c = around_line (2 ∷ 4 ∷ []) [] (2, (c.args.self.id, tt)) _ tt _ c.write_around.ensures (lit< tt, (search rules, tt)) tt (omega arith) refl
