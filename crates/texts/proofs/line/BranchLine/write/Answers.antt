-- `write` meets its contract: its kind and its ends are one number before the resistance, its status stands behind it.
use Rattle.std.proofs.Common.{◌∙◌, [], ◌∷◌, arith, lit<, rules}
use Rattle.lines.specs.Frames.{frame_text}
use Rattle.texts.specs.LineLaws.{around_line, status_byte_lem}
use Rattle.texts.proofs.line.BranchLine.write.Goals as goal

pub returns : goal.returns
unfolding frame_text
returns c =
    let b = c.args.self in
    around_line (2 ∷ 4 ∷ 4 ∷ []) (2 ∷ []) (3, (b.from_bus, (b.to_bus, tt))) _ (c.from-4.result, tt) _ c.write_around.ensures
    (lit< tt, (search rules, (search rules, tt)))
    (search rules, tt)
    (omega arith)
    (omega arith)
    ∙ rw (c.from-4.ensures, status_byte_lem)
