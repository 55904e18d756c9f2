-- `write` meets its contract: its kind and the counts are one number before the base, the method and the iterations another behind it.
use Rattle.std.proofs.Common.{◌∙◌, [], ◌∷◌, arith, lit<, rules}
use Rattle.lines.specs.Frames.{frame_text}
use Rattle.texts.specs.LineLaws.{around_line}
use Rattle.texts.proofs.line.HeadLine.write.Goals as goal

pub returns : goal.returns
unfolding frame_text
returns c =
    let h = c.args.self in
    around_line (2 ∷ 4 ∷ 4 ∷ 4 ∷ []) (2 ∷ 4 ∷ []) (1, (h.buses, (h.branches, (h.switches, tt)))) _ (c.from-method.result, (h.max_iterations, tt)) _ c.write_around.ensures
    (lit< tt, (search rules, (search rules, (search rules, tt))))
    (search rules, (search rules, tt))
    (omega arith)
    (omega arith)
    ∙ rw c.from-method.ensures
