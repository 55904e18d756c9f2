-- `draw_ends` meets its contract: after k turns the first k branches are drawn; the step is `one_turned` or `one_kept`.
use Rattle.std.proofs.Common.{sym, ◌∙◌, arith}
use Rattle.drawing.proofs.DrawnEnds.{none_drawn, one_turned, one_kept, all_drawn}
use Rattle.drawing.proofs.drawing.draw_ends.Goals as goal
use Rattle.drawing.proofs.drawing.draw_ends.Goals.{else-is_turned, then-is_turned}

pub loop-k-init : goal.loop-k-init
loop-k-init c = none_drawn _ _ _

pub loop-k-preserved : goal.loop-k-preserved
loop-k-preserved c =
    elim c.if-is_turned.branch [
      | then-is_turned w ↦
          one_turned _ _ _ c.loop-k.invariant (omega arith) (sym c.is_turned.ensures ∙ w.if-is_turned.true) w.from-is
      | else-is_turned w ↦
          one_kept _ _ _ c.loop-k.invariant (omega arith) (sym c.is_turned.ensures ∙ w.if-is_turned.false) w.from-is
    ]

pub returns : goal.returns
returns c = all_drawn _ _ _ c.loop-k.invariant _ (omega arith)
