-- `drawn_from` meets its contract: its steps are those of `drawn_graph`, by `graph_drawn`.
use Rattle.std.proofs.Common.{◌∙◌}
use Rattle.drawing.proofs.DrawnEnds.{graph_drawn}
use Rattle.drawing.proofs.drawing.drawn_from.Goals as goal

pub returns : goal.returns
returns c = c.new.ensures ∙ graph_drawn _ _ _ _ _ _ c.walk.ensures c.places_of-places.ensures c.draw_ends-ends.ensures
