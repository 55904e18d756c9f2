-- `position_of` meets its contract. The invariant: what is left of the row gives the position; the step is `sought_one`.
use Rattle.ids.specs.IdLaws.{Seeking}
use Rattle.ids.proofs.rows.IdRows.position_of.Given as goal

abbrev pub invariant-row : goal.invariant-row
invariant-row l = Seeking l.self.ids l.self.next l.count l.id l.self.first l.at l.counter
