-- `list_row` meets its contract. The invariant: what is left of the row, listed behind what is done, gives the whole; the step is `half_listed`.
use Rattle.lists.proofs.Listing.{RowListing}
use Rattle.lists.proofs.lists.Entries.list_row.Given as goal

abbrev pub invariant-loop : goal.invariant-loop
invariant-loop l = RowListing l.graph.far l.live l.graph.next l.first l.initial.self l.self l.h l.counter
