-- `expand` meets its contract. The invariant: what is left of the row, entered after what is done, gives the whole; the step is `one_expanded`.
use Rattle.std.proofs.Common.{ℕ}
use Rattle.bfs.proofs.Expanding.{Expanding}
use Rattle.bfs.proofs.walk.Reached.expand.Given as goal

abbrev pub invariant-loop : goal.invariant-loop
invariant-loop l = (barred : ℕ) → Expanding l.graph l.live l.u barred l.initial.self l.self l.h l.counter
