-- `best_from_radial` meets its contract: the best is that of the first i switches.
use mathlib.Core.Path.{◌≡◌}
use Rattle.std.specs.Prelude.{true, None}
use Rattle.numbers.specs.UpTo.{up_to}
use Rattle.network.specs.Records.{records_of}
use Rattle.tabu.specs.Tabu.{Tabu, seeing}
use Rattle.tabu.specs.TabuValues.{candidate_of, Stands}
use Rattle.tabu.proofs.tabu.best_from_radial.Given as goal

abbrev pub invariant-loop-i : goal.invariant-loop-i
invariant-loop-i l = (x : Tabu) → Stands l.fn.network l.search x → l.search.radial ≡ true → l.best ≡ candidate_of (up_to (seeing (records_of l.fn.network) x) None l.i)
