-- The positions from `at` on are in the rows.
use mathlib.Core.Path.{refl}
use Rattle.network.specs.Limits.{bus_id}
use Rattle.network.specs.ReadLaws.{past_bus}
use Rattle.ids.specs.IdLaws.{Listed}
use Rattle.ids.proofs.rows.bus_rows.Given as goal

abbrev pub invariant-loop-at : goal.invariant-loop-at
invariant-loop-at l = Listed bus_id past_bus refl l.buses l.n l.at l.rows
