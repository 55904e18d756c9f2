-- `loads_at` meets its contract: the first i loads are those of the buses, the others still 0.0.
use mathlib.Core.Path.{◌≡◌}
use Prim.Native.Nat.{◌≤◌}
use lib.ListN.{get_or}
use Rattle.numbers.specs.TableLaws.{filled}
use Rattle.network.specs.Records.{no_bus}
use Rattle.losses.specs.ListLoss.{no_power}
use Rattle.losses.proofs.loads.loads_at.Given as goal

abbrev pub invariant-loop-i : goal.invariant-loop-i
invariant-loop-i l = (l.i ≤ 256) × (l.loads ≡ filled (λ j. (get_or l.buses j no_bus).pd) no_power 256 l.i)
