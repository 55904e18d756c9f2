-- `megawatts` meets its contract: the first i numbers are those of the loads, the others still 0.0.
use mathlib.Core.Path.{◌≡◌}
use Prim.Native.Nat.{◌≤◌}
use lib.ListN.{get_or}
use Rattle.numbers.specs.Constants.{zero64}
use Rattle.numbers.specs.TableLaws.{filled}
use Rattle.losses.specs.ListLoss.{no_power}
use Rattle.losses.proofs.estimate.megawatts.Given as goal

abbrev pub invariant-loop-i : goal.invariant-loop-i
invariant-loop-i l = (l.i ≤ 256) × (l.mw ≡ filled (λ j. (get_or l.loads j no_power).0) zero64 256 l.i)
