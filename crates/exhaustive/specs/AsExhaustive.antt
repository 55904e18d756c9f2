-- The exhaustive search of a feeder whose head asks for it: a feeder that does is such a one already, and of another the code makes it.
use Rattle.std.specs.Prelude.{◌≡◌, List, ℕ}
use Rattle.std.proofs.Math.Path.{ap}
use Rattle.network.specs.declared.switch.ReconfigAlgorithm.{ReconfigAlgorithm}
use Rattle.network.specs.declared.switch.ReconfigAlgorithm.TheVariants as method
use Rattle.network.specs.declared.topology.PowerNetwork.{PowerNetwork}
use Rattle.network.specs.Records.{Network, records_of}
use Rattle.searches.specs.Results.{solved_by}
use Rattle.exhaustive.specs.Exhaustive.{exhaustive_best, as_exhaustive}
use Rattle.exhaustive.specs.ExhaustiveValues.{exhaustive_head}

-- with this method in its head
abbrev headed : ReconfigAlgorithm → Network → Network
headed a N = record { base = N.base; algorithm = a; iterations = N.iterations; buses = N.buses; branches = N.branches; switches = N.switches; supply = N.supply }

module _ (n : PowerNetwork) (out : List ℕ) where
  pub exhaustive_own : n.algorithm ≡ method.Exhaustive → solved_by exhaustive_best (records_of n) out ≡ solved_by exhaustive_best (as_exhaustive (records_of n)) out
  unfolding as_exhaustive records_of
  exhaustive_own e = ap (λ a. solved_by exhaustive_best (headed a (records_of n)) out) e

  pub exhaustive_made : {made : PowerNetwork} → made ≡ exhaustive_head n → solved_by exhaustive_best (records_of made) out ≡ solved_by exhaustive_best (as_exhaustive (records_of n)) out
  unfolding as_exhaustive records_of
  exhaustive_made e = ap (λ m. solved_by exhaustive_best (records_of m) out) e
