-- What each search answers for a feeder that asks for it is what `solve` answers.
use Rattle.std.specs.Prelude.{◌≡◌, List, ℕ}
use Rattle.std.proofs.Common.{sym, ◌∙◌}
use Rattle.std.proofs.Math.Path.{ap}
use Rattle.network.specs.declared.switch.ReconfigAlgorithm.{ReconfigAlgorithm}
use Rattle.network.specs.declared.switch.ReconfigAlgorithm.TheVariants.{Exhaustive}
use Rattle.network.specs.declared.topology.PowerNetwork.{PowerNetwork}
use Rattle.network.specs.Records.{records_of}
use Rattle.searches.specs.Results.{result_by, solved_by}
use Rattle.exhaustive.specs.AsExhaustive.{exhaustive_own}
use Rattle.exhaustive.specs.Exhaustive.{exhaustive_best, as_exhaustive}
use Rattle.reconfiguration.specs.Solve.{best_by, best, solved}

module _ (n : PowerNetwork) (out : List ℕ) {method : ReconfigAlgorithm} (e : n.algorithm ≡ method) where
  pub by_method : solved_by (best_by method) (records_of n) out ≡ solved (records_of n) out
  unfolding solved best solved_by result_by records_of
  by_method = ap (λ m. solved_by (best_by m) (records_of n) out) (sym e)

pub by_exhaustive : (n : PowerNetwork) (out : List ℕ) → n.algorithm ≡ Exhaustive → solved_by exhaustive_best (as_exhaustive (records_of n)) out ≡ solved (records_of n) out
unfolding best_by
by_exhaustive n out e = sym (exhaustive_own n out e) ∙ by_method n out e
