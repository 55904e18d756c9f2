-- What `solve` answers.
use Rattle.std.specs.Prelude.{List, ℕ}
use Rattle.network.specs.Records.{Network}
use Rattle.network.specs.declared.switch.ReconfigAlgorithm.{ReconfigAlgorithm}
use Rattle.network.specs.declared.switch.ReconfigAlgorithm.TheVariants.{BranchExchange, TabuSearch, Exhaustive}
use Rattle.printing.specs.Calls.{Call}
use Rattle.searches.specs.Results.{Best, Result, result_by, solved_by}
use Rattle.exchange.specs.Exchange.{exchange_best}
use Rattle.tabu.specs.Tabu.{tabu_best}
use Rattle.exhaustive.specs.Exhaustive.{exhaustive_best}

-- document 01's three searches
unfoldable pub best_by : ReconfigAlgorithm → Network → Best
best_by BranchExchange = exchange_best
best_by TabuSearch = tabu_best
best_by Exhaustive = exhaustive_best

-- the one that the head asks for
unfoldable pub best : Network → Best
best N = best_by N.algorithm N

unfoldable pub result : Network → Result
result N = result_by best N

unfoldable pub solved : Network → List ℕ → Call Result
solved N out = solved_by best N out
