-- `solve` meets its contract: each method's search has its own equation. The answers name the method and its law, not the search that is called: `cc` finds the call.
use Rattle.reconfiguration.specs.Solve.{best_by}
use Rattle.reconfiguration.specs.SolveLaws.{by_method, by_exhaustive}
use Rattle.reconfiguration.proofs.solve.solve.Goals as goal

pub returns-in-BranchExchange : goal.returns-in-BranchExchange
unfolding best_by
returns-in-BranchExchange c = let law = by_method c.args.network c.args.out.now c.in-BranchExchange.is in cc

pub returns-in-TabuSearch : goal.returns-in-TabuSearch
unfolding best_by
returns-in-TabuSearch c = let law = by_method c.args.network c.args.out.now c.in-TabuSearch.is in cc

pub returns-in-Exhaustive : goal.returns-in-Exhaustive
returns-in-Exhaustive c = let law = by_exhaustive c.args.network c.args.out.now c.in-Exhaustive.is in cc
