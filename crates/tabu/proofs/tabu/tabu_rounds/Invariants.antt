-- `tabu_rounds` meets its contract: the rounds that are left lead from where it stands to the definition's answer.
use Rattle.tabu.specs.TabuRounds.{Standing}
use Rattle.tabu.proofs.tabu.tabu_rounds.Given as goal

abbrev pub invariant-loop-round : goal.invariant-loop-round
invariant-loop-round l = Standing l.fn.network l.round l.search
