-- `branch_exchange_rounds` meets its contract: each round so far had an improving trial, and those that are left lead from where it stands to the definition's answer.
use Rattle.exchange.specs.ExchangeRounds.{Standing}
use Rattle.exchange.proofs.exchange.branch_exchange_rounds.Given as goal

abbrev pub invariant-loop-round : goal.invariant-loop-round
invariant-loop-round l = Standing l.network l.round l.current
