-- `branch_exchange_step` meets its contract: `last` is the last improving trial of the first i switches.
use Rattle.std.proofs.Common.{◌≡◌}
use Rattle.network.specs.Records.{records_of}
use Rattle.searches.specs.States.{state_of}
use Rattle.numbers.specs.Choose.{last_some}
use Rattle.exchange.specs.Exchange.{improving}
use Rattle.exchange.specs.ExchangeValues.{trial_of}
use Rattle.exchange.proofs.exchange.branch_exchange_step.Given as goal

abbrev pub invariant-loop-i : goal.invariant-loop-i
invariant-loop-i l = l.last ≡ trial_of (records_of l.fn.network) (last_some (improving (records_of l.fn.network) (state_of l.fn.network l.current.configuration) l.current.loss) l.i)
