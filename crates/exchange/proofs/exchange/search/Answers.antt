-- `search` meets its contract: what is found is read off the rounds, with the loss of its state.
use Rattle.network.specs.Records.{records_of}
use Rattle.searches.specs.SearchValues.{found_of}
use Rattle.exchange.specs.Exchange.{exchange_best}
use Rattle.exchange.specs.ExchangeLaws.{exchange_loss}
use Rattle.exchange.specs.ExchangeValues.{exchange_of}
use Rattle.exchange.proofs.exchange.search.Goals as goal

pub returns : goal.returns
unfolding exchange_best found_of exchange_of records_of
returns c = rw (c.branch_exchange_rounds-done.ensures, exchange_loss)
