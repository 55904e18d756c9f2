-- `branch_exchange_solve` meets its contract: it is refused, or answers with what the exchange finds.
use Rattle.std.proofs.Common.{◌∙◌}
use Rattle.network.proofs.ArrayLengths.{buses_256}
use Rattle.network.specs.AnswerLaws.{handed_on}
use Rattle.searches.specs.SearchLaws.{search_refused, search_checked, search_answered}
use Rattle.exchange.specs.Exchange.{exchange_best}
use Rattle.exchange.specs.ExchangeLaws.{exchange_sound}
use Rattle.exchange.proofs.exchange.branch_exchange_solve.Goals as goal

pub returns-in_err-check_search : goal.returns-in_err-check_search
returns-in_err-check_search c = rw (handed_on _ _ c.from_residual.ensures.1) (search_refused _ exchange_best exchange_sound _ _ c.check_search.ensures c.in_err-check_search.was)

pub search-found-requires : goal.search-found-requires
search-found-requires c = (search_checked _ _ c.in_ok-check_search.was c.check_search.ensures, c.start_of-start.ensures)

pub returns : goal.returns
returns c =
    c.answer_with.ensures
    ∙ search_answered _ exchange_best exchange_sound _ _ c.check_search.ensures c.in_ok-check_search.was
    (buses_256 c.args.network c.well_formed.0) c.start_of-start.ensures c.search-found.ensures
