-- `tabu_search` meets its contract: it is refused, or answers with what the tabu search finds.
use Rattle.std.proofs.Common.{◌∙◌}
use Rattle.network.specs.AnswerLaws.{handed_on}
use Rattle.network.proofs.ArrayLengths.{buses_256}
use Rattle.searches.specs.SearchLaws.{search_refused, search_checked, search_answered}
use Rattle.tabu.specs.Tabu.{tabu_best}
use Rattle.tabu.specs.TabuLaws.{tabu_sound}
use Rattle.tabu.proofs.tabu.tabu_search.Goals as goal

pub returns-in_err-check_search : goal.returns-in_err-check_search
returns-in_err-check_search c = rw (handed_on _ _ c.from_residual.ensures.1) (search_refused _ tabu_best tabu_sound _ _ c.check_search.ensures c.in_err-check_search.was)

pub search-requires : goal.search-requires
search-requires c = (search_checked _ _ c.in_ok-check_search.was c.check_search.ensures, c.start_of-start.ensures)

pub returns : goal.returns
returns c =
    c.answer_with.ensures
    ∙ search_answered _ tabu_best tabu_sound _ _ c.check_search.ensures c.in_ok-check_search.was
    (buses_256 c.args.network c.well_formed.0) c.start_of-start.ensures c.search.ensures
