-- `solve_as_exhaustive` meets its contract: it is refused, or answers with what the exhaustive search finds.
use Rattle.std.proofs.Common.{ap, ◌∙◌}
use Rattle.network.specs.Answers.{valued}
use Rattle.network.specs.AnswerLaws.{handed_on}
use Rattle.searches.specs.Results.{result_of}
use Rattle.searches.specs.SearchLaws.{search_refused, search_checked, search_answered}
use Rattle.exhaustive.specs.Exhaustive.{exhaustive_best}
use Rattle.exhaustive.specs.ExhaustiveLaws.{exhaustive_sound}
use Rattle.exhaustive.proofs.exhaustive.solve_as_exhaustive.Goals as goal

pub returns-in_err-check_search : goal.returns-in_err-check_search
returns-in_err-check_search c =
    ap (λ a. record { answer = valued result_of a; out = c.args.out.now }) (handed_on _ _ c.from_residual.ensures.1)
    ∙ search_refused _ exhaustive_best exhaustive_sound _ _ c.check_search.ensures c.in_err-check_search.was

pub search-found-requires : goal.search-found-requires
search-found-requires c = ((search_checked _ _ c.in_ok-check_search.was c.check_search.ensures, c.start_of-start.ensures), c.requires.0, c.requires.1)

pub returns : goal.returns
returns c =
    c.answer_with.ensures
    ∙ search_answered _ exhaustive_best exhaustive_sound _ _ c.check_search.ensures c.in_ok-check_search.was
    c.requires.1 c.start_of-start.ensures c.search-found.ensures
