-- `search` meets its contract: the masks go from the base, and what is found is read off them, with the loss of its state.
use Rattle.std.proofs.Common.{◌≡◌, ◌∙◌}
use Rattle.network.specs.Records.{records_of}
use Rattle.searches.specs.SearchValues.{found_of}
use Rattle.searches.specs.StartLaws.{start_base}
use Rattle.exhaustive.specs.Exhaustive.{exhaustive, exhaustive_best, least_or_base}
use Rattle.exhaustive.specs.ExhaustiveLaws.{exhaustive_closes}
use Rattle.exhaustive.specs.ExhaustiveTrials.{best_held}
use Rattle.exhaustive.specs.ExhaustiveValues.{least_of, exhaustive_of}
use Rattle.exhaustive.proofs.exhaustive.search.Goals as goal

pub returns : goal.returns
unfolding exhaustive_best found_of exhaustive_of
returns c =
    let n = c.args.network.now in
    let N = records_of n in
    let base = start_base n c.requires.2 c.requires.0.0 c.requires.0.1 in
    let best : c.unwrap_or-best.result ≡ least_of (least_or_base N (exhaustive N).least) =
    c.unwrap_or-best.ensures ∙ rw (c.exhaustive_masks-done.ensures, c.base_of.ensures) (best_held n base (exhaustive N).least) in
    rw (best, c.exhaustive_masks-done.ensures, (exhaustive_closes N).loses)
