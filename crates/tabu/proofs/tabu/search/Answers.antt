-- `search` meets its contract: what is found is read off the rounds, with the loss of its state.
use Rattle.network.specs.Records.{records_of}
use Rattle.searches.specs.SearchValues.{found_of}
use Rattle.tabu.specs.Tabu.{tabu_best}
use Rattle.tabu.specs.TabuLaws.{tabu_loss}
use Rattle.tabu.specs.TabuValues.{tabu_of}
use Rattle.tabu.proofs.tabu.search.Goals as goal

pub returns : goal.returns
unfolding tabu_best found_of tabu_of records_of
returns c = rw (c.tabu_rounds-done.ensures, tabu_loss)
