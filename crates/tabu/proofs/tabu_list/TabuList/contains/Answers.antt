-- `contains` meets its contract: the slice of the held ids is searched.
use Rattle.std.proofs.Common.{ap, ◌∙◌}
use Rattle.numbers.specs.Choose.{among}
use Rattle.tabu.proofs.HeldIds.{any_among}
use Rattle.tabu.proofs.tabu_list.TabuList.contains.Goals as goal

pub returns : goal.returns
returns c = c.contains.ensures.value ∙ any_among c.args.id _ ∙ ap (among c.args.id) c.self.view_is
