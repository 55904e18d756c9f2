-- `answer_with` meets its contract: each part of the answer has its own equation.
use Rattle.searches.specs.SearchValues.{answer_with}
use Rattle.searches.specs.States.{state_of}
use Rattle.searches.proofs.answer.answer_with.Goals as goal

pub returns : goal.returns
unfolding answer_with state_of
returns c = rw (c.write_state.ensures, c.form_of-form.ensures, c.live_branches.ensures, c.reduction.ensures)
