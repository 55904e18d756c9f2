-- `check_search` meets its contract: the first check that refuses decides.
use Rattle.std.proofs.Common.{sym, ◌∙◌}
use Rattle.network.specs.AnswerLaws.{handed_on, decides, gives_way}
use Rattle.printing.specs.CallLaws.{no_room, room}
use Rattle.searches.proofs.answer.check_search.Goals as goal

pub returns-in_err-check_network : goal.returns-in_err-check_network
returns-in_err-check_network c = handed_on _ _ c.from_residual.ensures.1 ∙ decides _ (sym c.in_err-check_network.ensures)

pub returns-then-room-count : goal.returns-then-room-count
returns-then-room-count c = no_room (rw c.from-count.ensures at c.if-room-count.true) ∙ gives_way _ (sym c.in_ok-check_network.ensures)

pub returns : goal.returns
returns c = room (rw c.from-count.ensures at c.if-room-count.false) ∙ gives_way _ (sym c.in_ok-check_network.ensures)
