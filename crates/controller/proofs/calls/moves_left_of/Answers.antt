-- `moves_left_of` meets its contract: the text is refused, or the two lists of moves on its records are written.
use Rattle.std.proofs.Common.{refl, ap, ◌∙◌}
use Rattle.network.specs.AnswerLaws.{handed_on}
use Rattle.frames.specs.ReadingLaws.{read_refused, read_accepted}
use Rattle.controller.specs.Calls.{text_resume}
use Rattle.controller.specs.CallLaws.{text_untouched_in_two, text_called_in_two}
use Rattle.controller.proofs.calls.moves_left_of.Goals as goal

pub returns-in_err-network : goal.returns-in_err-network
unfolding text_resume
returns-in_err-network c =
    ap (λ a. record { answer = a; first = c.args.remaining.now; second = c.args.back.now }) (handed_on _ _ c.from_residual.ensures.1)
    ∙ text_untouched_in_two _ _ _ _ (read_refused _ refl c.in_err-network.ensures)

pub returns : goal.returns
unfolding text_resume
returns c = text_called_in_two _ _ _ _ (read_accepted _ refl c.in_ok-network.ensures) c.resume.ensures
