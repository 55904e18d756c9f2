-- `operations_of` meets its contract: the text is refused, or the operations on its records are written.
use Rattle.std.proofs.Common.{refl, ap, ◌∙◌}
use Rattle.network.specs.AnswerLaws.{handed_on}
use Rattle.frames.specs.ReadingLaws.{read_refused, read_accepted}
use Rattle.controller.specs.Calls.{text_operations}
use Rattle.controller.specs.CallLaws.{text_untouched, text_called}
use Rattle.controller.proofs.calls.operations_of.Goals as goal

pub returns-in_err-network : goal.returns-in_err-network
unfolding text_operations
returns-in_err-network c =
    ap (λ a. record { answer = a; out = c.args.out.now }) (handed_on _ _ c.from_residual.ensures.1) ∙ text_untouched _ _ _ (read_refused _ refl c.in_err-network.ensures)

pub returns : goal.returns
unfolding text_operations
returns c = text_called _ _ _ (read_accepted _ refl c.in_ok-network.ensures) c.compute_switch_operations.ensures
