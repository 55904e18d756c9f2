-- `answer_text` meets its contract: the text is refused, or its network is answered.
use Rattle.std.proofs.Common.{refl, ap, ◌∙◌}
use Rattle.network.specs.AnswerLaws.{handed_on}
use Rattle.frames.specs.Proof.{passed}
use Rattle.frames.specs.ReadingLaws.{read_accepted, read_refused}
use Rattle.answers.specs.PrintingLaws.{text_refused, text_answered}
use Rattle.answers.proofs.printer.answer_text.Goals as goal

pub returns-in_err-network : goal.returns-in_err-network
returns-in_err-network c =
    ap (λ a. record { answer = a; out = c.args.out.now }) (handed_on _ _ c.from_residual.ensures.1) ∙ text_refused _ _ (read_refused _ refl c.in_err-network.ensures)

pub answer_network-requires : goal.answer_network-requires
answer_network-requires c = passed _ _ (read_accepted _ refl c.in_ok-network.ensures)

pub returns : goal.returns
returns c = c.answer_network.ensures ∙ text_answered _ _ (read_accepted _ refl c.in_ok-network.ensures)
