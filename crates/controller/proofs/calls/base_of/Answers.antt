-- `base_of` meets its contract: the text is refused, or the base of its records is written.
use Rattle.std.proofs.Common.{refl, ap, ◌∙◌}
use Rattle.network.specs.AnswerLaws.{handed_on}
use Rattle.feeders.specs.SupplyLaws.{network_records}
use Rattle.frames.specs.Proof.{passed}
use Rattle.frames.specs.ReadingLaws.{read_refused, read_accepted}
use Rattle.controller.specs.Calls.{text_base}
use Rattle.controller.specs.CallLaws.{text_untouched, text_called}
use Rattle.controller.proofs.calls.base_of.Goals as goal

pub returns-in_err-network : goal.returns-in_err-network
unfolding text_base
returns-in_err-network c =
    ap (λ a. record { answer = a; out = c.args.out.now }) (handed_on _ _ c.from_residual.ensures.1) ∙ text_untouched _ _ _ (read_refused _ refl c.in_err-network.ensures)

pub write_base-requires : goal.write_base-requires
write_base-requires c = network_records _ (passed _ _ (read_accepted _ refl c.in_ok-network.ensures))

pub returns : goal.returns
unfolding text_base
returns c = text_called _ _ _ (read_accepted _ refl c.in_ok-network.ensures) c.write_base.ensures
