-- `read_as` meets its contract: the head line, then the lines behind it, by the law that reading in two passes is reading line by line.
use Rattle.std.proofs.Common.{sym, ap, ◌∙◌}
use Rattle.network.specs.Answers.{accepted, valued}
use Rattle.network.specs.AnswerLaws.{handed_on, refused_first, accepted_then, then_assoc}
use Rattle.network.specs.Records.{network_of}
use Rattle.frames.proofs.TextLaws.{holds_records, both_answered, head_refuses, body_asks, text_settled}
use Rattle.frames.proofs.reader.read_as.Goals as goal

pub returns-in_err-head : goal.returns-in_err-head
returns-in_err-head c = handed_on _ _ c.from_residual.ensures.1 ∙ ap (valued network_of) (head_refuses _ c.head_line.ensures _ c.in_err-head.was)

pub read_body-body-requires : goal.read_body-body-requires
read_body-body-requires c = let asks = body_asks _ c.head_line.ensures c.in_ok-head.was in (asks.0, asks.1, asks.2, asks.3, c.new-network.ensures)

pub returns-in_err-and : goal.returns-in_err-and
returns-in_err-and c =
    let both = both_answered _ _ c.check_as.ensures c.and.ensures in
    handed_on _ _ c.from_residual-in_err-and.ensures.1
    ∙ ap (valued network_of) (refused_first _ c.in_err-and.was both ∙ sym (then_assoc _ _ _) ∙ text_settled _ c.head_line.ensures c.in_ok-head.was _ _ c.read_body-body.ensures)

pub returns : goal.returns
returns c =
    let both = both_answered _ _ c.check_as.ensures c.and.ensures in
    ap accepted (holds_records c.read_body-body.ensures)
    ∙ ap (valued network_of) (accepted_then _ c.in_ok-and.was both ∙ sym (then_assoc _ _ _) ∙ text_settled _ c.head_line.ensures c.in_ok-head.was _ _ c.read_body-body.ensures)
