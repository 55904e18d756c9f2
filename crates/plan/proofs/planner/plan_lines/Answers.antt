-- `plan_lines` meets its contract: refused, short of room, or written.
use Rattle.std.proofs.Common.{◌∙◌, ap}
use Rattle.plan.specs.Stored.{moves_in}
use Rattle.plan.specs.MadePlanLaws.{made_refused, made_accepted, made_pairs}
use Rattle.plan.proofs.Answering.{not_accepted, lengths_fit, no_room, room, lines_written}
use Rattle.plan.proofs.planner.plan_lines.Goals as goal

pub returns-in_err-made : goal.returns-in_err-made
returns-in_err-made c = not_accepted _ _ _ _ _ _ c.from_residual.ensures.1 (made_refused _ _ _ _ c.made_plan.ensures c.in_err-made.was)

pub text_length-length-requires : goal.text_length-length-requires
text_length-length-requires c =
    let ok = made_accepted _ _ _ _ c.made_plan.ensures c.in_ok-made.was in
    let pairs = ap moves_in c.as_slice-pairs.ensures.values ∙ made_pairs _ _ _ _ c.made_plan.ensures c.in_ok-made.was in
    lengths_fit _ _ _ c.args.out.now ok _ pairs

pub returns-then-out-length : goal.returns-then-out-length
returns-then-out-length c =
    let ok = made_accepted _ _ _ _ c.made_plan.ensures c.in_ok-made.was in
    let pairs = ap moves_in c.as_slice-pairs.ensures.values ∙ made_pairs _ _ _ _ c.made_plan.ensures c.in_ok-made.was in
    no_room _ _ _ _ ok _ pairs c.text_length-length.ensures c.if-out-length.true

pub write_pairs-requires : goal.write_pairs-requires
write_pairs-requires c =
    let ok = made_accepted _ _ _ _ c.made_plan.ensures c.in_ok-made.was in
    let pairs = ap moves_in c.as_slice-pairs.ensures.values ∙ made_pairs _ _ _ _ c.made_plan.ensures c.in_ok-made.was in
    room _ _ _ _ ok _ pairs c.text_length-length.ensures c.if-out-length.false

pub returns : goal.returns
returns c =
    let ok = made_accepted _ _ _ _ c.made_plan.ensures c.in_ok-made.was in
    let pairs = ap moves_in c.as_slice-pairs.ensures.values ∙ made_pairs _ _ _ _ c.made_plan.ensures c.in_ok-made.was in
    lines_written _ _ _ _ ok _ pairs c.text_length-length.ensures c.if-out-length.false c.write_pairs.ensures
