-- `resume` meets its contract: it is refused, has no room, or writes the moves that remain and those that go back.
use Rattle.std.proofs.Common.{ap, ◌∙◌, arith, length}
use Rattle.plan.specs.Stored.{moves_in}
use Rattle.plan.specs.MadePlanLaws.{made_refused, made_accepted, made_pairs}
use Rattle.resumption.specs.SingleMoves.{single_moves}
use Rattle.resumption.specs.MoveLaws.{length_back}
use Rattle.resumption.specs.ResumeLaws.{singles_few}
use Rattle.resumption.proofs.Answering.{not_accepted, too_many, remaining_short, back_short, both_written}
use Rattle.resumption.proofs.resume.resume.Goals as goal

pub returns-in_err-made : goal.returns-in_err-made
returns-in_err-made c = not_accepted _ _ _ _ _ _ _ _ c.from_residual.ensures.1 (made_refused _ _ _ _ c.made_plan.ensures c.in_err-made.was)

pub moves_of-moves-requires : goal.moves_of-moves-requires
moves_of-moves-requires c =
    let ok = made_accepted _ _ _ _ c.made_plan.ensures c.in_ok-made.was in
    let pairs = ap moves_in c.as_slice.ensures.values ∙ made_pairs _ _ _ _ c.made_plan.ensures c.in_ok-made.was in
    rw pairs (singles_few _ _ _ ok)

pub returns-in_default : goal.returns-in_default
returns-in_default c =
    let ok = made_accepted _ _ _ _ c.made_plan.ensures c.in_ok-made.was in
    let pairs = ap moves_in c.as_slice.ensures.values ∙ made_pairs _ _ _ _ c.made_plan.ensures c.in_ok-made.was in
    let listed = c.as_slice-2.ensures.values ∙ c.moves_of-moves.ensures ∙ ap single_moves pairs in
    too_many _ _ _ _ _ _ ok listed c.in_default.ensures.cases

pub returns-then-remaining-left : goal.returns-then-remaining-left
returns-then-remaining-left c =
    let ok = made_accepted _ _ _ _ c.made_plan.ensures c.in_ok-made.was in
    let pairs = ap moves_in c.as_slice.ensures.values ∙ made_pairs _ _ _ _ c.made_plan.ensures c.in_ok-made.was in
    let listed = c.as_slice-2.ensures.values ∙ c.moves_of-moves.ensures ∙ ap single_moves pairs in
    let cut = c.in-Some.ensures.cases in
    remaining_short _ _ _ _ _ _ ok listed cut.0 cut.1 cut.2 c.if-remaining-left.true

pub returns-then-back-done : goal.returns-then-back-done
returns-then-back-done c =
    let ok = made_accepted _ _ _ _ c.made_plan.ensures c.in_ok-made.was in
    let pairs = ap moves_in c.as_slice.ensures.values ∙ made_pairs _ _ _ _ c.made_plan.ensures c.in_ok-made.was in
    let listed = c.as_slice-2.ensures.values ∙ c.moves_of-moves.ensures ∙ ap single_moves pairs in
    let cut = c.in-Some.ensures.cases in
    back_short _ _ _ _ _ _ ok listed cut.0 cut.1 cut.2 c.if-remaining-left.false c.if-back-done.true

pub write_moves-requires-2 : goal.write_moves-requires-2
write_moves-requires-2 c = omega (arith, ap length (c.as_slice-3.ensures.values ∙ c.going_back-undone.ensures), length_back c.in-Some.done.now, c.if-back-done.false)

pub returns : goal.returns
returns c =
    let ok = made_accepted _ _ _ _ c.made_plan.ensures c.in_ok-made.was in
    let pairs = ap moves_in c.as_slice.ensures.values ∙ made_pairs _ _ _ _ c.made_plan.ensures c.in_ok-made.was in
    let listed = c.as_slice-2.ensures.values ∙ c.moves_of-moves.ensures ∙ ap single_moves pairs in
    let cut = c.in-Some.ensures.cases in
    both_written _ _ _ _ _ _ ok listed cut.0 cut.1 cut.2 c.if-remaining-left.false c.if-back-done.false c.write_moves.ensures (c.write_moves-2.ensures ∙ rw (c.as_slice-3.ensures.values, c.going_back-undone.ensures))
