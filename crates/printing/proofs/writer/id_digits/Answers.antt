-- `id_digits` meets its contract: no id, the first, or both.
use mathlib.Core.Path.{◌∙◌}
use Rattle.printing.proofs.PairPieces.{no_id, first_of_two, both_of_two}
use Rattle.std.proofs.Common.{rules, arith}
use Rattle.printing.proofs.writer.id_digits.Goals as goal

pub returns-in-0 : goal.returns-in-0
returns-in-0 c = rw c.in-0.is no_id

pub returns-in-1 : goal.returns-in-1
returns-in-1 c =
    let w = c.args.switches in
    c.one_id.ensures ∙ rw (c.in-1.is, first_of_two w.ids (search rules))

pub returns-in_default : goal.returns-in_default
returns-in_default c =
    let w = c.args.switches in
    c.two_ids.ensures ∙ rw (both_of_two w.ids w.count (search rules) (λ e. omega (arith, c.in_default)) (λ e. omega (arith, c.in_default)))
