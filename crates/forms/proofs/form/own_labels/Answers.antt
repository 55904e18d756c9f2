-- `own_labels` meets its contract: each entry is what the closure answers at its position.
use Rattle.std.proofs.Common.{rules}
use Rattle.numbers.specs.TableLaws.{as_table}
use Rattle.forms.proofs.form.own_labels.Goals as goal

pub returns : goal.returns
returns c =
    let made = c.from_fn.ensures.items in
    as_table (λ x. x) 256 0 _ made.long (λ i h. let call = made.at i 0 h in search rules)
