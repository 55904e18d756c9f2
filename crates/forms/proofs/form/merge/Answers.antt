-- `merge` meets its contract: the labels in front of the index are changed.
use Rattle.std.proofs.Common.{rules, arith, ◌<◌, length, get_or}
use Rattle.std.proofs.lemmas.List.{get_or_default}
use Rattle.std.proofs.lemmas.List.Edits.{map_over_more}
use Rattle.graph.specs.Form.{relabel}
use Rattle.forms.proofs.form.merge.Goals as goal

pub loop-each-preserved : goal.loop-each-preserved
loop-each-preserved c =
    let at = c.loop-each.each-index in
    let now = c.loop-each.label in
    let inside : at < length c.args.label.now = omega arith in
    let here : at < length now = search rules in
    rw c.relabelled.ensures (map_over_more (relabel c.args.kept c.args.gone) _ now at (get_or now at 0) inside c.loop-each.invariant (get_or_default now at 0 _ here))
