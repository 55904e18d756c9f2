-- `merge` meets its contract: the labels in front of the index are changed.
use Rattle.std.proofs.Common.{◌≡◌, map, take, drop, ◌++◌}
use Rattle.graph.specs.Form.{relabel}
use Rattle.forms.proofs.form.merge.Given as goal

abbrev pub invariant-loop-each : goal.invariant-loop-each
invariant-loop-each l = l.label ≡ map (relabel l.kept l.gone) (take l.each-index l.initial.label) ++ drop l.each-index l.initial.label
