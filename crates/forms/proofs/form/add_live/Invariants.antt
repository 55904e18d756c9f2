-- `add_live` meets its contract: after k turns the first k branches are added.
use Rattle.graph.specs.Rows.{flag, row_net}
use Rattle.forms.specs.Adding.{Adding}
use Rattle.forms.proofs.form.add_live.Given as goal

abbrev pub invariant-loop-k : goal.invariant-loop-k
invariant-loop-k l = Adding (row_net l.graph) (flag l.live) l.k l.added
