-- `add_live` meets its contract: after k turns the first k branches are added.
use Rattle.std.proofs.Common.{rules, arith, length, ◌≡◌}
use Rattle.forms.proofs.Labelling.{none_added, all_added}
use Rattle.forms.proofs.form.add_live.Goals as goal

pub loop-k-init : goal.loop-k-init
loop-k-init c = none_added _ _ c.own_labels.ensures

pub returns : goal.returns
returns c =
    let long : length c.args.live.now ≡ 512 = search rules in
    all_added _ c.args.live.now long (omega arith) c.loop-k.invariant
