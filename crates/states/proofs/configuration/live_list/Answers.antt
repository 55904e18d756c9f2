-- `live_list` meets its contract: the first k flags say which branches are live, the others are still false. A branch that is not listed is not live.
use Rattle.std.proofs.Common.{◌≡◌, ◌<◌, ◌∙◌, ap, arith, false, not, ◌&&◌, take, get_or, get_or-take, length-take}
use Rattle.std.proofs.Math.ListN.{get_or-eq_default}
use Rattle.numbers.specs.TableLaws.{any_default, replicate_table, filled_none, filled_more, filled_all}
use Rattle.network.specs.declared.branch.Branch.{Branch}
use Rattle.network.specs.Records.{no_branch}
use Rattle.states.specs.LiveLaws.{live_by}
use Rattle.states.proofs.configuration.live_list.Goals as goal

pub loop-k-init : goal.loop-k-init
loop-k-init c = replicate_table false 512 ∙ filled_none (live_by c.args.branches.now c.args.opened.now) false 512

pub loop-k-preserved : goal.loop-k-preserved
unfolding live_by
loop-k-preserved c =
    let branches = c.args.branches.now in
    let k = c.loop-k.k in
    let h : k < c.min-count.result = omega (arith, length-take {A = Branch}) in
    let here : (d : Branch) → get_or (take c.min-count.result branches) k d ≡ get_or branches k no_branch
    = λ d. any_default (take c.min-count.result branches) k d no_branch c.loop-k-test.true ∙ get_or-take c.min-count.result branches k no_branch h in
    let e : c.is_live.result ≡ live_by branches c.args.opened.now k = c.is_live.ensures ∙ ap (λ (b : Branch). b.status && not (get_or c.args.opened.now k false)) (here _) in
    rw (c.loop-k.invariant, e) (filled_more _ false 512 k (omega arith))

pub returns : goal.returns
unfolding live_by
returns c =
    let branches = c.args.branches.now in
    c.loop-k.invariant
    ∙ filled_all _ false 512 c.loop-k.k (λ j h l. rw (get_or-eq_default branches no_branch {n = j} (omega (arith, length-take c.min-count.result branches))))
