-- `best_from_radial` meets its contract: the best is that of the first i switches.
use mathlib.Core.Path.{◌≡◌, refl, sym, ap, ◌∙◌}
use Rattle.std.specs.Prelude.{None}
use Rattle.std.proofs.Common.{arith, length-take}
use Rattle.numbers.specs.UpTo.{up_to}
use Rattle.network.specs.Records.{records_of}
use Rattle.states.specs.Listed.{few_switches, switches_listed}
use Rattle.states.specs.Switches.{size}
use Rattle.tabu.specs.Tabu.{seeing, best_move}
use Rattle.tabu.specs.TabuMoves.{seen_more, decides_read, see_decided, see_idle}
use Rattle.tabu.specs.TabuValues.{candidate_of}
use Rattle.tabu.proofs.RoundReads.{read_below, read_here, read_on}
use Rattle.tabu.proofs.tabu.best_from_radial.Goals as goal
use Rattle.tabu.proofs.tabu.best_from_radial.Goals.{else-is_idle, then-is_idle}

pub loop-i-init : goal.loop-i-init
unfolding candidate_of up_to
loop-i-init c = λ x s r. refl

pub bounds-network-on : goal.bounds-network-on
bounds-network-on c = read_on c.args.network.now _ _ c.from-count.ensures c.loop-i-test.true c.requires.0 _ c.from-on.ensures

pub bounds-counts-on : goal.bounds-counts-on
bounds-counts-on c = read_on c.args.network.now _ _ c.from-count.ensures c.loop-i-test.true c.requires.0 _ c.from-on.ensures

pub loop-i-preserved : goal.loop-i-preserved
loop-i-preserved c =
    let n = c.args.network.now in
    let y = c.args.search.now in
    let ok = c.requires.0 in
    let i = c.loop-i.i in
    let below = read_below n _ _ c.from-count.ensures c.loop-i-test.true in
    let here = read_here n _ _ c.from-count.ensures c.loop-i-test.true in
    λ x s r.
    let so_far = c.loop-i.invariant x s r in
    let decided = c.decides_branch-decides.ensures ∙ decides_read n y x s ok i below _ here (c.requires.1) _ c.open_counts-counts.ensures _ c.from-on.ensures in
    seen_more _ _ _ _
    (elim c.if-is_idle.branch [
      | then-is_idle w ↦ w.best-is ∙ see_idle n y x s ok i below _ here _ decided _ _ so_far _ r (sym c.is_idle.ensures ∙ w.if-is_idle.true) w.see_toggle-best.ensures
      | else-is_idle w ↦ w.best-is ∙ see_decided n y x s ok i below _ here _ decided _ _ so_far r (sym c.is_idle.ensures ∙ w.if-is_idle.false)
    ])

pub returns : goal.returns
unfolding best_move
returns c =
    let n = c.args.network.now in
    let all : c.loop-i.i ≡ size (records_of n) = omega (arith, switches_listed n, few_switches n c.requires.0, length-take c.from-count.result n.switches) in
    λ x s r. c.loop-i.invariant x s r ∙ ap (λ m. candidate_of (up_to (seeing (records_of n) x) None m)) all
