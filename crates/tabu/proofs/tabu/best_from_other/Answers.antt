-- `best_from_other` meets its contract: the best is that of the first i switches.
use mathlib.Core.Path.{◌≡◌, refl, sym, ap, ◌∙◌}
use Rattle.std.specs.Prelude.{None}
use Rattle.std.proofs.Common.{arith, length-take}
use Rattle.numbers.specs.UpTo.{up_to}
use Rattle.network.specs.Records.{records_of}
use Rattle.states.specs.Listed.{few_switches, switches_listed}
use Rattle.states.specs.Switches.{size, toggled}
use Rattle.feeders.specs.FeederRowLaws.{flags_radial}
use Rattle.feeders.specs.SupplyLaws.{network_records}
use Rattle.searches.specs.StartLaws.{start_given}
use Rattle.searches.specs.StateRows.{flags_loss}
use Rattle.tabu.specs.Tabu.{seeing, best_move}
use Rattle.tabu.specs.TabuMoves.{seen_more, see_not_radial, decides_read, see_undecided, see_turning, toggled_flags}
use Rattle.tabu.specs.TabuValues.{candidate_of}
use Rattle.tabu.proofs.RoundReads.{read_below, read_here, read_on}
use Rattle.tabu.proofs.tabu.best_from_other.Goals as goal
use Rattle.tabu.proofs.tabu.best_from_other.Goals.{then-is_deciding+then-is_radial, then-is_deciding+else-is_radial, else-is_deciding}

pub loop-i-init : goal.loop-i-init
unfolding candidate_of up_to
loop-i-init c = λ x s r. refl

pub shared_ref_as_front-switch-items : goal.shared_ref_as_front-switch-items
shared_ref_as_front-switch-items c = omega (arith, few_switches c.args.network.now (network_records _ c.requires.0.0))

pub bounds-configuration-i : goal.bounds-configuration-i
bounds-configuration-i c = let n = c.args.network.now in omega (arith, few_switches n (network_records _ c.requires.0.0), length-take c.from-count.result n.switches)

pub bounds-network-on : goal.bounds-network-on
bounds-network-on c = read_on c.args.network.now _ _ c.from-count.ensures c.loop-i-test.true (network_records _ c.requires.0.0) _ c.from-on.ensures

pub bounds-counts-on : goal.bounds-counts-on
bounds-counts-on c = read_on c.args.network.now _ _ c.from-count.ensures c.loop-i-test.true (network_records _ c.requires.0.0) _ c.from-on.ensures

pub loop-i-preserved : goal.loop-i-preserved
loop-i-preserved c =
    let n = c.args.network.now in
    let y = c.args.search.now in
    let sized = c.requires.1 in
    let ok = network_records (records_of n) c.requires.0.0 in
    let given = start_given n sized c.requires.0.0 c.requires.0.1 in
    let i = c.loop-i.i in
    let below = read_below n _ _ c.from-count.ensures c.loop-i-test.true in
    let here = read_here n _ _ c.from-count.ensures c.loop-i-test.true in
    let deciding = sym c.is_deciding.ensures in
    λ x s r.
    let so_far = c.loop-i.invariant x s r in
    let t = toggled x.state i in
    let decided = c.decides_branch-decides.ensures ∙ decides_read n y x s ok i below _ here c.requires.2 _ c.open_counts-counts.ensures _ c.from-on.ensures in
    seen_more _ _ _ _
    (elim c.if-is_deciding.branch [
      | then-is_deciding+then-is_radial w ↦
          let can = deciding ∙ w.if-is_deciding.true in
          let flags = w.toggled_live-toggled.ensures ∙ toggled_flags n y x s ok i below _ here _ decided can _ c.live_branches-live.ensures _ c.from-on.ensures in
          let radial = flags_radial n sized ok t _ _ given.1 flags _ w.is_radial.ensures in
          let so = sym radial ∙ w.if-is_radial.true in
          let loss = flags_loss n sized given t (λ _ _. so) flags _ w.live_loss-loss.ensures in
          w.best-is ∙ see_turning n y x s ok i below _ here _ decided _ _ so_far _ can so _ loss w.see_toggle-best.ensures
      | then-is_deciding+else-is_radial w ↦
          let can = deciding ∙ w.if-is_deciding.true in
          let flags = w.toggled_live-toggled.ensures ∙ toggled_flags n y x s ok i below _ here _ decided can _ c.live_branches-live.ensures _ c.from-on.ensures in
          let radial = flags_radial n sized ok t _ _ given.1 flags _ w.is_radial.ensures in
          w.best-is ∙ see_not_radial n y x s ok i below _ here _ decided _ _ so_far (sym radial ∙ w.if-is_radial.false)
      | else-is_deciding w ↦ w.best-is ∙ see_undecided n y x s ok i below _ here _ decided _ _ so_far r (deciding ∙ w.if-is_deciding.false)
    ])

pub returns : goal.returns
unfolding best_move
returns c =
    let n = c.args.network.now in
    let ok = network_records (records_of n) c.requires.0.0 in
    let all : c.loop-i.i ≡ size (records_of n) = omega (arith, switches_listed n, few_switches n ok, length-take c.from-count.result n.switches) in
    λ x s r. c.loop-i.invariant x s r ∙ ap (λ m. candidate_of (up_to (seeing (records_of n) x) None m)) all
