-- `find_ties` meets its contract: the ties among the first switches are listed; the step is `tie_listed` or `section_skipped`.
use Rattle.std.proofs.Common.{◌≡◌, sym, ap, ◌∙◌, true, arith, ◌<◌, length-take}
use Rattle.numbers.specs.Counts.{count}
use Rattle.network.specs.declared.switch.Switch.{Switch}
use Rattle.network.specs.Records.{records_of}
use Rattle.states.specs.Listed.{few_switches, switches_listed}
use Rattle.states.specs.Switches.{size, is_tie}
use Rattle.exhaustive.specs.ExhaustiveMasks.{switch_read, tie_read}
use Rattle.exhaustive.specs.ExhaustiveValues.{ties_of}
use Rattle.exhaustive.specs.ExhaustiveTies.{tie_room, tie_listed, section_skipped}
use Rattle.exhaustive.proofs.exhaustive.find_ties.Goals as goal
use Rattle.exhaustive.proofs.exhaustive.find_ties.Goals.{then-is_tie, else-is_tie}

pub shared_ref_as_front-switch-items : goal.shared_ref_as_front-switch-items
shared_ref_as_front-switch-items c = omega (arith, few_switches c.args.network.now c.requires.0)

pub loop-switch-init : goal.loop-switch-init
unfolding count
loop-switch-init c = c.new-ties.ensures _

pub with-ties-requires : goal.with-ties-requires
with-ties-requires c =
    let n = c.args.network.now in
    let i = c.loop-switch.switch-index in
    let below : i < c.from-count.result = omega (arith, length-take {A = Switch}) in
    let tie : is_tie (records_of n) i ≡ true = tie_read n c.from-count.ensures i below c.is_tie.ensures ∙ c.if-is_tie.true in
    let listed : i < size (records_of n) = omega (arith, switches_listed n) in
    let counted : c.loop-switch.ties.count ≡ count (is_tie (records_of n)) i = unfold ties_of in ap (λ t. t.count) c.loop-switch.invariant in
    omega (arith, counted, tie_room (records_of n) i listed tie c.requires.1)

pub loop-switch-preserved : goal.loop-switch-preserved
loop-switch-preserved c =
    let n = c.args.network.now in
    let i = c.loop-switch.switch-index in
    let below : i < c.from-count.result = omega (arith, length-take {A = Switch}) in
    let read : is_tie (records_of n) i ≡ c.is_tie.result = tie_read n c.from-count.ensures i below c.is_tie.ensures in
    let listed : i < size (records_of n) = omega (arith, switches_listed n) in
    elim c.if-is_tie.branch [
      | then-is_tie w ↦
          let tie : is_tie (records_of n) i ≡ true = read ∙ w.if-is_tie.true in
          w.ties-is ∙ w.with-ties.ensures
          ∙ tie_listed (records_of n) i listed tie (tie_room (records_of n) i listed tie c.requires.1) _ c.loop-switch.invariant _ (sym (ap (λ v. v.branch_idx) (switch_read n c.from-count.ensures i below)))
      | else-is_tie w ↦ w.ties-is ∙ section_skipped (records_of n) i (read ∙ w.if-is_tie.false) _ c.loop-switch.invariant
    ]

pub returns : goal.returns
returns c =
    let n = c.args.network.now in
    let few = few_switches n c.requires.0 in
    let all : c.loop-switch.switch-index ≡ size (records_of n) = omega (arith, length-take c.from-count.result n.switches, switches_listed n) in
    c.loop-switch.invariant ∙ ap (λ m. ties_of (records_of n) (count (is_tie (records_of n)) m)) all
