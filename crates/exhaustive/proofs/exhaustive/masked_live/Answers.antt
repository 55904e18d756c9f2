-- `masked_live` meets its contract: the first ties are opened or left closed, and their bits are taken.
use Rattle.std.proofs.Common.{rules, ◌≡◌, ◌<◌, length, get_or, length-take, get_or-take, refl, sym, ap, ◌∙◌, arith, div-one}
use Rattle.numbers.specs.UpTo.{up_to}
use Rattle.exhaustive.specs.ExhaustiveValues.{opening, opened_by}
use Rattle.exhaustive.specs.ExhaustiveMasks.{low_bit}
use Rattle.exhaustive.specs.ExhaustiveTies.{rest_next, tie_opened, tie_left}
use Rattle.exhaustive.proofs.exhaustive.masked_live.Goals as goal
use Rattle.exhaustive.proofs.exhaustive.masked_live.Goals.{then-rest-eq0, else-rest-eq0}

pub loop-branch-init : goal.loop-branch-init
unfolding up_to
loop-branch-init c = record { flags = refl; bits = sym (div-one c.args.mask) }

pub loop-branch-preserved : goal.loop-branch-preserved
loop-branch-preserved c =
    let ties = c.args.ties in
    let t = c.loop-branch.branch-index in
    let below : t < ties.count = omega (arith, length-take ties.count ties.on) in
    let on : c.from-on.result ≡ get_or ties.on t 0 = c.from-on.ensures ∙ get_or-take ties.count ties.on t 0 below in
    let bits = c.loop-branch.invariant.bits in
    let low = low_bit c.loop-branch.rest in
    record {
      flags = elim c.if-rest-eq0.branch [
        | then-rest-eq0 w ↦ w.live-is ∙ rw on (tie_opened ties c.args.mask t _ bits _ _ c.loop-branch.invariant.flags (sym low ∙ w.if-rest-eq0.true))
        | else-rest-eq0 w ↦ w.live-is ∙ tie_left ties c.args.mask t _ bits _ _ c.loop-branch.invariant.flags (λ e. w.if-rest-eq0.false (low ∙ e))
      ];
      bits = rest_next ties c.args.mask t _ bits;
    }

pub returns : goal.returns
unfolding opened_by
returns c =
    let ties = c.args.ties in
    let ten : length ties.on ≡ 10 = search rules in
    let all : c.loop-branch.branch-index ≡ ties.count = omega (arith, length-take ties.count ties.on) in
    c.loop-branch.invariant.flags ∙ ap (up_to (opening ties c.args.mask) c.args.closed_live) all
