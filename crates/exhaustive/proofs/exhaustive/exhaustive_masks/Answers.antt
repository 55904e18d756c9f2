-- `exhaustive_masks` meets its contract: the search stands where the definition does after the masks below `mask`; the step is `up_to_more`.
use Rattle.std.proofs.Common.{◌≡◌, sym, ap, ◌∙◌, arith, ◌^◌, pow_pos}
use Rattle.numbers.specs.UpTo.{up_to, up_to_more}
use Rattle.network.specs.Records.{records_of}
use Rattle.feeders.specs.FeederRows.{live_flags}
use Rattle.exhaustive.specs.Exhaustive.{no_mask, try_mask, exhaustive}
use Rattle.exhaustive.specs.ExhaustiveTrials.{mask_passed, radial_room}
use Rattle.exhaustive.specs.ExhaustiveValues.{exhaustive_of}
use Rattle.exhaustive.proofs.MaskLaws.{few_ties, ties_counted, ties_inside, mask_flags, mask_judged}
use Rattle.exhaustive.proofs.exhaustive.exhaustive_masks.Goals as goal
use Rattle.exhaustive.proofs.exhaustive.exhaustive_masks.Goals.{then-is_radial, else-is_radial}

pub find_ties-ties-requires : goal.find_ties-ties-requires
find_ties-ties-requires c = few_ties c.args.network.now c.requires.2 c.requires.0 c.requires.1

pub count_masks-mask-end-requires : goal.count_masks-mask-end-requires
count_masks-mask-end-requires c = (ties_inside c.args.network.now c.requires.2 c.requires.0 c.requires.1 c.find_ties-ties.ensures).0

pub loop-mask-init : goal.loop-mask-init
unfolding up_to
loop-mask-init c = c.with_base-search.ensures c.args.network.now c.requires.2 c.requires.0

pub masked_live-live-requires : goal.masked_live-live-requires
masked_live-live-requires c = ties_inside c.args.network.now c.requires.2 c.requires.0 c.requires.1 c.find_ties-ties.ensures

pub with_mask-search-requires : goal.with_mask-search-requires
with_mask-search-requires c =
    let n = c.args.network.now in
    let sized = c.requires.2 in
    let closed = c.live_branches-closed_live.ensures ∙ ap (λ d. live_flags (records_of n) d.switches) c.new.ensures in (
      c.requires.0,
      c.requires.2,
      omega (arith, radial_room (records_of n) c.loop-mask.mask c.loop-mask.search c.loop-mask.invariant),
      mask_flags n sized c.requires.0 c.requires.1 c.find_ties-ties.ensures c.loop-mask.mask closed c.masked_live-live.ensures,
      sym (mask_judged n sized c.requires.0 c.requires.1 c.find_ties-ties.ensures c.loop-mask.mask closed c.masked_live-live.ensures c.is_radial.ensures) ∙ c.if-is_radial.true,
    )

pub loop-mask-preserved : goal.loop-mask-preserved
loop-mask-preserved c =
    let n = c.args.network.now in
    let N = records_of n in
    let closed = c.live_branches-closed_live.ensures ∙ ap (λ d. live_flags N d.switches) c.new.ensures in
    let judged =
    mask_judged n c.requires.2 c.requires.0 c.requires.1 c.find_ties-ties.ensures c.loop-mask.mask closed c.masked_live-live.ensures c.is_radial.ensures in
    let so_far = c.loop-mask.invariant in
    let more = ap exhaustive_of (sym (up_to_more (try_mask N) no_mask c.loop-mask.mask)) in
    elim c.if-is_radial.branch [
      | then-is_radial w ↦ w.search-is ∙ w.with_mask-search.ensures _ so_far ∙ more
      | else-is_radial w ↦ w.search-is ∙ so_far ∙ ap exhaustive_of (mask_passed N _ c.loop-mask.mask (sym judged ∙ w.if-is_radial.false)) ∙ more
    ]

pub returns : goal.returns
unfolding exhaustive
returns c =
    let n = c.args.network.now in
    let N = records_of n in
    let counted = ties_counted n c.requires.2 c.requires.0 c.requires.1 c.find_ties-ties.ensures in
    let all : c.loop-mask.mask ≡ c.count_masks-mask-end.result = omega (arith, c.count_masks-mask-end.ensures, pow_pos c.find_ties-ties.result.count) in
    c.loop-mask.invariant ∙ ap (λ m. exhaustive_of (up_to (try_mask N) no_mask m)) (all ∙ c.count_masks-mask-end.ensures ∙ ap (λ t. 2 ^ t) counted)
