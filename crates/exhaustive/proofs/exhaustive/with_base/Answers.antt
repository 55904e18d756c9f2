-- `with_base` meets its contract: the base is the state of mask 0, and counts where it is radial.
use Rattle.std.proofs.Common.{◌≡◌, sym, ap, ◌∙◌, true, false, arith}
use Rattle.network.specs.Records.{records_of}
use Rattle.feeders.specs.Feeder.{radial_in}
use Rattle.feeders.specs.SupplyLaws.{network_records}
use Rattle.searches.specs.StartLaws.{start_base, start_radial}
use Rattle.states.specs.Live.{base_state}
use Rattle.exhaustive.specs.Exhaustive.{no_mask, with_loss}
use Rattle.exhaustive.specs.ExhaustiveTrials.{base_passed, base_radial_lem}
use Rattle.exhaustive.specs.ExhaustiveValues.{exhaustive_of}
use Rattle.exhaustive.proofs.exhaustive.with_base.Goals as goal

pub with_radial-requires : goal.with_radial-requires
unfolding exhaustive_of
with_radial-requires c = let none : c.new-none.result.radial_count ≡ 0 = ap (λ s. s.radial_count) c.new-none.ensures in omega arith

pub returns-then-start : goal.returns-then-start
returns-then-start c =
    λ n sized started.
    let N = records_of n in
    let base = start_base n sized started.0 started.1 in
    let radial : radial_in N (base_state N) ≡ true = sym (start_radial n sized (network_records N started.0) started.1) ∙ c.if-start.true in
    c.with_radial.ensures no_mask (with_loss N (base_state N)) c.new-none.ensures (c.base_of.ensures ∙ rw (base.0, base.1)) ∙ ap exhaustive_of (base_radial_lem N radial)

pub returns : goal.returns
returns c =
    λ n sized started.
    let N = records_of n in
    let other : radial_in N (base_state N) ≡ false = sym (start_radial n sized (network_records N started.0) started.1) ∙ c.if-start.false in
    c.new-none.ensures ∙ ap exhaustive_of (base_passed N other)
