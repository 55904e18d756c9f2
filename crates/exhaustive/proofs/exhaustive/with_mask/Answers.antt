-- `with_mask` meets its contract: the loss by the rows is the loss of the mask's state, which is one radial state more.
use Rattle.std.proofs.Common.{ap, ◌∙◌}
use Rattle.network.specs.Records.{records_of}
use Rattle.states.specs.Listed.{few_switches}
use Rattle.feeders.specs.SupplyLaws.{network_records}
use Rattle.searches.specs.StartLaws.{start_given}
use Rattle.searches.specs.StateRows.{flags_loss}
use Rattle.exhaustive.specs.Exhaustive.{masked, with_loss}
use Rattle.exhaustive.specs.ExhaustiveTrials.{mask_radial}
use Rattle.exhaustive.specs.ExhaustiveValues.{exhaustive_of}
use Rattle.exhaustive.proofs.exhaustive.with_mask.Goals as goal

pub masked-configuration-requires : goal.masked-configuration-requires
masked-configuration-requires c = few_switches c.args.network.now (network_records _ c.requires.0.0)

pub returns : goal.returns
returns c =
    let n = c.args.network.now in
    let N = records_of n in
    let sized = c.requires.1 in
    let given = start_given n sized c.requires.0.0 c.requires.0.1 in
    let loses = flags_loss n sized given (masked N c.args.mask) (λ _ _. c.requires.4) c.requires.3 _ c.live_loss-loss.ensures in
    λ x e. c.with_radial.ensures x (with_loss N (masked N c.args.mask)) e (rw (c.masked-configuration.ensures, loses)) ∙ ap exhaustive_of (mask_radial N x c.args.mask c.requires.4)
