-- `base_is_radial` meets its contract: the rows of the graph and the flags of the base's live branches say it.
use Rattle.network.specs.Records.{records_of}
use Rattle.network.proofs.ArrayLengths.{buses_256}
use Rattle.states.specs.BaseLaws.{base_good}
use Rattle.states.specs.Listed.{state_accepted}
use Rattle.states.specs.Live.{base_state}
use Rattle.feeders.specs.FeederRowLaws.{state_flags, flags_radial}
use Rattle.feeders.proofs.supply.base_is_radial.Goals as goal

pub returns : goal.returns
returns c =
    let n = c.args.network in
    let N = records_of n in
    let live = state_flags N (base_state N) 0 c.requires ((state_accepted N (base_state N) 0).1 (base_good N)) _ _ c.build_base_configuration.ensures c.live_branches-live.ensures in
    flags_radial n (buses_256 n c.well_formed.0) c.requires (base_state N) _ _ c.graph_of.ensures live _ c.is_radial.ensures
