-- `NetworkConfiguration::of` meets its contract: the state's bytes stand in front of closed switches.
use Rattle.std.proofs.Common.{ap}
use Rattle.states.specs.LiveLaws.{copied}
use Rattle.states.proofs.configuration.NetworkConfiguration.of.Goals as goal

pub returns : goal.returns
returns c =
    ap (λ l. record { switches = l })
    (copied 512 c.min-count.result c.args.state.now c.min-count.ensures c.copy_from_slice.ensures.after (ap (λ n. n.switches) c.new.ensures))
