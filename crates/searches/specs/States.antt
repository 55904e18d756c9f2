-- What the code holds of a feeder's states: the bytes of the listed switches.
use Rattle.std.specs.Prelude.{List, ℕ, take}
use Rattle.states.specs.declared.configuration.NetworkConfiguration.{NetworkConfiguration}
use Rattle.network.specs.declared.topology.PowerNetwork.{PowerNetwork}

-- a byte for each listed switch
unfoldable pub state_of : PowerNetwork → NetworkConfiguration → List ℕ
state_of n c = take n.switch_count c.switches
