-- `PowerNetwork::new` meets its contract: arrays that repeat the empty record are what `padded` gives for no records.
use mathlib.Core.Path.{refl}
use lib.Ieee.{of_bits}
use Rattle.numbers.specs.Arrays.{padded}
use Rattle.network.specs.Records.{network_of}
use Rattle.network.proofs.topology.PowerNetwork.new.Goals as goal

pub returns : goal.returns
unfolding of_bits network_of padded
returns c = refl
