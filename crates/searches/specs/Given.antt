-- What the searches' functions are handed: a network that has passed its test, with its rows and loads, its base with the loss, and configurations with nothing behind the listed switches.
use Rattle.std.specs.Prelude.{◌≡◌, Float}
use Rattle.states.specs.declared.configuration.NetworkConfiguration.{NetworkConfiguration}
use Rattle.network.specs.declared.topology.PowerNetwork.{PowerNetwork}
use Rattle.network.specs.Answers.{accepted}
use Rattle.network.specs.Check.{check_records}
use Rattle.states.specs.Configuration.{configuration_of}
use Rattle.states.specs.Live.{base_state}
use Rattle.network.specs.Records.{records_of}
use Rattle.graph.specs.declared.rows.Graph.{Graph}
use Rattle.feeders.specs.FeederRows.{feeder_graph}
use Rattle.feeders.specs.Supply.{check_network, check_supply}
use Rattle.losses.specs.declared.loads.Loads.{Loads}
use Rattle.losses.specs.Loss.{loss_in}
use Rattle.losses.specs.LiveLoss.{loads_of}
use Rattle.searches.specs.declared.start.Start.{Start}
use Rattle.searches.specs.SearchValues.{start_of}
use Rattle.searches.specs.States.{state_of}

-- the test in its two parts: most laws want the records' part alone
abbrev pub Given : PowerNetwork → Graph → Loads → Type 0
Given n g loads = (check_records (records_of n) ≡ accepted tt) × (g ≡ feeder_graph n) × (loads ≡ loads_of n) × (check_supply (records_of n) ≡ accepted tt)

-- document 01's base, from which every search starts, with its loss
abbrev pub Base : PowerNetwork → NetworkConfiguration → Float → Type 0
Base n base loss = (base ≡ configuration_of (base_state (records_of n))) × (loss ≡ loss_in (records_of n) (base_state (records_of n)))

-- behind the listed switches a configuration has 00
abbrev pub Held : PowerNetwork → NetworkConfiguration → Type 0
Held n c = c ≡ configuration_of (state_of n c)

-- what a search is handed: a network that has passed its test, and where every search of it starts
abbrev pub Started : PowerNetwork → Start → Type 0
Started n start = (check_network (records_of n) ≡ accepted tt) × (start ≡ start_of n)
