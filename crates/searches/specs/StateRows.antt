-- The loss of a state, by the rows of its feeder and the flags of its live branches.
use Rattle.std.specs.Prelude.{◌≡◌, Bool, List, Float, length}
use Rattle.std.proofs.Common.{◌∙◌}
use Rattle.network.specs.declared.topology.PowerNetwork.{PowerNetwork}
use Rattle.network.specs.Records.{records_of}
use Rattle.graph.specs.declared.rows.Graph.{Graph}
use Rattle.feeders.specs.FeederRows.{live_flags}
use Rattle.losses.specs.declared.loads.Loads.{Loads}
use Rattle.losses.specs.Loss.{loss_in}
use Rattle.losses.specs.LiveLoss.{live_loss}
use Rattle.losses.specs.FeederLoss.{feeder_loss}
use Rattle.losses.specs.SupplySide.{Fed}
use Rattle.states.specs.Switches.{State}
use Rattle.searches.specs.Given.{Given}

-- with a supply, of a radial state: a search needs the loss of no other
pub flags_loss : (n : PowerNetwork) → length n.buses ≡ 256 → {g : Graph} {loads : Loads} → Given n g loads → (s : State) → Fed (records_of n) s
    → {flags : List Bool} → flags ≡ live_flags (records_of n) s → (r : Float) → r ≡ live_loss g loads n.branches n.base_mva flags → r ≡ loss_in (records_of n) s
flags_loss n sized given s fed b r e = e ∙ feeder_loss n sized given.0 given.3 s fed _ _ _ given.1 given.2 b
