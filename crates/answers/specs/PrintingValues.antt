-- What the printer's functions are handed: a network that has passed its test, with the bytes of its base and of its best state, and a result whose floats have bits.
use Rattle.std.specs.Prelude.{◌≡◌, not, List, ℕ, T}
use Rattle.std.specs.Float.Ieee.{is_nan}
use Rattle.network.specs.declared.topology.PowerNetwork.{PowerNetwork}
use Rattle.network.specs.Answers.{accepted}
use Rattle.feeders.specs.Supply.{check_network}
use Rattle.states.specs.Live.{base_state}
use Rattle.network.specs.Records.{records_of}
use Rattle.searches.specs.declared.answer.ReconfigResult.{ReconfigResult}
use Rattle.reconfiguration.specs.Solve.{best}

abbrev pub Searched : PowerNetwork → List ℕ → List ℕ → Type 0
Searched n base found =
    (check_network (records_of n) ≡ accepted tt)
    × (base ≡ base_state (records_of n))
    × (found ≡ (best (records_of n)).state)

abbrev pub HasBits : ReconfigResult → Type 0
HasBits r = T (not (is_nan r.base_losses_mw)) × T (not (is_nan r.optimized_losses_mw)) × T (not (is_nan r.loss_reduction_pct))
