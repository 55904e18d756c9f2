-- Of a network that has passed its test, where a search starts is document 01's base with its radiality and its loss.
use Rattle.std.specs.Prelude.{◌≡◌, length}
use Rattle.std.proofs.Math.Path.{refl, ap}
use Rattle.network.specs.declared.topology.PowerNetwork.{PowerNetwork}
use Rattle.network.specs.Records.{Network, records_of}
use Rattle.network.specs.Answers.{accepted}
use Rattle.network.specs.Check.{check_records}
use Rattle.states.specs.Listed.{state_accepted}
use Rattle.states.specs.Configuration.{configuration_of}
use Rattle.states.specs.Live.{base_state}
use Rattle.feeders.specs.Feeder.{radial_in}
use Rattle.feeders.specs.FeederRows.{live_flags}
use Rattle.feeders.specs.FeederRowLaws.{state_flags, flags_radial}
use Rattle.feeders.specs.Supply.{check_network}
use Rattle.feeders.specs.SupplyLaws.{network_records, network_supply, base_radial_lem}
use Rattle.searches.specs.declared.start.Start.{Start}
use Rattle.states.specs.BaseLaws.{base_good}
use Rattle.searches.specs.Given.{Given, Base}
use Rattle.searches.specs.SearchValues.{start_of}
use Rattle.searches.specs.StateRows.{flags_loss}

-- the flags from which both are taken are those of the base
base_flags : (N : Network) → check_records N ≡ accepted tt → live_flags N (configuration_of (base_state N)).switches ≡ live_flags N (base_state N)
base_flags N ok = state_flags N (base_state N) 0 ok ((state_accepted N (base_state N) 0).1 (base_good N)) _ _ refl refl

module _ (n : PowerNetwork) (sized : length n.buses ≡ 256) (ok : check_records (records_of n) ≡ accepted tt) {start : Start} (e : start ≡ start_of n) where
  pub start_radial : start.radial ≡ radial_in (records_of n) (base_state (records_of n))
  unfolding start_of
  start_radial = flags_radial n sized ok (base_state (records_of n)) _ _ refl (base_flags (records_of n) ok) _ (ap (λ s. s.radial) e)

-- its supply has passed too
module _ (n : PowerNetwork) (sized : length n.buses ≡ 256) (tested : check_network (records_of n) ≡ accepted tt) {start : Start} (e : start ≡ start_of n) where
  pub start_given : Given n start.graph start.loads
  unfolding start_of
  start_given = (network_records (records_of n) tested, ap (λ s. s.graph) e, ap (λ s. s.loads) e, network_supply (records_of n) tested)

  pub start_base : Base n start.base start.loss
  unfolding start_of
  start_base =
      let live = base_flags (records_of n) (network_records (records_of n) tested) in
      (ap (λ s. s.base) e, flags_loss n sized (rw e at start_given) (base_state (records_of n)) (base_radial_lem (records_of n) tested) live _ (ap (λ s. s.loss) e))
