-- The base of a network that has been checked, written by the code: the slice is too short, or it holds the base.
use mathlib.Core.Path.{◌≡◌, refl, sym, ap, ◌∙◌}
use mathlib.Core.List.{List}
use Prim.Native.Nat.{ℕ, ◌≤◌, ◌<◌}
use lib.ListN.{length, take}
use Rattle.network.specs.Answers.{accepted, refused}
use Rattle.network.specs.Check.{check_records}
use Rattle.network.specs.Records.{records_of}
use Rattle.network.specs.declared.topology.PowerNetwork.{PowerNetwork}
use Rattle.states.specs.declared.configuration.NetworkConfiguration.{NetworkConfiguration}
use Rattle.states.specs.Configuration.{configuration_of}
use Rattle.states.specs.Listed.{switches_listed}
use Rattle.states.specs.Live.{base_state}
use Rattle.slices.specs.Written.{written}
use Rattle.printing.specs.CallLaws.{call_short, call_done}
use Rattle.searches.specs.StateLaws.{base_long, base_held}
use Rattle.controller.specs.Calls.{base_call}

module _ (n : PowerNetwork) (ok : check_records (records_of n) ≡ accepted tt) (out : List ℕ) where
  pub base_short : length out < n.switch_count → record { answer = refused 13 0; out = out } ≡ base_call (records_of n) out
  unfolding base_call
  base_short h = call_short _ (base_state (records_of n)) out refl (base_long n) h

  pub base_done : n.switch_count ≤ length out
      → {base : NetworkConfiguration} → base ≡ configuration_of (base_state (records_of n)) → {after : List ℕ} → after ≡ written (take n.switch_count base.switches) out
      → record { answer = accepted n.switch_count; out = after } ≡ base_call (records_of n) out
  unfolding base_call
  base_done room b {after} w =
      ap (λ k. record { answer = accepted k; out = after }) (sym (switches_listed n))
      ∙ call_done _ (base_state (records_of n)) out refl (base_long n) room (rw (w, base_held n ok b))
