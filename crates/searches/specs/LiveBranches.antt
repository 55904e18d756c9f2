-- Radiality and losses depend on the live branches alone. No radial state has all live branches of another and more besides: no tree is a part of another.
use Rattle.std.specs.Prelude.{◌≡◌, true, ℕ, ◌<◌}
use Rattle.std.proofs.Common.{sym, ap, ◌∙◌}
use Rattle.std.proofs.Math.Path.{fun_ext}
use Rattle.numbers.specs.Tests.{same_test}
use Rattle.network.specs.Records.{Network}
use Rattle.network.specs.Inside.{Inside}
use Rattle.states.specs.Live.{live, SameLive}
use Rattle.states.specs.Switches.{State}
use Rattle.graph.specs.Radial.{radial}
use Rattle.graph.specs.Trees.{live_part_is_whole}
use Rattle.feeders.specs.Feeder.{feeder, radial_in}
use Rattle.feeders.specs.FeederLaws.{feeder_sound, radial_in_lem, inside_radial_tree}
use Rattle.losses.specs.Loss.{loss_in}
use Rattle.states.specs.LiveBytes.{live_listed}

module _ (N : Network) (s t : State) where
  pub same_radial : SameLive N s t → radial_in N s ≡ radial_in N t
  same_radial h = radial_in_lem N s ∙ ap (radial (feeder N)) (fun_ext h) ∙ sym (radial_in_lem N t)

  pub same_loss : SameLive N s t → loss_in N s ≡ loss_in N t
  unfolding loss_in
  same_loss h = rw (fun_ext h)

-- where all that is live in one radial state is live in another, the two have the same live branches
pub radial_part_same : (N : Network) → Inside N → (s t : State) → radial_in N s ≡ true → radial_in N t ≡ true → ((k : ℕ) → live N s k ≡ true → live N t k ≡ true) → SameLive N s t
unfolding feeder
radial_part_same N inside s t r v part k = same_test _ _ (part k) (λ h. same k (live_listed N t k h) ∙ h)
  where
    same : (k : ℕ) → k < (feeder N).branches → live N s k ≡ live N t k
    same = live_part_is_whole (live N s) (live N t) (feeder_sound N inside) ((inside_radial_tree N inside s).0 r) ((inside_radial_tree N inside t).0 v) part
