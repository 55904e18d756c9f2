-- What the search knows of a mask: its ties are at most ten, the flags of the code are those of its live branches, and they decide whether it is radial.
use Rattle.std.proofs.Common.{◌≡◌, ap, ◌∙◌, arith, Bool, List, ℕ, ◌≤◌, ◌<◌, [], get_or, length}
use Rattle.network.specs.declared.switch.ReconfigAlgorithm.TheVariants as method
use Rattle.network.specs.declared.topology.PowerNetwork.{PowerNetwork}
use Rattle.network.specs.Answers.{accepted}
use Rattle.network.specs.Check.{check_records}
use Rattle.network.specs.InsideLaws.{check_inside}
use Rattle.network.specs.Records.{Network, records_of}
use Rattle.states.specs.Configuration.{configuration_of}
use Rattle.graph.specs.Rows.{row_radial}
use Rattle.feeders.specs.Feeder.{radial_in}
use Rattle.feeders.specs.FeederRows.{live_flags}
use Rattle.feeders.specs.FeederRowLaws.{flags_radial}
use Rattle.feeders.specs.SupplyLaws.{network_records}
use Rattle.searches.specs.declared.start.Start.{Start}
use Rattle.searches.specs.Given.{Started}
use Rattle.searches.specs.StartLaws.{start_given}
use Rattle.exhaustive.specs.declared.exhaustive.Ties.{Ties}
use Rattle.exhaustive.specs.Exhaustive.{tie_count, masked}
use Rattle.exhaustive.specs.ExhaustiveTies.{ten_ties, ties_on, masked_flags}
use Rattle.exhaustive.specs.ExhaustiveValues.{ties_of, opened_by}

module _ (n : PowerNetwork) (sized : length n.buses ≡ 256) {start : Start} (started : Started n start) (asks : n.algorithm ≡ method.Exhaustive) where
  abbrev N : Network
  N = records_of n

  ok : check_records N ≡ accepted tt
  ok = network_records N started.0

  few : tie_count N ≤ 10
  few = ten_ties n ok asks

  pub few_ties : (check_records N ≡ accepted tt) × (tie_count N ≤ 10)
  few_ties = (ok, few)

  module _ {ties : Ties} (t : ties ≡ ties_of N (tie_count N)) where
    pub ties_counted : ties.count ≡ tie_count N
    unfolding ties_of
    ties_counted = ap (λ x. x.count) t

    pub ties_inside : (ties.count ≤ 10) × ((j : ℕ) → get_or ties.on j 0 < 512)
    ties_inside = (omega (arith, ties_counted, few), rw t (ties_on N ((check_inside N).0 ok) (tie_count N)))

    module _ (mask : ℕ) {closed live : List Bool} (c : closed ≡ live_flags N (configuration_of []).switches) (l : live ≡ opened_by ties mask closed) where
      pub mask_flags : live ≡ live_flags N (masked N mask)
      mask_flags = l ∙ rw (t, c) (masked_flags N ((check_inside N).0 ok) few mask)

      pub mask_judged : {r : Bool} → r ≡ row_radial start.graph live → r ≡ radial_in N (masked N mask)
      mask_judged e = flags_radial n sized ok (masked N mask) _ _ (start_given n sized started.0 started.1).1 mask_flags _ e
