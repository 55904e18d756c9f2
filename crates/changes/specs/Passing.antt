-- What the checks leave for the code behind them: the flags of live branches, a byte for each switch, and with a change accepted its graph and its flags.
use Rattle.std.specs.Prelude.{◌≡◌, refl, Ok, Bool, ℕ, ◌≤◌, length}
use Rattle.std.proofs.Math.Path.{ap}
use Rattle.std.proofs.Common.{◌∙◌}
use Rattle.network.specs.declared.topology.PowerNetwork.{PowerNetwork}
use Rattle.network.specs.Records.{records_of}
use Rattle.network.specs.Answers.{accepted, answer_of}
use Rattle.network.specs.AnswerLaws.{then_iff, accepted_so}
use Rattle.network.specs.Check.{check_records}
use Rattle.states.specs.Configuration.{configuration_of}
use Rattle.network.specs.Inside.{Inside}
use Rattle.network.specs.InsideLaws.{check_inside}
use Rattle.states.specs.Listed.{switches_listed, few_switches, state_accepted}
use Rattle.states.specs.Live.{live, check_state}
use Rattle.states.specs.Switches.{State}
use Rattle.graph.specs.Rows.{flag}
use Rattle.feeders.specs.FeederRows.{feeder_graph, live_flags}
use Rattle.feeders.specs.FeederRowLaws.{flags_live, state_flags}
use Rattle.feeders.specs.SupplyLaws.{network_records}
use Rattle.changes.specs.declared.change.Change.{Change}
use Rattle.changes.specs.Change.{check_plan, flags_in, Judged, judged_in, judged}

-- the network has passed its check, and both states have passed 10
pub record Checked (n : PowerNetwork) (present wanted : State) : Type 0 where
  pub network : check_records (records_of n) ≡ accepted tt
  pub present_good : check_state (records_of n) present 0 ≡ accepted tt
  pub wanted_good : check_state (records_of n) wanted 1 ≡ accepted tt

-- the change's graph and its flags are those of the network and the states
pub record Made (n : PowerNetwork) (present wanted : State) (change : Change) : Type 0 where
  pub graph : change.graph ≡ feeder_graph n
  pub present_live : change.present_live ≡ flags_in n present
  pub wanted_live : change.wanted_live ≡ flags_in n wanted

-- the change is accepted, and its graph and its flags are those of the network and the states
pub record Passed (n : PowerNetwork) (change : Change) (present wanted : State) : Type 0 where
  pub ok : check_plan (records_of n) present wanted ≡ accepted tt
  pub graph : change.graph ≡ feeder_graph n
  pub present_live : change.present_live ≡ live_flags (records_of n) present
  pub wanted_live : change.wanted_live ≡ live_flags (records_of n) wanted

module _ (n : PowerNetwork) where
  module _ (passed : check_records (records_of n) ≡ accepted tt) where
    pub inside : Inside (records_of n)
    inside = (check_inside (records_of n)).0 passed

    pub flag_live : (s : State) (k : ℕ) → flag (live_flags (records_of n) s) k ≡ live (records_of n) s k
    flag_live s k = ap (λ (E : ℕ → Bool). E k) (flags_live (records_of n) s inside.counts.1)

    pub flags_so : (s : State) (place : ℕ) → check_state (records_of n) s place ≡ accepted tt → flags_in n s ≡ live_flags (records_of n) s
    flags_so s place good = state_flags (records_of n) s place passed good (configuration_of s) (flags_in n s) refl refl

  pub verdict_so : (present wanted : State) (change : Change) → judged_in change ≡ judged n present wanted → answer_of change.verdict ≡ check_plan (records_of n) present wanted
  unfolding judged
  verdict_so present wanted change e = ap (λ (j : Judged). j.answer) e

  module _ {present wanted : State} where
    -- a byte for each switch, and room for them
    pub checked_counts : Checked n present wanted → (length present ≡ n.switch_count) × (length wanted ≡ n.switch_count) × (n.switch_count ≤ 512)
    checked_counts g = (
      ((state_accepted (records_of n) _ 0).0 g.present_good).long ∙ switches_listed n,
      ((state_accepted (records_of n) _ 1).0 g.wanted_good).long ∙ switches_listed n,
      few_switches n g.network,
    )

    -- the flags are those of the two states
    pub made_flags : Checked n present wanted → {change : Change} → Made n present wanted change
        → (change.present_live ≡ live_flags (records_of n) present) × (change.wanted_live ≡ live_flags (records_of n) wanted)
    made_flags g made = (made.present_live ∙ flags_so g.network present 0 g.present_good, made.wanted_live ∙ flags_so g.network wanted 1 g.wanted_good)

    accepted_checked : check_plan (records_of n) present wanted ≡ accepted tt → Checked n present wanted
    unfolding check_plan
    accepted_checked ok =
        let (r, e₁) = (then_iff _ _).0 ok in
        let (p, e₂) = (then_iff _ _).0 e₁ in
        record { network = network_records (records_of n) r; present_good = p; wanted_good = ((then_iff _ _).0 e₂).0 }

    pub accepted_passed : {change : Change} {u : Unit {0}} → change.verdict ≡ Ok u → judged_in change ≡ judged n present wanted → Passed n change present wanted
    unfolding judged
    accepted_passed {change} v e =
        let ok = accepted_so v (verdict_so present wanted change e) in
        let made : Made n present wanted change = record { graph = ap (λ (j : Judged). j.graph) e; present_live = ap (λ (j : Judged). j.present_live) e; wanted_live = ap (λ (j : Judged). j.wanted_live) e } in
        let flags = made_flags (accepted_checked ok) made in
        record { ok = ok; graph = made.graph; present_live = flags.0; wanted_live = flags.1 }
