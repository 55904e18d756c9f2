-- Refusal 11, as the graph and the flags of a state show it.
use Rattle.std.specs.Prelude.{◌≡◌, refl, ◌↔◌, Bool, true, List, ℕ, length}
use Rattle.std.proofs.Common.{ap, ◌∙◌}
use Rattle.network.specs.declared.topology.PowerNetwork.{PowerNetwork}
use Rattle.network.specs.Records.{Network, records_of}
use Rattle.network.specs.Answers.{accepted, Judgement}
use Rattle.network.specs.AnswerLaws.{judge_accepted}
use Rattle.network.specs.Check.{check_records}
use Rattle.states.specs.Switches.{State}
use Rattle.graph.specs.declared.rows.Graph.{Graph}
use Rattle.graph.specs.Rows.{row_radial}
use Rattle.feeders.specs.Feeder.{radial_in}
use Rattle.feeders.specs.FeederRows.{feeder_graph, live_flags}
use Rattle.feeders.specs.FeederRowLaws.{flags_radial}
use Rattle.feeders.specs.StateCalls.{judge_radial, check_radial}

-- judged by the graph and the flags it is judged as the definition has it
pub radial_judged : (n : PowerNetwork) → length n.buses ≡ 256 → check_records (records_of n) ≡ accepted tt → (s : State) (place : ℕ)
    → {graph : Graph} → graph ≡ feeder_graph n → {live : List Bool} → live ≡ live_flags (records_of n) s
    → {a : Judgement} → a ≡ judge_radial (row_radial graph live) place → a ≡ check_radial (records_of n) s place
unfolding check_radial
radial_judged n buses passed s place {graph} g {live} l j = j ∙ ap (λ b. judge_radial b place) (flags_radial n buses passed s graph live g l (row_radial graph live) refl)

-- it is passed exactly where the state is radial
pub radial_accepted : (N : Network) (s : State) (place : ℕ) → (check_radial N s place ≡ accepted tt) ↔ (radial_in N s ≡ true)
unfolding check_radial
radial_accepted N s place = judge_accepted 11 (radial_in N s) place
