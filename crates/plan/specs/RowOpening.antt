-- The opening that the code reads off the rows of a feeder that is accepted is the plan's.
use Rattle.std.specs.Prelude.{◌≡◌, Bool, List, ℕ, ◌≤◌, ◌<◌, length}
use Rattle.std.proofs.Common.{ap, ◌∙◌}
use Rattle.network.specs.declared.topology.PowerNetwork.{PowerNetwork}
use Rattle.network.specs.Records.{records_of}
use Rattle.network.specs.Answers.{accepted}
use Rattle.network.specs.Check.{check_records}
use Rattle.network.specs.InsideLaws.{check_inside}
use Rattle.states.specs.Switches.{State}
use Rattle.graph.specs.Rows.{flag}
use Rattle.feeders.specs.Feeder.{feeder, ends_path}
use Rattle.feeders.specs.FeederRows.{feeder_graph, live_flags}
use Rattle.feeders.specs.FeederRowLaws.{flags_live, feeder_row_ends_path}
use Rattle.openings.specs.Opening.{first_unwanted, row_opening}
use Rattle.plan.specs.Plan.{opening}

-- of the value handed over it is only used that its array has room for 256 buses, as every one has
pub row_opening_lem : (n : PowerNetwork) → length n.buses ≡ 256 → check_records (records_of n) ≡ accepted tt
    → (live : List Bool) → length live ≤ 512 → (wanted : State) (k : ℕ) → k < (feeder (records_of n)).branches
    → row_opening (feeder_graph n) live (live_flags (records_of n) wanted) k ≡ opening (records_of n) wanted (flag live) k
unfolding row_opening opening
row_opening_lem n sized ok live short wanted k h =
    ap (first_unwanted (flag (live_flags (records_of n) wanted))) (feeder_row_ends_path n sized ok live short k h)
    ∙ ap (λ (E : ℕ → Bool). first_unwanted E (ends_path (records_of n) (flag live) k)) (flags_live (records_of n) wanted ((check_inside (records_of n)).0 ok).counts.1)
