-- The plan is empty exactly where the two states have the same live branches: from demand 3, with no step taken and no other pair.
use Rattle.std.specs.Prelude.{◌≡◌, refl, ◌↔◌, List, [], ◌∷◌, ◌≤◌, length}
use Rattle.std.proofs.Common.{sym, ap, arith}
use Rattle.network.specs.Records.{Network}
use Rattle.network.specs.Answers.{accepted}
use Rattle.states.specs.Switches.{State}
use Rattle.changes.specs.Change.{check_plan}
use Rattle.plan.specs.Plan.{Moves, plan}
use Rattle.plan.specs.Claim.{run, after, others_carried_out}
use Rattle.states.specs.Live.{SameLive}
use Rattle.plan.specs.Proof.{demand3}

none : (l : List Moves) → length l ≤ 0 → l ≡ []
none [] h = refl
none (m ∷ l) h = absurd (omega arith)

pub empty_exactly_when_same_live : (N : Network) (present wanted : State) → check_plan N present wanted ≡ accepted tt → (plan N present wanted ≡ []) ↔ SameLive N present wanted
unfolding after run others_carried_out
empty_exactly_when_same_live N present wanted ok =
    let claim = demand3 N present wanted ok in
    (λ e. claim.all_done [] (sym (ap length e)), λ same. none (plan N present wanted) (claim.shortest [] same))
