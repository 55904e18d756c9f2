-- How long a plan is: as many pairs as branches live in the wanted state are missing, so at most the buses less one, and at most as many moves as switches; how long a list of
-- pairs is, and a plan's text.
use Rattle.std.specs.Prelude.{◌≡◌, refl, ◌+◌, ◌-◌, ◌*◌, ◌≤◌, length}
use mathlib.Core.List.{List, [], ◌∷◌, flat_map}
use Rattle.std.proofs.Common.{arith, length-append}
use Rattle.std.proofs.lemmas.List.{length-map}
use Rattle.numbers.specs.CountLaws.{count_mono}
use Rattle.network.specs.Records.{Network}
use Rattle.network.specs.Answers.{accepted}
use Rattle.network.specs.InsideLaws.{check_inside}
use Rattle.states.specs.Live.{live}
use Rattle.states.specs.Switches.{State}
use Rattle.graph.specs.Pieces.{tree_few}
use Rattle.feeders.specs.Feeder.{feeder}
use Rattle.feeders.specs.SupplyLaws.{network_records}
use Rattle.printing.specs.Lengths.{pair_head_length, id_length, plan_length}
use Rattle.printing.specs.LineTexts.{length_pair}
use Rattle.changes.specs.Change.{only_in, check_plan}
use Rattle.plan.specs.declared.pairs.Pair as code
use Rattle.plan.specs.Plan.{Moves, plan, pairs, moves_of, plan_text}
use Rattle.plan.specs.Stored.{switches_in, moves_in}
use Rattle.plan.specs.Missing.{missing, only_so}
use Rattle.plan.specs.Stages.{leads_missing}
use Rattle.plan.specs.Planner.{pairs_lead}
use Rattle.plan.specs.Claim.{switch_at, switches_moved}
use Rattle.plan.specs.Moving.{each_moves_once}
use Rattle.plan.specs.Accepted.{plan_accepted, accepted_tested, accepted_plannable}

pub plan_short : (N : Network) (present wanted : State) → check_plan N present wanted ≡ accepted tt → length (plan N present wanted) ≤ length N.buses - 1
unfolding plan feeder missing
plan_short N present wanted ok =
    let given = accepted_plannable N present wanted ok in
    let made = leads_missing (pairs_lead N present wanted given.joined) in
    let few = tree_few (feeder N) (live N wanted) given.joined.regular.ends given.joined.wanted_tree in
    let less = count_mono (only_in (live N wanted) (live N present)) (live N wanted) (length N.branches) (λ k l h. (only_so (live N wanted) (live N present) k h).0) in
    omega (arith, length-map (pairs N present wanted) (moves_of N present wanted))

-- of at most 256 buses
pub plan_few : (N : Network) (present wanted : State) → check_plan N present wanted ≡ accepted tt → length (plan N present wanted) ≤ 255
unfolding feeder
plan_few N present wanted ok = omega (arith, plan_short N present wanted ok, (accepted_plannable N present wanted ok).joined.regular.few)

pub length_moves : (l : List code.Pair) → length (moves_in l) ≡ length l
length_moves l = length-map l switches_in

-- "7 bytes a pair and 4 a moved switch"
pub length_text : (N : Network) (l : List Moves) → length (plan_text l) ≡ pair_head_length * length l + id_length * length (switches_moved N l)
unfolding plan_text switches_moved flat_map
length_text N [] = refl
length_text N (m ∷ l) =
    rw (length-append, length-append, length-append, length_pair m.closes m.opens, length_text N l, length-map m.closes (switch_at N), length-map m.opens (switch_at N)) (omega arith)

-- at most as many single moves as there are switches, 512
pub moves_few : (N : Network) (present wanted : State) → check_plan N present wanted ≡ accepted tt → length (switches_moved N (plan N present wanted)) ≤ 512
moves_few N present wanted ok =
    let passed = network_records N ((plan_accepted N present wanted).0 ok).0 in
    omega (arith, (each_moves_once N present wanted (accepted_tested N present wanted ok)).few, ((check_inside N).0 passed).counts.2)

-- the longest
pub plan_fits : (N : Network) (present wanted : State) → check_plan N present wanted ≡ accepted tt → length (plan_text (plan N present wanted)) ≤ plan_length
plan_fits N present wanted ok =
    omega (arith, length_text N (plan N present wanted), plan_few N present wanted ok, moves_few N present wanted ok)
