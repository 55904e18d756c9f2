-- Document 01's planner, for branches with a switch at each end by document 02, point 6: pairs of branches, the switches that a pair moves, and the lines that are written.
use Rattle.std.specs.Prelude.{Bool, true, false, cond, ◌&&◌, ℕ, eqb, length}
use mathlib.Core.List.{List, [], ◌∷◌, map, flat_map}
use Rattle.numbers.specs.Choose.{those, index_of}
use Rattle.network.specs.Records.{Network}
use Rattle.states.specs.Switches.{State, branch_of, switch, size}
use Rattle.states.specs.OpenCounts.{open_at}
use Rattle.network.specs.Answers.{Answer, accepted, refused}
use Rattle.network.specs.Limits.{on}
use Rattle.states.specs.Live.{live}
use Rattle.printing.specs.Printed.{pair_text}
use Rattle.printing.specs.Calls.{Call, called}
use Rattle.feeders.specs.Feeder.{ends_path}
use Rattle.changes.specs.Change.{only_in, check_plan}
use Rattle.openings.specs.Opening.{first_unwanted}

-- ---- pairs of branches
-- document 01's pair: a branch that is closed, then a branch that is opened
pub record Pair : Type 0 where
  pub closed : ℕ
  pub opened : ℕ

-- "A branch ranks by its first listed switch": switch i is the first on its branch
unfoldable pub ranks : Network → ℕ → Bool
ranks N i = eqb (index_of (branch_of N i) (map on N.switches)) i

-- "Take branches live in the wanted state only, by switch order": each once, for one switch of a branch ranks, and a branch without one is live in both states
-- or in neither (`Planner.pairs_lead`)
unfoldable pub closings : Network → State → State → List ℕ
closings N present wanted =
    map (branch_of N) (those (λ i. ranks N i && only_in (live N wanted) (live N present) (branch_of N i)) (size N))

-- "walk the path that joined its from bus to its to bus before the closing, beginning at the from bus; open the first branch there that the wanted state
-- doesn't have live": E has the branches live before. Between radial states there is one (`Planner.found`), so that no pair takes the 0
unfoldable pub opening : Network → State → (ℕ → Bool) → ℕ → ℕ
opening N wanted E e = first_unwanted (live N wanted) (ends_path N E e)

-- the live branches after a pair
unfoldable pub exchanged : (ℕ → Bool) → Pair → ℕ → Bool
exchanged E q k = cond (eqb k q.opened) false (cond (eqb k q.closed) true (E k))

-- each closing with its opening, over the branches that are live when it comes to it
unfoldable pub pairs_from : Network → State → (ℕ → Bool) → List ℕ → List Pair
pairs_from N wanted E [] = []
pairs_from N wanted E (e ∷ es) =
    let q : Pair = record { closed = e; opened = opening N wanted E e } in
    q ∷ pairs_from N wanted (exchanged E q) es

unfoldable pub pairs : Network → State → State → List Pair
pairs N present wanted = pairs_from N wanted (live N present) (closings N present wanted)

-- ---- the switches that a pair moves, by their ids, in list order
pub record Moves : Type 0 where
  pub closes : List ℕ
  pub opens : List ℕ

-- the positions of the switches on branch k that are open in state s
unfoldable pub open_switches : Network → State → ℕ → List ℕ
open_switches N s k = those (open_at N s k) (size N)

abbrev pub id_of : Network → ℕ → ℕ
id_of N i = (switch N i).id

-- "A plan pair closes all open switches of one branch and opens those of the other that the wanted state opens". While the plan is carried out the
-- branch that it closes stands as in the present state (`Stages.Holds`), so that the open ones are those open there
abbrev pub moves_of : Network → State → State → Pair → Moves
moves_of N present wanted q = record {
  closes = map (id_of N) (open_switches N present q.closed);
  opens = map (id_of N) (open_switches N wanted q.opened);
}

-- the planner's answer
unfoldable pub plan : Network → State → State → List Moves
plan N present wanted = map (moves_of N present wanted) (pairs N present wanted)

-- ---- the call
-- a line 86 for each pair
unfoldable pub plan_text : List Moves → List ℕ
plan_text moves = flat_map (λ m. pair_text m.closes m.opens) moves

-- the number of pairs, and a line for each at the front of the slice. "Calls test the network, then 10 (present first), 11 (likewise), 12, 13"
unfoldable pub planned : Network → State → State → List ℕ → Call ℕ
planned N present wanted out =
    let moves = plan N present wanted in
    called (check_plan N present wanted) (length moves) (plan_text moves) out

-- how many bytes the lines have that the call writes: none beside a refusal
abbrev pub length_beside : Answer ℕ → List Moves → ℕ
length_beside (accepted count) moves = length (plan_text moves)
length_beside (refused number place) moves = 0

unfoldable pub planned_length : Network → State → State → List ℕ → ℕ
planned_length N present wanted out = length_beside (planned N present wanted out).answer (plan N present wanted)
