-- Demand 3, one claim: the steps along a plan, what stands after a list of steps, and what holds of it for any two lists.
-- Read with: Plan; crate changes' Change; crate openings' Opening; crate radiality's Feeder; crate graph's Graph (Path, Loop, Tree); crate states' Live and Switches.
use Rattle.std.specs.Prelude.{◌≡◌, ◌↔◌, ◌≢◌, Bool, true, false, cond, ◌&&◌, ℕ, zero, suc, pred, ◌≤◌, ◌<◌, eqb, length, set, replicate, get_or}
use mathlib.Core.List.{List, [], ◌∷◌, ◌++◌, map, reverse, flat_map, Memᴰ}
use Rattle.std.proofs.Math.Option.{Option, none, some}
use Rattle.std.proofs.Math.ListN.{get_elem?}
use Rattle.numbers.specs.UpTo.{table}
use Rattle.numbers.specs.Choose.{index_of}
use Rattle.numbers.specs.Distinct.{Distinct}
use Rattle.network.specs.Records.{Network}
use Rattle.network.specs.Answers.{accepted}
use Rattle.network.specs.Limits.{switch_id}
use Rattle.states.specs.Live.{live, SameLive, check_state}
use Rattle.states.specs.Switches.{State, byte, branch_of, operable, in_service, size, GoodState}
use Rattle.graph.specs.Graph.{Path, Connected, Loop, Tree}
use Rattle.feeders.specs.Feeder.{feeder, LiveIn}
use Rattle.feeders.specs.StateCalls.{check_radial}
use Rattle.feeders.specs.Supply.{check_network}
use Rattle.changes.specs.Change.{locked_difference, check_plan}
use Rattle.plan.specs.Plan.{Moves, plan}

-- ---- the two kinds of step
-- the position of the switch with this id: a plan names listed switches only (`Plannable.Regular.resolved`)
abbrev pub switch_at : Network → ℕ → ℕ
switch_at N id = index_of id (map switch_id N.switches)

-- these switches, one after the other, get this byte
unfoldable pub set_all : State → List ℕ → ℕ → State
set_all s [] b = s
set_all s (i ∷ l) b = set_all (set s i b) l b

-- the positions of the switches that a pair closes, and of those that it opens
abbrev pub closes_at : Network → Moves → List ℕ
closes_at N q = map (switch_at N) q.closes

abbrev pub opens_at : Network → Moves → List ℕ
opens_at N q = map (switch_at N) q.opens

-- the positions of the switches that the pairs move, one pair behind the other
unfoldable pub switches_moved : Network → List Moves → List ℕ
switches_moved N P = flat_map (λ q. closes_at N q ++ opens_at N q) P

-- "A pair carried out sets what it closes to 00, then what it opens to 01"
unfoldable pub after_closing : Network → Moves → State → State
after_closing N q s = set_all s (closes_at N q) 0

unfoldable pub carried_out : Network → Moves → State → State
carried_out N q s = set_all (after_closing N q s) (opens_at N q) 1

-- "Undone, it moves the same switches the other way, the last moved first": that is carrying out the pair turned round
abbrev pub turned : Moves → Moves
turned q = record { closes = reverse q.opens; opens = reverse q.closes }

abbrev pub turned_if : Option Moves → Option Moves
turned_if none = none
turned_if (some q) = some (turned q)

pub data Step : Type 0 where
  forward back : Step

-- what a step carries out with d pairs done: forward "the first pair of the planner's answer that isn't done", back "the last one done", turned round; or none
unfoldable pub found : List Moves → Step → ℕ → Option Moves
found P forward d = get_elem? P d
found P back zero = none
found P back (suc d) = turned_if (get_elem? P d)

-- forward "adds one to the number done", back "takes one off"
abbrev pub counted : Step → ℕ → ℕ
counted forward d = suc d
counted back d = pred d

-- what a step gets and leaves: a state, and the number of pairs done
pub record Point : Type 0 where
  pub state : State
  pub done : ℕ

-- a step that finds none leaves state and number
unfoldable pub taken : Network → Step → Point → Option Moves → Point
taken N x p none = p
taken N x p (some q) = record { state = carried_out N q p.state; done = counted x p.done }

-- "Each step gets the state and number the last one left"
unfoldable pub run : Network → List Moves → List Step → Point → Point
run N P [] p = p
run N P (x ∷ xs) p = run N P xs (taken N x p (found P x p.done))

-- document 01's stopping point: what a list of steps leaves, "from the present state with no pair done"
unfoldable pub after : Network → State → State → List Step → Point
after N present wanted xs = run N (plan N present wanted) xs (record { state = present; done = 0 })

-- ---- what is claimed of them
-- from s to t branch e becomes live, branch f ceases to be, and every other stays as it is
pub record Exchanged (N : Network) (s t : State) (e f : ℕ) : Type 0 where
  pub before : (live N s e ≡ false) × (live N s f ≡ true)
  pub then : (live N t e ≡ true) × (live N t f ≡ false)
  pub others : (k : ℕ) → k ≢ e → k ≢ f → live N t k ≡ live N s k

-- "The loop of a closing is the closed branch with the path that joined its ends before": closing branch e turned state s into t,
-- there was exactly one such path, there is exactly one loop now, and branch f lies on it
pub record OnLoop (N : Network) (s t : State) (e f : ℕ) : Type 0 where
  pub closing : (live N s e ≡ false) × (live N t e ≡ true)
  pub nothing_else : (k : ℕ) → k ≢ e → live N t k ≡ live N s k
  -- between the closing and the opening every two buses are connected
  pub connected : Connected (feeder N) (LiveIn N t)
  pub path : List ℕ
  pub joins : Path (feeder N) (LiveIn N s) ((feeder N).from e) ((feeder N).to e) path
  pub only_path : (l : List ℕ) → Path (feeder N) (LiveIn N s) ((feeder N).from e) ((feeder N).to e) l → l ≡ path
  pub loop : Loop (feeder N) (LiveIn N t)
  pub only_loop : (o : Loop (feeder N) (LiveIn N t)) (k : ℕ) → Memᴰ k (o.branch ∷ o.rest) ↔ Memᴰ k (e ∷ path)
  pub lies : Memᴰ f path

-- the branch of the first of these switches: a pair's lists are not empty (`two_branches`)
abbrev pub first_branch : Network → List ℕ → ℕ
first_branch N l = branch_of N (get_or l 0 0)

-- in state s pair q closes all open switches of branch e, and opens switches of branch f. Their order is that of the plan's lists, turned round where it is undone
pub record TwoBranches (N : Network) (s : State) (q : Moves) (e f : ℕ) : Type 0 where
  pub closes : (i : ℕ) → Memᴰ i (closes_at N q) ↔ ((branch_of N i ≡ e) × (byte s i ≡ 1))
  pub opens : (i : ℕ) → Memᴰ i (opens_at N q) → branch_of N i ≡ f
  pub some_closed : q.closes ≢ []
  pub some_opened : q.opens ≢ []

-- another pair: branch `closed` is closed by its switches, then `opened` is opened by those of its switches that `by` names
pub record OtherPair : Type 0 where
  pub closed : ℕ
  pub opened : ℕ
  pub by : ℕ → Bool

unfoldable pub other_carried_out : Network → OtherPair → State → State
other_carried_out N q s =
    table (λ i. cond (eqb (branch_of N i) q.opened && q.by i) 1 (cond (eqb (branch_of N i) q.closed) 0 (byte s i))) (length N.switches)

unfoldable pub others_carried_out : Network → List OtherPair → State → State
others_carried_out N [] s = s
others_carried_out N (q ∷ qs) s = others_carried_out N qs (other_carried_out N q s)

module _ (N : Network) (present wanted : State) where
  abbrev pub reached : List Step → State
  reached xs = (after N present wanted xs).state

  abbrev pub done : List Step → ℕ
  done xs = (after N present wanted xs).done

  -- after the steps xs, step x carries out q
  abbrev pub Carries : List Step → Step → Moves → Type 0
  Carries xs x q = found (plan N present wanted) x (done xs) ≡ some q

  -- the branches that q closes and opens: those of the first of its switches
  abbrev pub closed_by : Moves → ℕ
  closed_by q = first_branch N (closes_at N q)

  abbrev pub opened_by : Moves → ℕ
  opened_by q = first_branch N (opens_at N q)

  pub record SwitchingPlan : Type 0 where
    -- for any two lists, the live branches reached are equal exactly when equally many pairs stand done
    pub same : (xs ys : List Step) → SameLive N (reached xs) (reached ys) ↔ (done xs ≡ done ys)
    -- after every list the state is radial, and one byte 00 or 01 for each switch
    pub radial : (xs : List Step) → Tree (feeder N) (LiveIn N (reached xs))
    pub good : (xs : List Step) → GoodState N (reached xs)
    -- a step carries out what it finds, and counts it
    pub moves : (xs : List Step) (x : Step) (q : Moves) → Carries xs x q
        → after N present wanted (xs ++ (x ∷ [])) ≡ record { state = carried_out N q (reached xs); done = counted x (done xs) }
    -- each pair, undone too, closes one branch that was dead and opens one that was live
    pub exchanges : (xs : List Step) (x : Step) (q : Moves) → Carries xs x q → Exchanged N (reached xs) (carried_out N q (reached xs)) (closed_by q) (opened_by q)
    -- each opening, undoing included, lies on the one loop that its closing made
    pub on_loop : (xs : List Step) (x : Step) (q : Moves) → Carries xs x q → OnLoop N (reached xs) (after_closing N q (reached xs)) (closed_by q) (opened_by q)
    -- each pair, undone too, closes all open switches of a branch, and opens switches of another
    pub two_branches : (xs : List Step) (x : Step) (q : Moves) → Carries xs x q → TwoBranches N (reached xs) q (closed_by q) (opened_by q)
    -- no locked switch moves, and no other byte changes
    pub operable_only : (xs : List Step) (x : Step) (q : Moves) → Carries xs x q → (i : ℕ) → Memᴰ i (closes_at N q ++ opens_at N q) → operable N i ≡ true
    pub others_stay : (xs : List Step) (x : Step) (q : Moves) → Carries xs x q
        → (i : ℕ) → ¬ Memᴰ i (closes_at N q ++ opens_at N q) → byte (carried_out N q (reached xs)) i ≡ byte (reached xs) i
    -- after every list a switch whose branch is live in both states or in neither has its present byte; so "Switches on out_of_service_lem branches are left as found"
    pub untouched : (xs : List Step) (i : ℕ) → live N present (branch_of N i) ≡ live N wanted (branch_of N i) → byte (reached xs) i ≡ byte present i
    pub as_found : (xs : List Step) (i : ℕ) → in_service N (branch_of N i) ≡ false → byte (reached xs) i ≡ byte present i
    -- with all pairs done the live branches are the wanted ones, with none the present ones
    pub all_done : (xs : List Step) → done xs ≡ length (plan N present wanted) → SameLive N (reached xs) wanted
    pub none_done : (xs : List Step) → done xs ≡ 0 → SameLive N (reached xs) present
    -- every number of pairs is reached, so there is a last point
    pub forward_counts : (n : ℕ) → n ≤ length (plan N present wanted) → done (replicate n forward) ≡ n
    -- no more than all are ever done; forward finds none only with all done, back only with none done, and then state and number stay
    pub at_most_all : (xs : List Step) → done xs ≤ length (plan N present wanted)
    pub forward_none : (xs : List Step) → (found (plan N present wanted) forward (done xs) ≡ none) ↔ (done xs ≡ length (plan N present wanted))
    pub back_none : (xs : List Step) → (found (plan N present wanted) back (done xs) ≡ none) ↔ (done xs ≡ 0)
    pub stays : (xs : List Step) (x : Step) → found (plan N present wanted) x (done xs) ≡ none → after N present wanted (xs ++ (x ∷ [])) ≡ after N present wanted xs
    -- no other list of pairs that leads from the present state to the wanted live branches is shorter
    pub shortest : (qs : List OtherPair) → SameLive N (others_carried_out N qs present) wanted → length (plan N present wanted) ≤ length qs

  -- the tests before 12 have passed
  pub record Tested : Type 0 where
    pub network : check_network N ≡ accepted tt
    pub present_state : check_state N present 0 ≡ accepted tt
    pub wanted_state : check_state N wanted 1 ≡ accepted tt
    pub present_radial : check_radial N present 0 ≡ accepted tt
    pub wanted_radial : check_radial N wanted 1 ≡ accepted tt

  -- the switches that the pairs move, or would move but for 12, are those that differ, on a branch live in one of the two states only. Each moves once, so that a plan
  -- has at most as many moves as there are switches
  pub record MovesOnce : Type 0 where
    pub which : (i : ℕ) → Memᴰ i (switches_moved N (plan N present wanted))
        ↔ ((i < size N) × (byte present i ≢ byte wanted i) × (live N present (branch_of N i) ≢ live N wanted (branch_of N i)))
    pub once : Distinct (switches_moved N (plan N present wanted))
    pub few : length (switches_moved N (plan N present wanted)) ≤ size N
    -- "refusal 12 looks at every switch it would move"
    pub refused_12 : (i : ℕ) → ((i < size N) × (locked_difference N present wanted i ≡ true)) ↔ (Memᴰ i (switches_moved N (plan N present wanted)) × (operable N i ≡ false))

-- demand 3, for every network and states that the planner accepts
abbrev pub Demand3 : Type 0
Demand3 = (N : Network) (present wanted : State) → check_plan N present wanted ≡ accepted tt → SwitchingPlan N present wanted

-- point 6's law on refusal 12, for every network and states that have passed the tests before it
abbrev pub EachMovesOnce : Type 0
EachMovesOnce = (N : Network) (present wanted : State) → Tested N present wanted → MovesOnce N present wanted
