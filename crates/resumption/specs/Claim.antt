-- Document 02, Point 4, one claim: what holds of every number of single moves that a controller may have done when its power is cut.
-- Read with: SingleMoves; crate plan's Plan and Claim (switch_at, OnLoop, reached); crate graph's Graph (Path, Loop, Tree).
use Rattle.std.specs.Prelude.{◌≡◌, ◌≢◌, true, List, ℕ, suc, ◌+◌, ◌-◌, ◌≤◌, ◌<◌, length, take, drop, replicate}
use Rattle.std.proofs.Math.Option.{some}
use Rattle.std.proofs.Math.ListN.{get_elem?}
use Rattle.network.specs.Records.{Network}
use Rattle.network.specs.Answers.{accepted}
use Rattle.states.specs.Live.{SameLive}
use Rattle.states.specs.Switches.{State, byte, operable, GoodState}
use Rattle.printing.specs.declared.writer.SwitchOperation.{SwitchOperation}
use Rattle.graph.specs.Graph.{Tree}
use Rattle.feeders.specs.Feeder.{feeder, LiveIn}
use Rattle.changes.specs.Change.{check_plan}
use Rattle.plan.specs.Plan.{Moves, plan}
use Rattle.plan.specs.Claim.{switch_at, OnLoop, closed_by, opened_by, forward, reached}
use Rattle.resumption.specs.SingleMoves.{closing_moves, single_moves, byte_after, moved_all, inverse, going_back}
use Rattle.resumption.specs.Resume.{moves_of_plan}

-- how many moves the first n pairs have
abbrev pub moves_before : List Moves → ℕ → ℕ
moves_before P n = length (single_moves (take n P))

-- j moves end between the closing and the opening of a pair
pub record Between (P : List Moves) (j : ℕ) : Type 0 where
  -- the pairs before it
  pub before : ℕ
  pub pair : Moves
  pub next : get_elem? P before ≡ some pair
  pub count : j ≡ moves_before P before + length (closing_moves pair)

-- a move of a listed and operable switch, which stands the other way before it
pub record Movable (N : Network) (o : SwitchOperation) (s : State) : Type 0 where
  pub listed : switch_at N o.switch_id < length N.switches
  pub free : operable N (switch_at N o.switch_id) ≡ true
  pub stands : byte s (switch_at N o.switch_id) ≡ byte_after (inverse o).action

module _ (N : Network) (present wanted : State) where
  abbrev pub moves : List SwitchOperation
  moves = moves_of_plan N present wanted

  -- the present state with the first j moves carried out: all of them, where there are no more
  abbrev pub state_at : ℕ → State
  state_at j = moved_all N (take j moves) present

  pub record Resumable : Type 0 where
    -- "From any count, finishing reaches the wanted live branches
    pub finishing : (j : ℕ) → j ≤ length moves → SameLive N (moved_all N (drop j moves) (state_at j)) wanted
    -- and going back reaches the present ones": indeed the bytes of the present state
    pub going_back_lem : (j : ℕ) → j ≤ length moves → moved_all N (going_back (take j moves)) (state_at j) ≡ present
    pub going_back_live : (j : ℕ) → j ≤ length moves → SameLive N (moved_all N (going_back (take j moves)) (state_at j)) present
    -- cut off again on either way: i moves further the count is j + i, i moves back it is j - i
    pub further : (i j : ℕ) → moved_all N (take i (drop j moves)) (state_at j) ≡ state_at (j + i)
    pub fewer : (i j : ℕ) → i ≤ j → j ≤ length moves → moved_all N (take i (going_back (take j moves))) (state_at j) ≡ state_at (j - i)
    -- "between a closing and its opening every bus is connected and exactly one loop exists, made of the closed branch and the whole path between its ends"
    pub between : (j : ℕ) (b : Between (plan N present wanted) j)
        → OnLoop N (state_at (moves_before (plan N present wanted) b.before)) (state_at j) (closed_by N present wanted b.pair) (opened_by N present wanted b.pair)
    -- at every other count the feeder is radial
    pub elsewhere : (j : ℕ) → j ≤ length moves → ¬ Between (plan N present wanted) j → Tree (feeder N) (LiveIn N (state_at j))
    -- each move sets the byte of an operable switch, which stood the other way, and no other byte changes
    pub movable : (j : ℕ) (o : SwitchOperation) → get_elem? moves j ≡ some o → Movable N o (state_at j)
    pub sets : (j : ℕ) (o : SwitchOperation) → get_elem? moves j ≡ some o → byte (state_at (suc j)) (switch_at N o.switch_id) ≡ byte_after o.action
    pub others_stay : (j : ℕ) (o : SwitchOperation) → get_elem? moves j ≡ some o → (i : ℕ) → i ≢ switch_at N o.switch_id → byte (state_at (suc j)) i ≡ byte (state_at j) i
    -- one byte 00 or 01 for each switch, at every count
    pub good : (j : ℕ) → GoodState N (state_at j)
    -- after the moves of the first n pairs stands what demand 3's first n forward steps reach
    pub stopping_points : (n : ℕ) → n ≤ length (plan N present wanted) → state_at (moves_before (plan N present wanted) n) ≡ reached N present wanted (replicate n forward)

-- Point 4, for every network and states that the planner accepts
abbrev pub Point4 : Type 0
Point4 = (N : Network) (present wanted : State) → check_plan N present wanted ≡ accepted tt → Resumable N present wanted
