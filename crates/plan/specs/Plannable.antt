-- What holds of a network and of states that the planner accepts, said by the positions of switches and branches.
use Rattle.std.specs.Prelude.{◌≡◌, ◌≢◌, true, ℕ, ◌≤◌, ◌<◌, length}
use Rattle.network.specs.Records.{Network}
use Rattle.states.specs.Live.{live}
use Rattle.states.specs.Switches.{State, byte, branch_of, operable, GoodState}
use Rattle.graph.specs.Graph.{Sound, Tree}
use Rattle.feeders.specs.Feeder.{feeder, LiveIn}
use Rattle.plan.specs.Plan.{id_of}
use Rattle.plan.specs.Claim.{switch_at}
use Rattle.states.specs.LiveBytes.{On}

pub record Regular (N : Network) : Type 0 where
  -- the ends of every branch are buses, at most 256
  pub ends : Sound (feeder N)
  pub few : (feeder N).buses ≤ 256
  -- a switch is on a branch
  pub placed : {k i : ℕ} → On N k i → k < (feeder N).branches
  -- the id of a listed switch leads back to it
  pub resolved : (i : ℕ) → i < length N.switches → switch_at N (id_of N i) ≡ i

-- a differing switch of a branch that is live in one of the two states only is operable
abbrev pub Free : Network → State → State → Type 0
Free N present wanted =
    (i : ℕ) → i < length N.switches → byte present i ≢ byte wanted i → live N present (branch_of N i) ≢ live N wanted (branch_of N i) → operable N i ≡ true

-- what has passed the tests up to 11: pairs lead from the one state to the other, locked switches or not
pub record Joined (N : Network) (present wanted : State) : Type 0 where
  pub regular : Regular N
  pub present_good : GoodState N present
  pub wanted_good : GoodState N wanted
  pub present_tree : Tree (feeder N) (LiveIn N present)
  pub wanted_tree : Tree (feeder N) (LiveIn N wanted)

-- and 12
pub record Plannable (N : Network) (present wanted : State) : Type 0 where
  pub joined : Joined N present wanted
  pub free : Free N present wanted
