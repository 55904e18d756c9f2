-- Document 01's refusals of a change from a present state of the switches to a wanted one, and what the judging of it answers.
use Rattle.std.specs.Prelude.{Bool, not, ◌&&◌, ◌||◌, List, [], ◌∷◌, ℕ, eqb, length, get_or}
use Rattle.numbers.specs.Choose.{those}
use Rattle.network.specs.declared.topology.PowerNetwork.{PowerNetwork}
use Rattle.network.specs.Records.{Network, no_switch, records_of}
use Rattle.states.specs.Switches.{State, byte, branch_of, operable}
use Rattle.network.specs.Answers.{accepted, refused, answer_of, ◌and_then◌, Judgement}
use Rattle.states.specs.Live.{live, check_state}
use Rattle.states.specs.Configuration.{configuration_of}
use Rattle.graph.specs.declared.rows.Graph.{Graph}
use Rattle.feeders.specs.StateCalls.{check_radial}
use Rattle.feeders.specs.Supply.{check_network}
use Rattle.feeders.specs.FeederRows.{feeder_graph, live_flags}
use Rattle.changes.specs.declared.change.Change.{Change}

-- ---- refusal 12
-- branch k is flagged in E and not in F
abbrev pub only_in : (ℕ → Bool) → (ℕ → Bool) → ℕ → Bool
only_in E F k = E k && not (F k)

-- live in one of the two states only
unfoldable pub differing : Network → State → State → ℕ → Bool
differing N present wanted k = only_in (live N present) (live N wanted) k || only_in (live N wanted) (live N present) k

-- "refusal 12 looks at every switch it would move": the switch at position i differs, on a branch that is live in one of the two states only (the plan moves exactly
-- these, `plan.specs.Moving.each_moves_once`), and is locked. One that stays as it is causes no 12
unfoldable pub locked_difference : Network → State → State → ℕ → Bool
locked_difference N present wanted i = not (eqb (byte present i) (byte wanted i)) && (differing N present wanted (branch_of N i) && not (operable N i))

unfoldable pub locked_differences : Network → State → State → List ℕ
locked_differences N present wanted = those (locked_difference N present wanted) (length N.switches)

-- refusal 12: "first such id in list order"
abbrev pub refuse_locked : Network → List ℕ → Judgement
refuse_locked N [] = accepted tt
refuse_locked N (i ∷ l) = refused 12 (get_or N.switches i no_switch).id

unfoldable pub check_locked : Network → State → State → Judgement
check_locked N present wanted = refuse_locked N (locked_differences N present wanted)

-- "Calls test the network, then 10 (present first), 11 (likewise), 12"
unfoldable pub check_plan : Network → State → State → Judgement
check_plan N present wanted =
    check_network N
    and_then check_state N present 0
    and_then check_state N wanted 1
    and_then check_radial N present 0
    and_then check_radial N wanted 1
    and_then check_locked N present wanted

-- ---- the call
-- the flags of a state's live branches, for a state of any length: with a byte for each of at most 512 switches they are `live_flags` of the state (`Passing.flags_so`)
abbrev pub flags_in : PowerNetwork → State → List Bool
flags_in n s = live_flags (records_of n) (configuration_of s).switches

-- the answer of the tests, and what they were made with: the graph, and the live branches of the two states
pub record Judged : Type 0 where
  pub answer : Judgement
  pub graph : Graph
  pub present_live : List Bool
  pub wanted_live : List Bool

unfoldable pub judged : PowerNetwork → State → State → Judged
judged n present wanted = record {
  answer = check_plan (records_of n) present wanted;
  graph = feeder_graph n;
  present_live = flags_in n present;
  wanted_live = flags_in n wanted;
}

-- the same of the code's answer
abbrev pub judged_in : Change → Judged
judged_in c = record { answer = answer_of c.verdict; graph = c.graph; present_live = c.present_live; wanted_live = c.wanted_live }
