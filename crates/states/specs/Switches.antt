-- The switches of a feeder by their positions in the list, its states, and states with one or two switches moved.
use Rattle.std.specs.Prelude.{◌≡◌, Bool, cond, List, ℕ, ◌≤◌, ◌<◌, eqb, length, get_or, set}
use Rattle.network.specs.Records.{Network, no_branch, no_switch}
use Rattle.network.specs.declared.switch.Switch.{Switch}

-- a byte for each switch: 00 closed, 01 open
abbrev pub State : Type 0
State = List ℕ

abbrev pub byte : State → ℕ → ℕ
byte s i = get_or s i 0

-- one byte 00 or 01 for each switch
pub record GoodState (N : Network) (s : State) : Type 0 where
  pub long : length s ≡ length N.switches
  pub bytes : (i : ℕ) → i < length N.switches → byte s i ≤ 1

abbrev pub size : Network → ℕ
size N = length N.switches

abbrev pub switch : Network → ℕ → Switch
switch N i = get_or N.switches i no_switch

-- the branch that switch i is on, and whether the switch can operate
abbrev pub branch_of : Network → ℕ → ℕ
branch_of N i = (switch N i).branch_idx

abbrev pub operable : Network → ℕ → Bool
operable N i = (switch N i).can_operate

-- the status of branch k
abbrev pub in_service : Network → ℕ → Bool
in_service N k = (get_or N.branches k no_branch).status

-- document 01's tie: a switch that is normally open. A section is any other switch (`not is_tie`)
abbrev pub is_tie : Network → ℕ → Bool
is_tie N i = (switch N i).normally_open

-- a tie closed and a section opened
unfoldable pub swapped : State → ℕ → ℕ → State
swapped s tie section = set (set s tie 0) section 1

-- one switch moved: open to closed, closed to open
unfoldable pub toggled : State → ℕ → State
toggled s i = set s i (cond (eqb (byte s i) 1) 0 1)
