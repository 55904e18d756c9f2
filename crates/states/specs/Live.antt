-- States of the switches and refusal 10, the live branches, and the base state.
use Rattle.std.specs.Prelude.{◌≡◌, Bool, false, cond, not, ◌&&◌, ◌||◌, List, [], ◌∷◌, map, ℕ, leb, eqb, length, get_or}
use Rattle.numbers.specs.Every.{every}
use Rattle.network.specs.declared.switch.Switch.{Switch}
use Rattle.network.specs.Records.{Network, no_branch}
use Rattle.network.specs.Answers.{◌if◌, judge, Judgement}

-- a state's bytes: "00 (closed) or 01 (open)"
abbrev pub state_byte : Bool → ℕ
state_byte opened = cond opened 1 0

-- refusal 10: "state isn't one byte 00 (closed) or 01 (open) for each switch"; place 0 for the present or only state, 1 for the wanted one
unfoldable pub check_state : Network → List ℕ → ℕ → Judgement
check_state N s place = judge ((10 if not (eqb (length s) (length N.switches) && every (λ b. leb b 1) s)) ∷ []) place

-- some open switch is on branch k
unfoldable pub open_on : List Switch → List ℕ → ℕ → Bool
open_on [] s k = false
open_on (w ∷ ws) [] k = false
open_on (w ∷ ws) (b ∷ bs) k = (eqb w.branch_idx k && eqb b 1) || open_on ws bs k

-- document 01: "A branch is live when its status is 01 and no open switch is on it"
unfoldable pub live : Network → List ℕ → ℕ → Bool
live N s k = (get_or N.branches k no_branch).status && not (open_on N.switches s k)

-- the same branches are live in two states
abbrev pub SameLive : Network → List ℕ → List ℕ → Type 0
SameLive N s t = (k : ℕ) → live N s k ≡ live N t k

-- document 01: "The base opens exactly the normally open switches"
unfoldable pub base_state : Network → List ℕ
base_state N = map (λ w. state_byte w.normally_open) N.switches
