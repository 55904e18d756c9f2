-- The words of document 01's limits: the method byte, what a head says, the ranges of floats, ids, own loops (document 02), and ties. No refusal number occurs here.
use Rattle.std.specs.Prelude.{◌≡◌, ◌<◌, Result, MatchResult, Bool, cond, ◌&&◌, List, [], ◌∷◌, ℕ, suc, eqb, Float}
use Rattle.std.specs.Float.Ieee.{le}
use Rattle.numbers.specs.Constants.{zero64, thousandth, thousand, million, minus_million}
use Rattle.network.specs.declared.bus.Bus.{Bus}
use Rattle.network.specs.declared.branch.Branch.{Branch}
use Rattle.network.specs.declared.switch.Switch.{Switch}
use Rattle.network.specs.declared.switch.ReconfigAlgorithm.{ReconfigAlgorithm}
use Rattle.network.specs.declared.switch.NoMethod.{NoMethod}
use Rattle.network.specs.declared.switch.ReconfigAlgorithm.TheVariants.{BranchExchange, TabuSearch, Exhaustive}

-- document 01's method byte for each method: "00 exchange, 01 tabu, 02 exhaustive"
abbrev pub method_byte : ReconfigAlgorithm → ℕ
method_byte BranchExchange = 0
method_byte TabuSearch = 1
method_byte Exhaustive = 2

-- the search that a method byte stands for, where there is one
abbrev pub IsMethod : ℕ → Result ReconfigAlgorithm NoMethod → Type 0
IsMethod byte r = MatchResult r (λ algorithm. method_byte algorithm ≡ byte) (λ e. 2 < byte)

-- what the head line says
pub record Head : Type 0 where
  pub buses : ℕ
  pub branches : ℕ
  pub switches : ℕ
  -- base_mva
  pub base : Float
  pub algorithm : ReconfigAlgorithm
  pub iterations : ℕ

-- ---- ranges, ends allowed. A NaN or an infinity passes none, -0.0 passes as 0.0 does
abbrev pub in_range : Float → Float → Float → Bool
in_range low high x = le low x && le x high

-- base_mva from 0.001 to 1,000,000
unfoldable pub ok_base : Float → Bool
ok_base x = in_range thousandth million x

-- pd within ±1,000,000
unfoldable pub ok_load : Float → Bool
ok_load x = in_range minus_million million x

-- r from 0 to 1,000
unfoldable pub ok_r : Float → Bool
ok_r x = in_range zero64 thousand x

-- ---- ids, own loops, the branch that a switch is on, ties
abbrev pub bus_id : Bus → ℕ
bus_id b = b.id

abbrev pub switch_id : Switch → ℕ
switch_id s = s.id

-- document 02, Point 7: a branch "from a bus to itself"
abbrev pub is_own_loop : Branch → Bool
is_own_loop b = eqb b.from_bus b.to_bus

abbrev pub on : Switch → ℕ
on s = s.branch_idx

-- how many switches are normally open
unfoldable pub ties : List Switch → ℕ
ties [] = 0
ties (s ∷ ss) = cond s.normally_open (suc (ties ss)) (ties ss)
