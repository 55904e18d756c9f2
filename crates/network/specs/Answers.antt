-- Answers: what was asked for, or document 01's refusal with its number and place.
use Rattle.std.specs.Prelude.{Bool, true, false, List, [], ◌∷◌, ℕ, Result, Ok, Err}
use Rattle.network.specs.declared.error.Refusal.{Refusal}
use Rattle.network.specs.declared.error.Refusal.TheVariants.{Characters, Shape, Meaning, Count, Range, NotListed, Twice, ThirdSwitch, EleventhTie, State, NotRadial, Locked, Room, SupplyNotListed, SupplyNotRadial, MovesDone, EqualEnds}

pub data Answer (A : Type 0) : Type 0 where
  accepted : A → Answer A
  -- document 01's refusal: its number, and its place: the line of a text or record, from 1; 0 or 1 for a state; a switch id for 12; 0 for 13 and 16
  refused : (number place : ℕ) → Answer A

-- what a test answers: nothing, or a refusal
abbrev pub Judgement : Type 0
Judgement = Answer (Unit {0})

-- the number of each of the code's refusals
abbrev pub number_of : Refusal → ℕ
number_of (Characters line) = 1
number_of (Shape line) = 2
number_of (Meaning line) = 3
number_of (Count line) = 4
number_of (Range line) = 5
number_of (NotListed line) = 6
number_of (Twice line) = 7
number_of (ThirdSwitch line) = 8
number_of (EleventhTie line) = 9
number_of (State which) = 10
number_of (NotRadial which) = 11
number_of (Locked switch) = 12
number_of Room = 13
number_of (SupplyNotListed line) = 14
number_of (SupplyNotRadial line) = 15
number_of MovesDone = 16
number_of (EqualEnds line) = 17

-- and its place
abbrev pub place_of : Refusal → ℕ
place_of (Characters line) = line
place_of (Shape line) = line
place_of (Meaning line) = line
place_of (Count line) = line
place_of (Range line) = line
place_of (NotListed line) = line
place_of (Twice line) = line
place_of (ThirdSwitch line) = line
place_of (EleventhTie line) = line
place_of (State which) = which
place_of (NotRadial which) = which
place_of (Locked switch) = switch
place_of Room = 0
place_of (SupplyNotListed line) = line
place_of (SupplyNotRadial line) = line
place_of MovesDone = 0
place_of (EqualEnds line) = line

-- what the code answers: the value, or the refusal's number and place
abbrev pub answer_of : {A : Type 0} → Result A Refusal → Answer A
answer_of (Ok a) = accepted a
answer_of (Err r) = refused (number_of r) (place_of r)

-- the same answer, its value made another
abbrev pub valued : {A B : Type 0} → (A → B) → Answer A → Answer B
valued f (accepted a) = accepted (f a)
valued f (refused n p) = refused n p

-- no refusal: go on
infixr 4 ◌and_then◌
unfoldable pub ◌and_then◌ : {A : Type 0} → Judgement → Answer A → Answer A
accepted u and_then b = b
refused n p and_then b = refused n p

-- a refusal's number, and whether its condition is met
infix 6 ◌if◌
pub data Fault : Type 0 where
  ◌if◌ : ℕ → Bool → Fault

-- document 01: "inside a line the lower number wins". The order is that of the list: the first condition that is met gives the number
unfoldable pub judge : List Fault → ℕ → Judgement
judge [] place = accepted tt
judge ((n if true) ∷ fs) place = refused n place
judge ((n if false) ∷ fs) place = judge fs place
