-- What a call answers that is lent a slice, or two, and what they hold then.
use Rattle.std.specs.Prelude.{List, [], ◌∷◌, ◌++◌, ℕ, ltb, length, drop}
use Rattle.network.specs.Answers.{Answer, accepted, refused, ◌and_then◌, ◌if◌, judge, Judgement}

-- refusal 13: "lent slice shorter than the answer"
unfoldable pub check_room : ℕ → ℕ → Judgement
check_room needed room = judge ((13 if ltb room needed) ∷ []) 0

pub record Call (A : Type 0) : Type 0 where
  pub answer : Answer A
  pub out : List ℕ

-- "A refusal returns a number and a place and writes no lent byte"; "A longer slice keeps its tail"
abbrev pub answered : {A : Type 0} → Judgement → A → List ℕ → List ℕ → Call A
answered (accepted u) answer bytes out = record { answer = accepted answer; out = bytes ++ drop (length bytes) out }
answered (refused number place) answer bytes out = record { answer = refused number place; out = out }

-- a call with its tests, what it answers, and the bytes that it writes: 13 comes after all other tests
unfoldable pub called : {A : Type 0} → Judgement → A → List ℕ → List ℕ → Call A
called tests answer bytes out = answered (tests and_then check_room (length bytes) (length out)) answer bytes out

-- the same of a call that is lent two slices
pub record TwoSlices (A : Type 0) : Type 0 where
  pub answer : Answer A
  pub first : List ℕ
  pub second : List ℕ

-- a refusal writes no byte of either
abbrev pub answered_in_two : {A : Type 0} → Judgement → A → List ℕ → List ℕ → List ℕ → List ℕ → TwoSlices A
answered_in_two (accepted u) answer bytes more first second =
    record { answer = accepted answer; first = bytes ++ drop (length bytes) first; second = more ++ drop (length more) second }
answered_in_two (refused number place) answer bytes more first second = record { answer = refused number place; first = first; second = second }

-- "each list .. in a lent slice of its own": 13 for the one and for the other, after all other tests
unfoldable pub called_in_two : {A : Type 0} → Judgement → A → List ℕ → List ℕ → List ℕ → List ℕ → TwoSlices A
called_in_two tests answer bytes more first second =
    answered_in_two (tests and_then check_room (length bytes) (length first) and_then check_room (length more) (length second)) answer bytes more first second
