-- What the rounds of writing a text add up, and what they leave in the slice.
use Rattle.std.specs.Prelude.{ℕ, ◌+◌, ◌%◌, ◌^◌, List}
use Rattle.numbers.specs.UpTo.{up_to}
use Rattle.network.specs.Answers.{Answer, accepted, refused}
use Rattle.network.specs.Records.{Network}
use Rattle.printing.specs.Calls.{Call}
use Rattle.texts.specs.Texts.{written_text}

-- how many bytes a call wrote
abbrev pub length_in : Answer ℕ → ℕ
length_in (accepted length) = length
length_in (refused number place) = 0

-- a sum, and the slice as the calls leave it
pub record Added : Type 0 where
  pub sum : ℕ
  pub out : List ℕ

-- what a call counts for
abbrev pub counted : Call ℕ → Added
counted c = record { sum = length_in c.answer; out = c.out }

-- one round more, in 64 bits: the text of the same records is written over the slice that the round before left
abbrev pub one_more_round : Network → Added → Added
one_more_round N a =
    let c = written_text N a.out in
    record { sum = (a.sum + length_in c.answer) % 2 ^ 64; out = c.out }

unfoldable pub text_rounds : Network → List ℕ → ℕ → Added
text_rounds N out n = up_to (λ a i. one_more_round N a) (record { sum = 0; out = out }) n

-- a refused text has no records to write
abbrev pub rounds_on : Answer Network → List ℕ → ℕ → Added
rounds_on (accepted N) out n = text_rounds N out n
rounds_on (refused number place) out n = record { sum = 0; out = out }
