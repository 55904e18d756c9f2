-- What the rounds of the benchmark add up.
use Rattle.std.specs.Prelude.{ℕ, ◌+◌, ◌%◌, ◌^◌, cond, List, length, replicate, ◌==◌, to_bits}
use Rattle.std.specs.Float.{binary64}
use Rattle.numbers.specs.UpTo.{up_to}
use Rattle.network.specs.Answers.{Answer, accepted, refused, valued}
use Rattle.network.specs.Records.{Network}
use Rattle.frames.specs.Text.{read_text}
use Rattle.printing.specs.Lengths.{plan_length}
use Rattle.searches.specs.Results.{Result}
use Rattle.reconfiguration.specs.Solve.{solved}
use Rattle.controller.specs.Calls.{on_records, text_form, text_loss, text_plan}

-- what an answer counts for
abbrev pub value_of : Answer ℕ → ℕ
value_of (accepted value) = value
value_of (refused number place) = 0

unfoldable pub record_count : Network → ℕ
record_count N = length N.buses + length N.branches + length N.switches

-- the bits of the best loss that a search finds, with room for 512 switches
unfoldable pub search_value : Network → Answer ℕ
search_value N = valued (λ (r : Result). to_bits binary64 r.best_loss) (solved N (replicate 512 0)).answer

-- the search that a text asks for
unfoldable pub text_search : List ℕ → Answer ℕ
text_search text = on_records (read_text text) search_value

-- the calls by their kind: the records of the text, radiality and loss of the first state, the plan from the first state to the second, with room
-- for the longest; any other kind counts for 0
unfoldable pub asked : ℕ → List ℕ → List ℕ → List ℕ → Answer ℕ
asked kind text first second =
    cond (kind == 0) (on_records (read_text text) (λ N. accepted (record_count N)))
    (cond (kind == 1) (text_form text first)
    (cond (kind == 2) (text_loss text first)
    (cond (kind == 3) (text_plan text first second (replicate plan_length 0)).answer
    (accepted 0))))

-- the sum of n rounds, even ones and odd ones in turn, in 64 bits
unfoldable pub total : ℕ → ℕ → ℕ → ℕ
total even odd n = up_to (λ t i. (t + cond (i % 2 == 0) even odd) % 2 ^ 64) 0 n
