-- The cases of an input, one after the other, each with so many lines of the program's own behind its text.
use Rattle.std.specs.Prelude.{List, [], ◌∷◌, ℕ, zero, suc, ◌+◌, length, take, drop, map}
use Rattle.cases.specs.Cases.{part_of, line_length, line_behind, digit_of, first_case}

-- the bytes of a case: its name, its text, and the program's own lines with the line feeds between them
pub record CaseText : Type 0 where
  pub name : List ℕ
  pub text : List ℕ
  pub lines : List ℕ

-- where the last of n lines ends that begin behind position `at`
unfoldable pub lines_end : List ℕ → ℕ → ℕ → ℕ
lines_end input at zero = at
lines_end input at (suc n) = (line_behind input (lines_end input at n)).to

-- the first case of an input
unfoldable pub case_text : ℕ → List ℕ → CaseText
case_text n input =
    let case = first_case input in
    record {
      name = part_of input case.name;
      text = part_of input case.text;
      lines = part_of input (record { from = case.text.to + 1; to = lines_end input case.text.to n });
    }

-- what stands behind the first case and its line feed
unfoldable pub behind_case : ℕ → List ℕ → List ℕ
behind_case n input = drop (lines_end input (first_case input).text.to n + 1) input

-- the cases, of which each is a byte or more
unfoldable pub cases_within : ℕ → ℕ → List ℕ → List CaseText
cases_within n zero input = []
cases_within n (suc bytes) [] = []
cases_within n (suc bytes) (c ∷ input) = case_text n (c ∷ input) ∷ cases_within n bytes (behind_case n (c ∷ input))

unfoldable pub cases_of : ℕ → List ℕ → List CaseText
cases_of n input = cases_within n (length input) input

-- the i-th of some lines, counted from 0, and nothing behind the last one
unfoldable pub line_at : List ℕ → ℕ → List ℕ
line_at lines zero = take (line_length lines) lines
line_at lines (suc i) = line_at (drop (line_length lines + 1) lines) i

-- the bytes of a state that is written as digits
abbrev pub state_of : List ℕ → List ℕ
state_of digits = map digit_of (take 1024 digits)
