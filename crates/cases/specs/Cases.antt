-- The form of the cases that test programs read: a line 'LENGTH NAME', a text of that length, a line feed, and lines of the program's own.
use Rattle.std.specs.Prelude.{cond, ◌&&◌, ◌||◌, List, [], ◌∷◌, ℕ, suc, ◌+◌, ◌*◌, ◌-◌, ◌≤◌, min, eqb, leb, length, take, drop, get_or}
use Rattle.numbers.specs.Choose.{index_of}
use Rattle.numbers.specs.UpTo.{table}
use Rattle.cases.specs.declared.Case.{Case}
use Rattle.cases.specs.declared.Number.{Number}
use Rattle.cases.specs.declared.Part.{Part}

-- a part of an input of n bytes
pub record Inside (part : Part) (n : ℕ) : Type 0 where
  pub ordered : part.from ≤ part.to
  pub ends : part.to ≤ n

-- the bytes of a part, as far as the input has them
unfoldable pub part_of : List ℕ → Part → List ℕ
part_of input part = take (part.to - part.from) (drop part.from input)

-- how long the first line is, its line feed not counted; all of a text without one
unfoldable pub line_length : List ℕ → ℕ
line_length text = index_of 10 text

-- the line that begins behind position `at`, empty at the end of the text
unfoldable pub line_behind : List ℕ → ℕ → Part
line_behind text at =
    let from = min (at + 1) (length text) in
    record { from = from; to = from + line_length (drop from text) }

-- the value of a digit, and 255 for another character
unfoldable pub digit_of : ℕ → ℕ
digit_of c = cond (leb 48 c && leb c 57) (c - 48) 255

-- the number at the front of a line and how many digits it has; digits are taken while it is below 9,999,999
unfoldable pub number_from : ℕ → ℕ → List ℕ → Number
number_from value digits [] = record { value = value; digits = digits }
number_from value digits (c ∷ line) =
    cond (eqb (digit_of c) 255 || leb 9999999 value)
    (record { value = value; digits = digits })
    (number_from (value * 10 + digit_of c) (suc digits) line)

abbrev pub leading_number : List ℕ → Number
leading_number line = number_from 0 0 line

-- the name behind the length and a space, and the text behind the first line
unfoldable pub first_case : List ℕ → Case
first_case input =
    let head = line_length input in
    let number = leading_number (take head input) in
    let from = min (head + 1) (length input) in
    record {
      name = record { from = min (number.digits + 1) head; to = head };
      text = record { from = from; to = from + min number.value (length input - from) };
    }

-- a byte for each digit, and 00 beyond them
unfoldable pub state_bytes : List ℕ → List ℕ
state_bytes digits = table (λ i. digit_of (get_or digits i 48)) 1024
