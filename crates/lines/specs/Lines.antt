-- The lines of a text, and the refusals 1 and 2 of each.
use Rattle.std.specs.Prelude.{Bool, true, false, cond, not, ◌||◌, List, [], ◌∷◌, ◌++◌, ℕ, ◌%◌, ltb, eqb, length}
use Rattle.numbers.specs.Every.{every}
use Rattle.network.specs.Answers.{Fault, ◌if◌}
use Rattle.lines.specs.Hex.{is_digit}

-- "one frame a line, ended by a line feed"
pub record Line : Type 0 where
  pub chars : List ℕ
  pub ended : Bool

-- a character goes to the front of the line that follows it
unfoldable pub put : ℕ → List Line → List Line
put c [] = record { chars = c ∷ []; ended = false } ∷ []
put c (l ∷ ls) = record { chars = c ∷ l.chars; ended = l.ended } ∷ ls

-- a text's lines: a line feed (10) ends one; a last one without is not ended; nothing after the last line feed is no line. Joined they are the text
-- again (`CutLaws.joined_cut`). No character of theirs is 10, each but the last is ended, and an unended one is not empty (`CutLaws.cut_lines`); no
-- other lines of which that is so make this text (`CutLaws.cut_joined`)
unfoldable pub cut : List ℕ → List Line
cut [] = []
cut (c ∷ t) = cond (eqb c 10) (record { chars = []; ended = true } ∷ cut t) (put c (cut t))

-- "a line over 36 characters"
abbrev pub is_long : Line → Bool
is_long l = ltb 36 (length l.chars)

-- row 1: "unended line, odd digits, another character"
abbrev pub is_miswritten : Line → Bool
is_miswritten l = not l.ended || eqb (length l.chars % 2) 1 || not (every is_digit l.chars)

-- what a line's characters are refused for, whatever is wanted: "a line over 36 characters is 2 whatever they are, ended or not", and then row 1
abbrev pub character_faults : Line → List Fault
character_faults l = (2 if is_long l) ∷ (1 if is_miswritten l) ∷ []

-- and behind it row 2, "wrong kind or length"
unfoldable pub line_faults : Bool → Line → List Fault
line_faults asWanted l = character_faults l ++ ((2 if not asWanted) ∷ [])
