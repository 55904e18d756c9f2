-- Upper-case hexadecimal, big-endian: digits, the number that a row of them writes, and rows of fields.
use Rattle.std.specs.Prelude.{Bool, cond, ◌&&◌, ◌||◌, List, [], ◌∷◌, ◌++◌, ℕ, zero, suc, ◌+◌, ◌*◌, ◌-◌, ◌/◌, ◌%◌, ◌^◌, ◌<◌, min, leb, ltb, length, take, drop}

-- '0' to '9' and 'A' to 'F'
unfoldable pub is_digit : ℕ → Bool
is_digit c = (leb 48 c && leb c 57) || (leb 65 c && leb c 70)

-- what a digit stands for; another character stands for 0
unfoldable pub value : ℕ → ℕ
value c = cond (is_digit c) (cond (leb c 57) (c - 48) (c - 55)) 0

-- the digit for a number below 16
unfoldable pub digit : ℕ → ℕ
digit n = cond (ltb n 10) (48 + n) (55 + n)

-- the number that a row of digits writes
unfoldable pub number : List ℕ → ℕ
number [] = 0
number (c ∷ cs) = value c * 16 ^ length cs + number cs

-- the number that the characters from `at` on write, `width` of them, at most sixteen
abbrev pub number_at : ℕ → ℕ → List ℕ → ℕ
number_at at width cs = number (take (min width 16) (drop at cs))

-- n in w digits
unfoldable pub digits : ℕ → ℕ → List ℕ
digits zero n = []
digits (suc w) n = digit (n / 16 ^ w) ∷ digits w (n % 16 ^ w)

-- a number for each field; a field is known by how many digits it has
abbrev pub Fields : List ℕ → Type 0
Fields [] = Unit {0}
Fields (w ∷ ws) = ℕ × Fields ws

unfoldable pub read_fields : (ws : List ℕ) → List ℕ → Fields ws
read_fields [] cs = tt
read_fields (w ∷ ws) cs = (number (take w cs), read_fields ws (drop w cs))

unfoldable pub write_fields : (ws : List ℕ) → Fields ws → List ℕ
write_fields [] f = []
write_fields (w ∷ ws) f = digits w f.0 ++ write_fields ws f.1

-- each number has room in its digits
abbrev pub Fit : (ws : List ℕ) → Fields ws → Type 0
Fit [] f = Unit {0}
Fit (w ∷ ws) f = (f.0 < 16 ^ w) × Fit ws f.1

-- how many digits all fields have
abbrev pub total : List ℕ → ℕ
total [] = 0
total (w ∷ ws) = w + total ws
