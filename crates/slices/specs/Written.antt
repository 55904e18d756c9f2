-- What a lent slice holds once bytes are written into it, and the digits that are written of a number.
use Rattle.std.specs.Prelude.{cond, List, ◌++◌, ℕ, ◌%◌, ◌^◌, leb, length, drop}
use Rattle.lines.specs.Hex.{digits}

-- bytes at the front of a slice: "a longer slice keeps its tail", and one that is too short keeps every byte
unfoldable pub written : List ℕ → List ℕ → List ℕ
written bytes out = cond (leb (length bytes) (length out)) (bytes ++ drop (length bytes) out) out

-- the last w digits of n: all of them, where n has no more (`DigitLaws.all_digits`)
abbrev pub last_digits : ℕ → ℕ → List ℕ
last_digits w n = digits w (n % 16 ^ w)
