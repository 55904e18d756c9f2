-- What it is for a number to count bytes of a slice's front.
use Rattle.std.specs.Prelude.{◌≡◌, ℕ, ◌≤◌, List, length, take}

-- The slice's first n bytes are within it, and are n bytes. The second part follows from the first (CountLaws).
abbrev pub IsPrefixLen : ℕ → List ℕ → Type 0
IsPrefixLen n xs = (n ≤ length xs) × (n ≡ length (take n xs))
