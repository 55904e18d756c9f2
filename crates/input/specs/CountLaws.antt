-- A number of bytes within a slice counts bytes of its front.
use Rattle.std.proofs.Common.{sym, length-take-le}
use Rattle.std.specs.Prelude.{List, ℕ, ◌≤◌, length}
use Rattle.input.specs.Counts.{IsPrefixLen}

pub counts : (n : ℕ) (l : List ℕ) → n ≤ length l → IsPrefixLen n l
counts n l within = (within, sym (length-take-le n l within))
