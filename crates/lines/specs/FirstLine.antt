-- The first line of what is left of a text: where it ends, and its refusals 1 and 2.
use Rattle.std.specs.Prelude.{◌≡◌, Bool, true, false, ◌&&◌, List, [], ◌∷◌, ◌⊎◌, ℕ, ◌≤◌, ◌<◌, eqb, length, take, get_or}
use Rattle.numbers.specs.Every.{every}
use Rattle.network.specs.Answers.{accepted, refused, Fault, judge, Judgement}
use Rattle.lines.specs.Hex.{number}
use Rattle.lines.specs.Lines.{Line, line_faults}
use Rattle.lines.specs.CutLaws.{no_feed}

-- n characters stand before the first line feed or the end; or n is over 36, and no line feed stands among the first n
pub record LineEnd (t : List ℕ) (n : ℕ) : Type 0 where
  pub within : n ≤ length t
  pub no_feed_lem : every no_feed (take n t) ≡ true
  pub ends : (36 < n) ⊎ (n ≡ length t) ⊎ (get_or t n 0 ≡ 10)

-- the faults of the first line; a missing one is 2
unfoldable pub judge_first : (Line → List Fault) → ℕ → List Line → Judgement
judge_first faults place [] = refused 2 place
judge_first faults place (l ∷ ls) = judge (faults l) place

-- has a line this kind byte and this length?
abbrev pub wanted : ℕ → ℕ → Line → Bool
wanted kind size l = eqb (length l.chars) size && eqb (number (take 2 l.chars)) kind

-- refusals 1 and 2 of the first line, where a frame of this kind and length is wanted
unfoldable pub judge_frame : ℕ → ℕ → ℕ → List Line → Judgement
judge_frame kind size place ls = judge_first (λ l. line_faults (wanted kind size l) l) place ls

-- no line is wanted: the first that is there is 1 or 2
unfoldable pub judge_end : ℕ → List Line → Judgement
judge_end place [] = accepted tt
judge_end place (l ∷ ls) = judge (line_faults false l) place
