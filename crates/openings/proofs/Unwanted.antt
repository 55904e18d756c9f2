-- The first unwanted branch of a path, as a loop finds it.
use Rattle.std.specs.Prelude.{◌≡◌, Bool, true, false, not, List, ◌∷◌, ℕ, ◌+◌, ◌<◌, length, get_or, drop}
use Rattle.std.proofs.Common.{sym, ap, ◌∙◌, add-one, drop-cons}
use Rattle.numbers.specs.Choose.{first_of}
use Rattle.graph.specs.Rows.{flag}
use Rattle.openings.specs.Opening.{first_unwanted}

module _ (wanted : List Bool) (l : List ℕ) (i : ℕ) (h : i < length l) where
  -- the branch at i decides what is found from there on
  at_branch : (b : Bool) → b ≡ flag wanted (get_or l i 0) → first_unwanted (flag wanted) (drop i l) ≡ first_of (λ k. not (flag wanted k)) 0 (get_or l i 0 ∷ drop (i + 1) l)
  at_branch b f = ap (first_unwanted (flag wanted)) (rw (drop-cons l i 0 h, add-one))

  pub one_wanted : flag wanted (get_or l i 0) ≡ true → first_unwanted (flag wanted) (drop i l) ≡ first_unwanted (flag wanted) (drop (i + 1) l)
  unfolding first_of
  one_wanted f = at_branch true (sym f) ∙ rw f

  pub one_unwanted : flag wanted (get_or l i 0) ≡ false → first_unwanted (flag wanted) (drop i l) ≡ get_or l i 0
  unfolding first_of
  one_unwanted f = at_branch false (sym f) ∙ rw f
