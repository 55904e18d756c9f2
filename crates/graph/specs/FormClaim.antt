-- What document 02's radiality answer says of the live branches, case by case (point 5). `FormLaws.form_says` proves it of `form`, `feeders.specs.FeederLaws.form_in_says`
-- of every accepted network in every state.
use Rattle.std.specs.Prelude.{◌≡◌, ◌↔◌, Bool, true, ℕ, suc, ◌-◌, ◌≤◌, ◌<◌, length}
use mathlib.Core.List.{List, Memᴰ}
use Rattle.numbers.specs.Distinct.{Distinct}
use Rattle.graph.specs.declared.form.Form.{Form}
use Rattle.graph.specs.declared.form.Form.TheVariants as forms
use Rattle.graph.specs.Graph.{Net, Branches, Live, First, Joined, Loop, Tree}
use Rattle.graph.specs.Form.{islands_field}

-- "the first branch that closes one when the live branches are added by rising position": the live branches before it join its ends, and those of no live branch before it
-- are joined so
pub record FirstClosing (N : Net) (E : ℕ → Bool) (k : ℕ) : Type 0 where
  pub listed : k < N.branches
  pub live : E k ≡ true
  pub joined : Joined N (First E k) (N.from k) (N.to k)
  pub first : (j : ℕ) → j < k → E j ≡ true → ¬ Joined N (First E j) (N.from j) (N.to j)

-- p "connected pieces": p different buses, no two of them joined, and every bus joined with one of them
pub record InPieces (N : Net) (S : Branches) (p : ℕ) : Type 0 where
  pub buses : List ℕ
  pub many : length buses ≡ p
  pub distinct : Distinct buses
  pub listed : (x : ℕ) → Memᴰ x buses → x < N.buses
  pub apart : (x y : ℕ) → Memᴰ x buses → Memᴰ y buses → Joined N S x y → x ≡ y
  pub all : (x : ℕ) → x < N.buses → (y : ℕ) × Memᴰ y buses × Joined N S x y

-- what the answer f says
pub record FormMeaning (N : Net) (E : ℕ → Bool) (f : Form) : Type 0 where
  -- "a tree": the live branches connect all buses without a loop
  pub tree : (f ≡ forms.Tree) ↔ Tree N (Live N E)
  -- "a loop, with the first branch that closes one ..", and the pieces minus one beside it
  pub loop : (k i : ℕ) → f ≡ forms.Loop k i → FirstClosing N E k × InPieces N (Live N E) (suc i)
  -- "or islands with their count and no loop"
  pub islands : (i : ℕ) → f ≡ forms.Islands i → (¬ Loop N (Live N E)) × (0 < i) × InPieces N (Live N E) (suc i)
  -- "A loop goes before islands": a loop is answered exactly where there is one
  pub loops : ((k : ℕ) × (i : ℕ) × (f ≡ forms.Loop k i)) ↔ Loop N (Live N E)
  -- and its branch is the least with which the live branches up to it have one
  pub earliest : (k i : ℕ) → f ≡ forms.Loop k i → Loop N (First E (suc k)) × ((j : ℕ) → j ≤ k → ¬ Loop N (First E j))
  -- "connected pieces minus one, 0 for no buses", whichever the answer
  pub pieces : (p : ℕ) × InPieces N (Live N E) p × (islands_field f ≡ p - 1)
  -- that is their number: pieces cannot be counted otherwise
  pub one_number : (p q : ℕ) → InPieces N (Live N E) p → InPieces N (Live N E) q → p ≡ q
