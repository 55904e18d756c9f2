-- The barred ids: at most 7 are kept, and an id is looked for among them by rising position. That the code holds them as a list stands with its type (`tabu_list::TabuList`).
use Rattle.std.specs.Prelude.{◌≡◌, ◌≢◌, true, false, List, ℕ, ◌+◌, ◌-◌, ◌≤◌, ◌<◌, length, get_or, drop}
use Rattle.std.proofs.Common.{arith, add-one, length-drop, drop_of_length-le, drop-cons}
use borrow.Author.Tests.{eq-eqb, ne_eqb}
use Rattle.numbers.specs.Choose.{among}
use Rattle.tabu.specs.Tabu.{last_seven}

pub seven_short : (l : List ℕ) → length (last_seven l) ≤ 7
unfolding last_seven
seven_short l = omega (arith, length-drop (length l - 7) l)

-- ---- an id is looked for by rising position
module _ (x : ℕ) (l : List ℕ) (i : ℕ) where
  pub among_next : i < length l → x ≢ get_or l i 0 → among x (drop i l) ≡ among x (drop (i + 1) l)
  unfolding among
  among_next h n = rw (drop-cons l i 0 h, add-one, ne_eqb x (get_or l i 0) n)

  pub among_here : i < length l → x ≡ get_or l i 0 → among x (drop i l) ≡ true
  unfolding among
  among_here h e = rw (drop-cons l i 0 h, eq-eqb x (get_or l i 0) e)

  pub among_past : length l ≤ i → among x (drop i l) ≡ false
  unfolding among
  among_past h = rw (drop_of_length-le l {i = i} h)
