-- What the arrays of the code hold in the middle of a walk, and what they say of a walk that is done.
use Rattle.std.specs.Prelude.{◌≡◌, Bool, false, cond, ◌||◌, List, map, ℕ, ◌<◌, ◌≤◌, eqb, length, get_or}
use Rattle.numbers.specs.Counts.{count}
use Rattle.graph.specs.Walk.{Visit, reached, enter, by_of}
use Rattle.graph.specs.Rows.{flag, filled}

-- the first n entries of bus and by are the visits so far, seen has a flag for each bus position that is not to be entered: the barred one and those reached.
-- There are no more visits than flags set: so a bus that is not flagged finds room
pub record Walking (barred : ℕ) (o : List Visit) (seen : List Bool) (bus by : List ℕ) (n : ℕ) : Type 0 where
  pub counted : n ≡ length o
  pub buses : bus ≡ filled (map (λ (v : Visit). v.bus) o)
  pub branches : by ≡ filled (map (λ (v : Visit). v.by) o)
  pub flags : length seen ≡ 256
  pub marks : (x : ℕ) → x < 256 → get_or seen x false ≡ (eqb x barred || reached x o)
  pub room : length o ≤ count (flag seen) 256

-- a neighbour is entered by a live branch
unfoldable pub enter_live : Bool → ℕ → List Visit → Visit → List Visit
enter_live live barred o v = cond live (enter barred o v) o

-- for each bus position whether it was reached, and by which branch
pub record WayOf (o : List Visit) (reach : List Bool) (by : List ℕ) : Type 0 where
  pub reaches : (x : ℕ) → x < 256 → get_or reach x false ≡ reached x o
  pub ways : (x : ℕ) → x < 256 → get_or by x 0 ≡ by_of x o
