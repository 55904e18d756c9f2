-- Where each branch stands among those that are kept, by its old position, as the code lists it: None for one that is dropped.
use Rattle.std.specs.Prelude.{Option, Some, None, cond, List, ℕ, get_or}
use Rattle.std.specs.Option.{option_map}
use Rattle.numbers.specs.Counts.{count}
use Rattle.numbers.specs.UpTo.{table}
use Rattle.network.specs.declared.branch.Branch.{Branch}
use Rattle.network.specs.declared.switch.Switch.{Switch}
use Rattle.own_loops.specs.OwnLoops.{proper_at}

abbrev pub new_position : List Branch → ℕ → Option ℕ
new_position branches k = cond (proper_at branches k) (Some (count (proper_at branches) k)) None

unfoldable pub new_positions : List Branch → List (Option ℕ)
new_positions branches = table (new_position branches) 512

-- ---- a switch by such a list
abbrev pub placed : List (Option ℕ) → Switch → Option Switch
placed positions s =
    option_map (λ (k : ℕ). record { id = s.id; branch_idx = k; normally_open = s.normally_open; can_operate = s.can_operate }) (get_or positions s.branch_idx None)
