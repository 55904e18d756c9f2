-- The branch that a pair opens, read off the rows of a graph: `Plan.opening` where the network is accepted (crate plan's RowOpening).
use Rattle.std.specs.Prelude.{Bool, not, List, ℕ}
use Rattle.numbers.specs.Choose.{first_of}
use Rattle.graph.specs.declared.rows.Graph.{Graph}
use Rattle.graph.specs.Rows.{flag, row_ends_path}

-- the first branch of a path that is not among the wanted ones; 0 where all are
abbrev pub first_unwanted : (ℕ → Bool) → List ℕ → ℕ
first_unwanted wanted path = first_of (λ k. not (wanted k)) 0 path

-- the opening that goes with closing branch k, by the rows
unfoldable pub row_opening : Graph → List Bool → List Bool → ℕ → ℕ
row_opening g live wanted k = first_unwanted (flag wanted) (row_ends_path g live k)
