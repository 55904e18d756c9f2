-- Beyond the branches that a graph has room for both ends of a branch are bus 0, so the path is empty.
use mathlib.Core.Path.{◌≡◌, refl, sym, ap, ◌∙◌}
use mathlib.Core.Bool.{Bool, true, false, cond}
use mathlib.Core.List.{List, [], reverse}
use Prim.Native.Nat.{ℕ, zero, suc, ◌+◌, ◌*◌, ◌≤◌}
use native.Mathlib.Omega.{arith}
use lib.ListN.{length, get_or, replicate, get_or-eq_default}
use borrow.Author.Tests.{eq-eqb}
use Rattle.numbers.specs.Arrays.{padded}
use Rattle.graph.specs.declared.walks.PathBranches.{PathBranches}
use Rattle.graph.specs.declared.rows.Graph.{Graph}
use Rattle.graph.specs.Graph.{Net}
use Rattle.graph.specs.Walk.{Visit, walk_by, reached, back}
use Rattle.graph.specs.Rows.{path_of, row_neighbours, row_net, row_path, row_ends_path}

back_own : (N : Net) (o : List Visit) (a n : ℕ) → back N o a n a ≡ []
unfolding back
back_own N o a zero = refl
back_own N o a (suc n) = rw (eq-eqb a a refl)

path_own : (graph : Graph) (live : List Bool) (a : ℕ) → row_path graph live a a ≡ []
unfolding row_path
path_own graph live a =
    let o = walk_by (row_neighbours graph live) a a in
    ap (λ (l : List ℕ). cond (reached a o) (reverse l) []) (back_own (row_net graph) o a 256) ∙ go (reached a o)
  where
    go : (b : Bool) → ◌≡◌ {A = List ℕ} (cond b [] []) []
    go true = refl
    go false = refl

pub ends_beyond : (graph : Graph) (live : List Bool) (k : ℕ) → length graph.far ≡ 1024 → 512 ≤ k
    → ◌≡◌ {A = PathBranches} (record { count = 0; branch = replicate 256 0 }) (path_of (row_ends_path graph live k))
unfolding path_of padded
ends_beyond graph live k e h =
    let from : get_or graph.far (2 * k + 1) 0 ≡ 0 = get_or-eq_default graph.far 0 {n = 2 * k + 1} (omega (arith, e)) in
    let to : get_or graph.far (2 * k) 0 ≡ 0 = get_or-eq_default graph.far 0 {n = 2 * k} (omega (arith, e)) in
    sym (ap (λ (v : ℕ). path_of (row_path graph live v (get_or graph.far (2 * k) 0))) from
    ∙ ap (λ (v : ℕ). path_of (row_path graph live 0 v)) to
    ∙ ap path_of (path_own graph live 0))
