-- `opening` meets its contract: the first unwanted branch on the path between the ends of branch k.
use Rattle.std.proofs.Common.{◌≡◌, ◌∙◌, rules, ℕ, length, take, ap, arith}
use Rattle.graph.specs.Filled.{path_few}
use Rattle.graph.specs.Rows.{flag}
use Rattle.paths.specs.PathLists.{path_list}
use Rattle.openings.specs.Opening.{first_unwanted, row_opening}
use Rattle.openings.proofs.opening.opening.Goals as goal

pub shared_ref_as_front-first_unwanted : goal.shared_ref_as_front-first_unwanted
shared_ref_as_front-first_unwanted c =
    let path = c.path_of_ends-path in
    let l : length path.result.branch ≡ 256 = search rules in
    omega (arith, path_few _ _ path.ensures l)

pub returns : goal.returns
unfolding row_opening
returns c = c.first_unwanted.ensures ∙ ap (first_unwanted (flag c.args.wanted)) (ap (λ (n : ℕ). take n c.path_of_ends-path.result.branch) c.from.ensures ∙ path_list _ _ c.path_of_ends-path.ensures)
