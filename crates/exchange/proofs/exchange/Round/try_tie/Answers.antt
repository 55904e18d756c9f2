-- `try_tie` meets its contract: the first swap along the path by the rows, with the tie's branch live where closing it makes it live.
use Rattle.std.proofs.Common.{◌≡◌, ap, ◌∙◌, arith, rules, length, set}
use Rattle.graph.specs.Filled.{path_few}
use Rattle.numbers.specs.Choose.{first_some}
use Rattle.paths.specs.PathLists.{path_list}
use Rattle.exchange.specs.ExchangeValues.{row_swap, row_trial}
use Rattle.exchange.proofs.exchange.Round.try_tie.Goals as goal

pub shared_ref_as_front-first_swap : goal.shared_ref_as_front-first_swap
shared_ref_as_front-first_swap c =
    let path = c.find_loop_branches_closed_tie-path in
    let l : length path.result.branch ≡ 256 = search rules in
    omega (arith, path_few _ _ path.ensures l)

pub returns : goal.returns
unfolding row_trial
returns c =
    let g = c.args.self.now in
    let swaps = row_swap g.start.now.graph g.sections.now g.current.now.configuration.switches in
    let path = c.find_loop_branches_closed_tie-path.result in
    c.first_swap.ensures
    ∙ rw (c.from.ensures, c.from-2.ensures) (ap (first_some (swaps (set g.live c.args.branch c.args.made_live))) (path_list _ path c.find_loop_branches_closed_tie-path.ensures))
