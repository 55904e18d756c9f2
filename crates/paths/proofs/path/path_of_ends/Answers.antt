-- `path_of_ends` meets its contract, from those of `ends_of` and `bfs_path`. Beyond a graph's branches by `ends_beyond`.
use Rattle.std.proofs.Common.{rules, ◌≡◌, ◌≤◌, arith, length}
use Rattle.paths.proofs.Ends.{ends_beyond}
use Rattle.paths.proofs.path.path_of_ends.Goals as goal

pub returns-then-from-ge-MAX_BRANCHES : goal.returns-then-from-ge-MAX_BRANCHES
returns-then-from-ge-MAX_BRANCHES c =
    let l : length c.args.graph.far ≡ 1024 = search rules in
    let beyond : 512 ≤ c.args.k = omega arith in
    ends_beyond _ _ _ l beyond
