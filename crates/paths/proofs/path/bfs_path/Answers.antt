-- `bfs_path` meets its contract, from those of `walk`, `ways_of`, `way_back` and `turned`. That the lists fit their arrays is known by the arrays' lengths.
use Rattle.std.proofs.Common.{rules, ◌≡◌, arith, length}
use Rattle.graph.specs.Filled.{walked_few, path_few}
use Rattle.paths.proofs.Leading.{path_found, path_none}
use Rattle.paths.proofs.path.bfs_path.Goals as goal

pub ways_of-ways-requires : goal.ways_of-ways-requires
ways_of-ways-requires c =
    let l : length c.walk.result.bus ≡ 256 = search rules in
    walked_few _ _ c.walk.ensures l

pub turned-requires : goal.turned-requires
turned-requires c =
    let l : length c.way_back.result.branch ≡ 256 = search rules in
    path_few _ _ (c.way_back.ensures _ (c.ways_of-ways.ensures _ c.walk.ensures)) l

pub returns-then-is_some : goal.returns-then-is_some
returns-then-is_some c =
    let ways = c.ways_of-ways.ensures _ c.walk.ensures in
    path_found _ _ _ _ ways c.from.ensures (omega arith) c.is_some.ensures c.if-is_some.true (c.turned.ensures _ (c.way_back.ensures _ ways))

pub returns : goal.returns
returns c = path_none _ _ _ _ (c.ways_of-ways.ensures _ c.walk.ensures) c.from.ensures (omega arith) c.is_some.ensures c.if-is_some.false
