-- `keep` meets its contract. The invariant: what the records so far make stands at the front, and behind it what stood there.
use Rattle.std.proofs.Common.{◌≡◌, ◌≤◌}
use Rattle.std.specs.Prelude.{Option}
use Rattle.own_loops.proofs.Keeping.{Made}
use Rattle.own_loops.proofs.dropping.keep.Given as goal

abbrev pub invariant-loop-record : goal.invariant-loop-record
invariant-loop-record g l =
    (l.kept ≤ l.record-index)
    × ((make : g.row.T.Denot → Option g.row.T.Denot) → ((x : g.row.T.Denot) (r : Option g.row.T.Denot) → goal.F-post g l.place x r → r ≡ make x)
    → Made make l.listed l.initial.left l.record-index l.left l.kept)
