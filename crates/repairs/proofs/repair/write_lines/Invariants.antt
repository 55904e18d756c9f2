-- `write_lines` meets its contract. The invariant: the lines of the records passed are written, those of the rest are left, and there are enough line numbers.
use Rattle.std.proofs.Common.{◌≡◌, ◌≤◌, ◌+◌, Bool, length}
use Rattle.printing.specs.Printed.{reason_byte}
use Rattle.repairs.proofs.Dropping.{Dropping}
use Rattle.repairs.proofs.repair.write_lines.Given as goal

abbrev pub invariant-loop-line : goal.invariant-loop-line
invariant-loop-line g l =
    (l.line-iterator.a.start + length l.line-iterator.b.rest.now ≤ 65535)
    × ((drops : g.row.T.Denot → Bool) → ((x : g.row.T.Denot) (r : Bool) → goal.F-post g l.dropped x r → r ≡ drops x)
    → Dropping drops (reason_byte l.reason) l.fn.line l.records l.initial.out l.at l.out l.end l.line-iterator.a.start l.line-iterator.b.rest.now)
