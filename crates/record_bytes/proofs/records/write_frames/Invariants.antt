-- `write_frames` meets its contract. The invariant: what the first i bytes make is written up to `at`.
use mathlib.Core.Path.{◌≡◌}
use lib.ListN.{length}
use Rattle.record_bytes.specs.RecordCalls.{Made}
use Rattle.record_bytes.proofs.records.write_frames.Given as goal

abbrev pub invariant-loop-i : goal.invariant-loop-i
invariant-loop-i l = (length l.text ≡ length l.initial.text) × Made l.records l.text l.at l.left l.i
