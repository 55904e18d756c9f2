-- `replay` is safe: each entry adds one to the texts, and no more of them can differ.
use Rattle.std.proofs.Common.{◌≡◌, ◌≤◌}
use Rattle.replay.proofs.replay.Given as goal

abbrev pub invariant-loop : goal.invariant-loop
invariant-loop g l = (l.found.differences ≤ l.found.texts) × (l.found.texts ≡ l.counter)
