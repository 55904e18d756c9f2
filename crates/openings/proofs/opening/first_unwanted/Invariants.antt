-- `first_unwanted` meets its contract. The invariant: what is found from the index on is what is found in all.
use Rattle.std.proofs.Common.{◌≡◌, drop}
use Rattle.graph.specs.Rows.{flag}
use Rattle.openings.specs.Opening.{first_unwanted}
use Rattle.openings.proofs.opening.first_unwanted.Given as goal

abbrev pub invariant-loop-k : goal.invariant-loop-k
invariant-loop-k l = first_unwanted (flag l.wanted) l.path ≡ first_unwanted (flag l.wanted) (drop l.k-index l.path)
