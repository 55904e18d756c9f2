-- `ends_of` meets its contract: the ends of the branches before k are resolved.
use Rattle.std.proofs.Common.{◌≡◌, List, ℕ, length}
use Rattle.network.specs.declared.branch.Branch.{Branch}
use Rattle.ids.specs.Ids.{id_rows}
use Rattle.feeders.specs.FeederRows.{ends_of}
use Rattle.feeders.proofs.feeder.ends_of.Given as goal

abbrev pub invariant-loop-k : goal.invariant-loop-k
invariant-loop-k g l = (id : Branch → ℕ) → ((b : Branch) (r : ℕ) → goal.F-post g l.end b r → r ≡ id b) → (buses : List ℕ) → l.n ≡ length buses → l.rows ≡ id_rows buses
    → l.ends ≡ ends_of id buses l.branches l.k
