-- Document 02: "downstream is the side of a live branch that does not hold the supply bus". A net with its live branches drawn away from a bus.
use Rattle.std.specs.Prelude.{Bool, cond, ◌&&◌, ℕ}
use Rattle.graph.specs.Graph.{Net}
use Rattle.graph.specs.Walk.{reached, walk}

-- does the to side of live branch k hold bus z: does the walk from its to bus that never enters its from bus reach it?
unfoldable pub towards : Net → (ℕ → Bool) → ℕ → ℕ → Bool
towards N E z k = E k && reached z (walk N E (N.to k) (N.from k))

-- each live branch drawn away from bus z: from and to are exchanged where the to side holds it
unfoldable pub away : Net → (ℕ → Bool) → ℕ → Net
away N E z =
    record {
      buses = N.buses;
      branches = N.branches;
      from = λ k. cond (towards N E z k) (N.to k) (N.from k);
      to = λ k. cond (towards N E z k) (N.from k) (N.to k);
    }
