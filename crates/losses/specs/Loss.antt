-- The loss, each operation rounded once. It is taken of a net, the flags of its live branches, the loads by bus position in megawatts,
-- the resistances by branch position in per unit, and base_mva.
use Rattle.std.specs.Prelude.{Bool, cond, List, ℕ, eqb, Float, length, get_or}
use Rattle.std.specs.Prelude.{Option, None, Some}
use Rattle.std.specs.Float.{binary64}
use Rattle.std.specs.Float.Ieee.{add, mul, div}
use Rattle.numbers.specs.Constants.{zero64}
use Rattle.numbers.specs.UpTo.{up_to}
use Rattle.graph.specs.Graph.{Net}
use Rattle.graph.specs.Sides.{away}
use Rattle.graph.specs.Walk.{Visit, start_at, walk}
use Rattle.feeders.specs.Feeder.{position, feeder}
use Rattle.network.specs.Records.{Network, no_bus, no_branch}
use Rattle.states.specs.Live.{live}

-- "The load starts at 0.0 and adds pd in breadth-first order": the load of the buses of a walk
unfoldable pub walk_load : (ℕ → Float) → List Visit → Float
walk_load pd o = up_to (λ t i. add binary64 t (pd (get_or o i (start_at 0)).bus)) zero64 (length o)

-- document 01's "downstream" of branch k is the to side: "from the to bus, never entering the from bus"
unfoldable pub downstream : Net → (ℕ → Bool) → ℕ → List Visit
downstream N E k = walk N E (N.to k) (N.from k)

-- "With p = load ÷ base_mva": ((r × p) × p) × base_mva
unfoldable pub term_of : Float → Float → Float → Float
term_of r load base = let p = div binary64 load base in mul binary64 (mul binary64 (mul binary64 r p) p) base

-- "take live branches by rising position": the total of the live ones among the first n, "which starts at 0.0"
unfoldable pub total_of : (ℕ → Bool) → (ℕ → Float) → (ℕ → Float) → Float → ℕ → Float
total_of E r load base n = up_to (λ t k. cond (E k) (add binary64 t (term_of (r k) (load k) base)) t) zero64 n

-- "Zero buses lose 0"
unfoldable pub loss : Net → (ℕ → Bool) → (ℕ → Float) → (ℕ → Float) → Float → Float
loss N E pd r base = cond (eqb N.buses 0) zero64 (total_of E r (λ k. walk_load pd (downstream N E k)) base N.branches)

-- the feeder as the loss takes it: as its cables were drawn; document 02: "With" a supply's line "downstream is the side of a live branch that does not hold the supply
-- bus", so that each live branch is drawn away from it
abbrev pub drawn_for : Network → Option ℕ → (ℕ → Bool) → Net
drawn_for N None E = feeder N
drawn_for N (Some id) E = away (feeder N) E (position N id)

unfoldable pub drawn : Network → (ℕ → Bool) → Net
drawn N E = drawn_for N N.supply E

-- the load of a bus and the resistance of a branch, by position
abbrev pub load_at : Network → ℕ → Float
load_at N i = (get_or N.buses i no_bus).pd.0

abbrev pub resistance_at : Network → ℕ → Float
resistance_at N k = (get_or N.branches k no_branch).r

-- the loss of a feeder with these branches live
abbrev pub loss_with : Network → (ℕ → Bool) → Float
loss_with N E = loss (drawn N E) E (load_at N) (resistance_at N) N.base

-- the loss of a feeder in a state of its switches, in MW
unfoldable pub loss_in : Network → List ℕ → Float
loss_in N s = loss_with N (live N s)
