-- Document 02's limits on the supply, as a statement about a network. No refusal number occurs here.
use Rattle.std.specs.Prelude.{◌≡◌, ℕ}
use Rattle.std.specs.Prelude.{Some}
use Rattle.network.specs.Records.{Network}
use Rattle.network.specs.Inside.{HasBus}
use Rattle.states.specs.Live.{base_state}
use Rattle.graph.specs.Graph.{Tree}
use Rattle.feeders.specs.Feeder.{feeder, LiveIn}

-- where a supply is named, a bus with its id is listed, and the base's live branches are a tree
abbrev pub Supplied : Network → Type 0
Supplied N = (id : ℕ) → N.supply ≡ Some id → HasBus N id × Tree (feeder N) (LiveIn N (base_state N))
