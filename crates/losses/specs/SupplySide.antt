-- Document 02's loss, case by case: without a supply it is document 01's; with one, in every radial state, the load of a live branch is that of its side away from the supply.
use Rattle.std.specs.Prelude.{◌≡◌, true, ℕ}
use Rattle.std.proofs.Common.{sym}
use Rattle.std.proofs.Math.Path.{subst}
use Rattle.std.specs.Prelude.{None, Some}
use Rattle.network.specs.Check.{check_records}
use Rattle.network.specs.Records.{Network}
use Rattle.network.specs.Answers.{accepted}
use Rattle.network.specs.InsideLaws.{check_inside}
use Rattle.states.specs.Live.{live}
use Rattle.states.specs.Switches.{State}
use Rattle.graph.specs.SideLaws.{Drawn, drawn_away}
use Rattle.graph.specs.Sides.{away}
use Rattle.feeders.specs.Feeder.{position, feeder, LiveIn, radial_in}
use Rattle.feeders.specs.FeederLaws.{feeder_sound, feeder_small, radial_in_tree, position_listed}
use Rattle.feeders.specs.Supply.{check_supply}
use Rattle.feeders.specs.SupplyLaws.{records_supplied}
use Rattle.losses.specs.Loss.{load_at, resistance_at, loss, drawn_for, drawn, loss_in}

-- with a supply, the state is radial: what the loss by one walk from the supply wants
abbrev pub Fed : Network → State → Type 0
Fed N s = (id : ℕ) → N.supply ≡ Some id → radial_in N s ≡ true

module _ (N : Network) (s : State) where
  -- in every state
  pub unsupplied_loss : N.supply ≡ None → loss_in N s ≡ loss (feeder N) (live N s) (load_at N) (resistance_at N) N.base
  unfolding loss_in drawn
  unsupplied_loss e = rw e

  module _ (id : ℕ) (named : N.supply ≡ Some id) where
    pub supplied_loss : loss_in N s ≡ loss (away (feeder N) (live N s) (position N id)) (live N s) (load_at N) (resistance_at N) N.base
    unfolding loss_in drawn
    supplied_loss = rw named

    -- of a live branch exactly one end is away from the supply, it is drawn as the to bus, and the walk whose loads are added lists exactly its side
    pub supply_sides : check_records N ≡ accepted tt → check_supply N ≡ accepted tt → radial_in N s ≡ true → (k : ℕ) → LiveIn N s k
        → Drawn (feeder N) (live N s) (position N id) k ((drawn N (live N s)).from k) ((drawn N (live N s)).to k)
    unfolding drawn
    supply_sides ok fed-so r k l =
        let inside = (check_inside N).0 ok in
        subst (λ z. Drawn (feeder N) (live N s) (position N id) k ((drawn_for N z (live N s)).from k) ((drawn_for N z (live N s)).to k)) (sym named)
        (drawn_away (feeder N) (live N s) (feeder_sound N inside) (feeder_small N inside) ((radial_in_tree N ok s).0 r) k l (position N id) (position_listed N id (records_supplied N ok fed-so id named).0))
