-- The graph of a network that is accepted is sound; so radiality as it is computed, and what the live branches are instead, have their meaning for every accepted network.
use Rattle.std.specs.Prelude.{◌≡◌, ◌↔◌, true, List, ℕ, ◌≤◌, ◌<◌}
use Rattle.std.proofs.Common.{arith}
use Rattle.std.proofs.lemmas.List.{length-map}
use Rattle.numbers.specs.ChooseLaws.{index_found}
use Rattle.network.specs.Records.{Network}
use Rattle.network.specs.Answers.{accepted}
use Rattle.network.specs.Limits.{bus_id}
use Rattle.network.specs.Check.{check_records}
use Rattle.network.specs.Inside.{Inside, HasBus}
use Rattle.network.specs.InsideLaws.{check_inside}
use Rattle.network.specs.Positions.{from_listed, to_listed}
use Rattle.states.specs.Live.{live}
use Rattle.graph.specs.Graph.{Sound, Loop, Tree}
use Rattle.graph.specs.Radial.{radial}
use Rattle.graph.specs.RadialLaws.{radial_tree}
use Rattle.graph.specs.FormClaim.{FormMeaning}
use Rattle.graph.specs.Form.{islands_field, branch_field, fields_of, form_number}
use Rattle.graph.specs.FormLaws.{tree_reading, fields_small, form_says, no_branch_lem, tree_number, tree_fields}
use Rattle.feeders.specs.Feeder.{position, feeder, LiveIn, form_in, radial_in}

-- radial as document 01 tests it
pub radial_in_lem : (N : Network) (s : List ℕ) → radial_in N s ≡ radial (feeder N) (live N s)
unfolding radial_in form_in
radial_in_lem N s = tree_reading (feeder N) (live N s)

-- the position of a listed id is that of a bus
pub position_listed : (N : Network) (id : ℕ) → HasBus N id → position N id < (feeder N).buses
unfolding feeder position
position_listed N id m = omega (arith, index_found id _ m, length-map N.buses bus_id)

module _ (N : Network) (inside : Inside N) where
  pub feeder_sound : Sound (feeder N)
  unfolding feeder
  feeder_sound k l = (position_listed N _ (from_listed N inside k l), position_listed N _ (to_listed N inside k l))

  pub feeder_small : (feeder N).buses ≤ 256
  unfolding feeder
  feeder_small = inside.counts.0

  pub feeder_few : (feeder N).branches ≤ 512
  unfolding feeder
  feeder_few = inside.counts.1

  -- what `verify_radiality` answers is true exactly where the live branches connect all buses without a loop
  pub inside_radial_tree : (s : List ℕ) → (radial_in N s ≡ true) ↔ Tree (feeder N) (LiveIn N s)
  inside_radial_tree s = rw (radial_in_lem N s) (radial_tree (feeder N) (live N s) feeder_sound feeder_small)

-- so for every accepted network
pub radial_in_tree : (N : Network) → check_records N ≡ accepted tt → (s : List ℕ) → (radial_in N s ≡ true) ↔ Tree (feeder N) (LiveIn N s)
radial_in_tree N e = inside_radial_tree N ((check_inside N).0 e)

-- what `verify_radiality` answers of an accepted network, in every state, says what document 02 wants of it
pub form_in_says : (N : Network) → check_records N ≡ accepted tt → (s : List ℕ) → FormMeaning (feeder N) (live N s) (form_in N s)
unfolding form_in
form_in_says N e s = let inside = (check_inside N).0 e in form_says (feeder N) (live N s) (feeder_sound N inside) (feeder_small N inside)

-- and its fields have four digits
pub form_in_small : (N : Network) → check_records N ≡ accepted tt → (s : List ℕ) → (islands_field (form_in N s) < 0x10000) × (branch_field (form_in N s) < 0x10000)
unfolding form_in
form_in_small N e s = let inside = (check_inside N).0 e in fields_small (feeder N) (live N s) (feeder_small N inside) (feeder_few N inside)

-- the 84 line of a radial state is 840000FFFF and that of no other is; FFFF stands for no branch exactly where there is no loop
module _ (N : Network) (e : check_records N ≡ accepted tt) (s : List ℕ) where
  listed : (feeder N).branches ≤ 0xFFFF
  listed = omega (arith, feeder_few N ((check_inside N).0 e))

  pub no_branch_in : (branch_field (form_in N s) ≡ 0xFFFF) ↔ (¬ Loop (feeder N) (LiveIn N s))
  no_branch_in = no_branch_lem listed (form_in N s) (form_in_says N e s)

  pub tree_fields_in : (fields_of (form_in N s) ≡ record { islands = 0; branch = 0xFFFF }) ↔ (radial_in N s ≡ true)
  unfolding radial_in
  tree_fields_in = tree_fields listed (form_in N s) (form_in_says N e s)

  -- so `FEEDER_TREE` for a radial state and for no other
  pub tree_number_in : (form_number (form_in N s) ≡ 0xFFFF) ↔ (radial_in N s ≡ true)
  unfolding radial_in
  tree_number_in = tree_number listed (form_in N s) (form_in_says N e s)
