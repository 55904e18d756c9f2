-- Document 01's limits, and document 02's of switches on a branch and of branches from a bus to itself, as statements about a network. No refusal number occurs here.
use mathlib.Core.List.{List, [], ◌∷◌, map, Memᴰ}
use Rattle.std.specs.Prelude.{◌≡◌, ◌≢◌, true, ℕ, ◌≤◌, ◌<◌, length}
use Rattle.numbers.specs.Distinct.{Distinct}
use Rattle.numbers.specs.Times.{times}
use Rattle.network.specs.Records.{Network}
use Rattle.network.specs.Limits.{ok_base, ok_load, ok_r, bus_id, switch_id, on, ties, method_byte}

-- P holds of each of the list
abbrev pub Each : {A : Type 0} → (A → Type 0) → List A → Type 0
Each P [] = Unit {0}
Each P (a ∷ rest) = P a × Each P rest

-- a bus with this id is listed
abbrev pub HasBus : Network → ℕ → Type 0
HasBus N i = Memᴰ i (map bus_id N.buses)

pub record Inside (N : Network) : Type 0 where
  -- "At most 256 buses, 512 branches, 512 switches, 1,000 iterations, all from 0"
  pub iterations : N.iterations ≤ 1000
  pub counts : (length N.buses ≤ 256) × (length N.branches ≤ 512) × (length N.switches ≤ 512)
  -- "base_mva from 0.001 to 1,000,000; pd within ±1,000,000; r from 0 to 1,000; ends allowed"
  pub base : ok_base N.base ≡ true
  pub loads : Each (λ b. ok_load b.pd.0 ≡ true) N.buses
  pub resistances : Each (λ b. ok_r b.r ≡ true) N.branches
  -- both ends of a branch are listed buses, a switch is on a branch
  pub ends : Each (λ b. HasBus N b.from_bus × HasBus N b.to_bus) N.branches
  pub positions : Each (λ s. s.branch_idx < length N.branches) N.switches
  -- an id stands once in its kind
  pub bus_ids : Distinct (map bus_id N.buses)
  pub switch_ids : Distinct (map switch_id N.switches)
  -- document 02, Point 6: "A branch may have two switches", not "a third"
  pub at_most_two : (k : ℕ) → times k (map on N.switches) ≤ 2
  -- at most ten normally open switches with method 02
  pub few_ties : method_byte N.algorithm ≡ 2 → ties N.switches ≤ 10

-- document 02, Point 7: no branch goes from a bus to itself
abbrev pub Proper : Network → Type 0
Proper N = Each (λ b. b.from_bus ≢ b.to_bus) N.branches
