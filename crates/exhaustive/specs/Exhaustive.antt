-- Document 01's exhaustive search, step by step.
use Rattle.std.specs.Prelude.{Bool, true, cond, not, ◌&&◌, ℕ, suc, ◌/◌, ◌%◌, ◌^◌, eqb, Float}
use Rattle.std.specs.Prelude.{Option, None, Some}
use Rattle.numbers.specs.UpTo.{up_to, table}
use Rattle.numbers.specs.Counts.{count}
use Rattle.network.specs.declared.switch.ReconfigAlgorithm.TheVariants as method
use Rattle.network.specs.Records.{Network}
use Rattle.states.specs.Live.{state_byte, base_state}
use Rattle.states.specs.Switches.{State, size, is_tie}
use Rattle.feeders.specs.Feeder.{radial_in}
use Rattle.losses.specs.Loss.{loss_in}
use Rattle.searches.specs.Rounds.{lesser_by}
use Rattle.searches.specs.Results.{Best}

-- bit i of a mask, from 0: is it 1?
abbrev pub bit : ℕ → ℕ → Bool
bit mask i = eqb (mask / 2 ^ i % 2) 1

-- how many ties there are, operable or locked: those that refusal 9 counts (`ExhaustiveTies.all_ties`)
abbrev pub tie_count : Network → ℕ
tie_count N = count (is_tie N) (size N)

-- "mask bit i closes the i-th tie": the i-th tie has i ties before it in the list, from 0. Open are the ties whose bit is 0; a section is closed
abbrev pub masked_byte : Network → ℕ → ℕ → ℕ
masked_byte N mask i = state_byte (is_tie N i && not (bit mask (count (is_tie N) i)))

unfoldable pub masked : Network → ℕ → State
masked N mask = table (masked_byte N mask) (size N)

-- a radial state with its loss
pub record Least : Type 0 where
  pub state : State
  pub loss : Float

-- the least so far, and how many radial states there were
pub record Exhaustive : Type 0 where
  pub least : Option Least
  pub radial_count : ℕ

-- "strictly least loss wins"
abbrev pub lesser : Option Least → Least → Option Least
lesser = lesser_by (λ b. b.loss)

-- a state with its loss
abbrev pub with_loss : Network → State → Least
with_loss N t = record { state = t; loss = loss_in N t }

-- before the first mask
abbrev pub no_mask : Exhaustive
no_mask = record { least = None; radial_count = 0 }

-- a radial state more
abbrev pub with_radial : Exhaustive → Least → Exhaustive
with_radial x b = record { least = lesser x.least b; radial_count = suc x.radial_count }

-- a mask more: only a radial state is kept and counted, "the count is the radial states"
unfoldable pub try_mask : Network → Exhaustive → ℕ → Exhaustive
try_mask N x mask = cond (radial_in N (masked N mask)) (with_radial x (with_loss N (masked N mask))) x

-- "masks rise from 0"
unfoldable pub exhaustive : Network → Exhaustive
exhaustive N = up_to (try_mask N) no_mask (2 ^ tie_count N)

-- "with none, the base"
unfoldable pub least_or_base : Network → Option Least → Least
least_or_base N None = with_loss N (base_state N)
least_or_base N (Some x) = x

-- "the count is the radial states"; "It converged"
unfoldable pub exhaustive_best : Network → Best
exhaustive_best N =
    let x = exhaustive N in
    let b = least_or_base N x.least in
    record { state = b.state; iterations = x.radial_count; converged = true }

-- the feeder with method 02 in its head
unfoldable pub as_exhaustive : Network → Network
as_exhaustive N = record { base = N.base; algorithm = method.Exhaustive; iterations = N.iterations; buses = N.buses; branches = N.branches; switches = N.switches; supply = N.supply }
