-- The base is a state as document 01 wants one: a byte 00 or 01 for each switch.
use Rattle.std.specs.Prelude.{Bool, true, false, ◌≤◌}
use Rattle.std.proofs.Common.{arith}
use Rattle.std.proofs.Math.ListN.{length-map}
use Rattle.network.specs.Records.{Network}
use Rattle.states.specs.Live.{state_byte, base_state}
use Rattle.states.specs.LiveLaws.{base_byte}
use Rattle.states.specs.Switches.{is_tie, GoodState}

pub state_byte_lem : (b : Bool) → state_byte b ≤ 1
state_byte_lem true = omega arith
state_byte_lem false = omega arith

pub base_good : (N : Network) → GoodState N (base_state N)
base_good N = record { long = unfold base_state in length-map N.switches _; bytes = λ i l. rw (base_byte N i) (state_byte_lem (is_tie N i)) }
