-- The fields of a row, each read at its position, are the row's fields.
use mathlib.Core.Path.{◌≡◌, refl}
use mathlib.Core.List.{List}
use Prim.Native.Nat.{ℕ, zero, suc, ◌^◌, ◌≤◌, ◌<◌}
use native.Mathlib.Omega.{arith}
use native.Mathlib.Nat.{pow-le-pow_right, min-le_left}
use lib.Dec.{lit<}
use lib.ListN.{length, take, length-take}
use Rattle.network.specs.declared.switch.ReconfigAlgorithm.{ReconfigAlgorithm}
use Rattle.network.specs.declared.switch.ReconfigAlgorithm.TheVariants.{BranchExchange, TabuSearch, Exhaustive}
use Rattle.network.specs.Limits.{method_byte}
use Rattle.record_lines.specs.Kinds.{method_of}
use Rattle.lines.specs.Hex.{number}
use Rattle.lines.specs.HexLaws.{number_below}

-- a number of w digits
pub field_below : (w : ℕ) (cs : List ℕ) {x : ℕ} → x ≡ number (take w cs) → x < 16 ^ w
field_below w cs {x} e =
    let long : length (take w cs) ≤ w = rw (length-take w cs) (min-le_left w (length cs)) in
    let below : x < 16 ^ length (take w cs) = rw e (number_below (take w cs)) in
    omega (arith, pow-le-pow_right {n = 16} (lit< tt) {i = length (take w cs)} {j = w} long)

-- a method byte
pub method_known : (a : ReconfigAlgorithm) {m : ℕ} → method_byte a ≡ m → m ≤ 2
method_known BranchExchange e = rw (← e) (omega arith)
method_known TabuSearch e = rw (← e) (omega arith)
method_known Exhaustive e = rw (← e) (omega arith)

pub method_is : (a : ReconfigAlgorithm) {m : ℕ} → method_byte a ≡ m → method_of m ≡ a
unfolding method_of
method_is BranchExchange e = rw (← e)
method_is TabuSearch e = rw (← e)
method_is Exhaustive e = rw (← e)

-- a byte above the tabu search's is taken for the last method
pub last_method : (m : ℕ) → 1 < m → Exhaustive ≡ method_of m
unfolding method_of
last_method zero h = absurd (omega arith)
last_method (suc zero) h = absurd (omega arith)
last_method (suc (suc m)) h = refl
