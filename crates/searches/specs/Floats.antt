-- No float is below itself: so a state with the best's own loss never wins.
use Rattle.std.specs.Prelude.{◌≡◌, refl, true, false, ◌*◌, Float}
use Rattle.std.proofs.Common.{arith, le-ltb}
use Rattle.std.specs.Float.{nan, inf, fin}
use Rattle.std.specs.Float.Ieee.{lt, up, down}

pub lt_self : (x : Float) → lt x x ≡ false
unfolding lt
lt_self nan = refl
lt_self (inf true) = refl
lt_self (inf false) = refl
lt_self (fin true m e) = le-ltb (m * up e * down e) (m * up e * down e) (omega arith)
lt_self (fin false m e) = le-ltb (m * up e * down e) (m * up e * down e) (omega arith)
