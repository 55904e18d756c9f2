-- `count_masks` meets its contract: for at most ten ties no bit is lost.
use mathlib.Core.Path.{◌∙◌}
use native.Mathlib.Nat.{one-mul}
use native.Mathlib.Omega.{arith}
use lib.Pow.{shl_exact}
use Rattle.exhaustive.proofs.exhaustive.count_masks.Goals as goal

pub returns : goal.returns
returns c = shl_exact {a = 1} 1 _ 16 (omega arith) (omega arith) ∙ one-mul _
