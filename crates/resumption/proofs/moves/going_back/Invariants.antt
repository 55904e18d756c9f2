-- `going_back` meets its contract. The invariant: the last moves, inverted, are in the list.
use Rattle.std.proofs.Common.{◌≡◌, length, take}
use mathlib.Core.List.{map, reverse}
use Rattle.plan.specs.SwitchLists.{listed}
use Rattle.resumption.specs.SingleMoves.{inverse}
use Rattle.resumption.proofs.moves.going_back.Given as goal

abbrev pub invariant-loop-operation : goal.invariant-loop-operation
invariant-loop-operation l = listed l.back ≡ map inverse (take (length l.yielded) (reverse l.done))
