-- `push_ids` meets its contract. The invariant: the moves of the first ids are in the list.
use Rattle.std.proofs.Common.{◌≡◌, take}
use mathlib.Core.List.{◌++◌, map}
use Rattle.plan.specs.SwitchLists.{listed}
use Rattle.resumption.specs.SingleMoves.{to}
use Rattle.resumption.proofs.moves.push_ids.Given as goal

abbrev pub invariant-loop-id : goal.invariant-loop-id
invariant-loop-id l = listed l.moves ≡ listed l.initial.moves ++ map (to l.action) (take l.id-index l.id-items)
