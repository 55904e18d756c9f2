-- `moves_of` meets its contract. The invariant: the moves of the first pairs are in the list.
use Rattle.plan.specs.SwitchLists.{listed}
use Rattle.resumption.proofs.Moving.{Made}
use Rattle.resumption.proofs.moves.moves_of.Given as goal

abbrev pub invariant-loop-pair : goal.invariant-loop-pair
invariant-loop-pair l = Made l.pairs (listed l.moves) l.pair-index
