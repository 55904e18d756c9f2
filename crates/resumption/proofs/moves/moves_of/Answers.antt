-- `moves_of` meets its contract. The step of the loop is `pair_made`.
use Rattle.std.proofs.Common.{◌∙◌, arith}
use Rattle.resumption.proofs.Moving.{none_made, closing_room, opening_room, pair_made, all_made}
use Rattle.resumption.proofs.moves.moves_of.Goals as goal

pub loop-pair-init : goal.loop-pair-init
loop-pair-init c = c.no_moves-moves.ensures ∙ none_made c.args.pairs.now

pub push_ids-requires : goal.push_ids-requires
push_ids-requires c = omega (arith, closing_room c.args.pairs.now c.loop-pair.invariant c.loop-pair-test.true, c.requires)

pub push_ids-requires-in-loop-pair : goal.push_ids-requires-in-loop-pair
push_ids-requires-in-loop-pair c = omega (arith, opening_room c.args.pairs.now c.loop-pair.invariant c.loop-pair-test.true c.push_ids.ensures, c.requires)

pub loop-pair-preserved : goal.loop-pair-preserved
loop-pair-preserved c = pair_made c.args.pairs.now c.loop-pair.invariant c.loop-pair-test.true c.push_ids.ensures c.push_ids-in-loop-pair.ensures

pub returns : goal.returns
returns c = all_made c.args.pairs.now c.loop-pair.invariant c.loop-pair-test.false
