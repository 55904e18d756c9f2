-- `enter` meets its contract, by the laws of Reaches. A bus that is not marked finds room, since no more buses are reached than marked.
use Rattle.std.proofs.Common.{◌<◌, arith}
use Rattle.bfs.proofs.Entering.{one_fits}
use Rattle.lists.proofs.Reaches.{marked_left, entered}
use Rattle.lists.proofs.lists.Reached.enter.Goals as goal

pub returns-then-self-at : goal.returns-then-self-at
returns-then-self-at c = marked_left _ _ c.from-at.ensures (omega arith) c.if-self-at.true

pub bounds-self-end : goal.bounds-self-end
bounds-self-end c =
    let room : c.args.self.now.count < 256 = one_fits c.requires.2.walking _ (omega arith) c.if-self-at.false in
    omega arith

pub overflow_add-self : goal.overflow_add-self
overflow_add-self c =
    let room : c.args.self.now.count < 256 = one_fits c.requires.2.walking _ (omega arith) c.if-self-at.false in
    omega arith

pub returns : goal.returns
returns c = entered _ _ c.from-at.ensures (omega arith) _ c.from-end.ensures c.if-self-at.false
