-- `push` meets its contract: the last 7 are all ids, or those behind the earliest.
use Rattle.std.proofs.Common.{ℕ, List, [], ◌∷◌, ◌++◌, length, ap, ◌∙◌, arith, length-take}
use Rattle.tabu.proofs.HeldIds.{last_all, last_but_first}
use Rattle.tabu.proofs.tabu_list.TabuList.push.Goals as goal
use Rattle.tabu.proofs.tabu_list.TabuList.push.Goals.{then-self-eq-TABU_SIZE, else-self-eq-TABU_SIZE}

pub returns : goal.returns
returns c =
    let held = ap length c.self.view_is in
    let counted = length-take c.self.inside.count c.self.inside.ids in
    c.push_back.ensures
    ∙ elim c.if-self-eq-TABU_SIZE.branch [
      | then-self-eq-TABU_SIZE w ↦ ap (λ (l : List ℕ). l ++ (c.args.id ∷ [])) (w.self-is ∙ w.pop_front.ensures) ∙ last_but_first c.args.self.now c.args.id (omega arith)
      | else-self-eq-TABU_SIZE w ↦ ap (λ (l : List ℕ). l ++ (c.args.id ∷ [])) w.self-is ∙ last_all c.args.self.now c.args.id (omega arith)
    ]
