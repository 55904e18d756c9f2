-- `after_move` meets its contract: the move is below the best ever, or it is not, or there is none.
use Rattle.std.proofs.Common.{sym, ap, ◌∙◌}
use Rattle.std.specs.Option.{is_some}
use Rattle.std.proofs.lemmas.Bool.{not-true, not-false}
use Rattle.tabu.specs.TabuRounds.{after_none, after_better, after_worse}
use Rattle.tabu.proofs.tabu.TabuSearch.after_move.Goals as goal

pub returns-then-step-self : goal.returns-then-step-self
returns-then-step-self c = λ N x m e w q.
    rw (not-true _ (sym c.is_none-self.ensures ∙ ap is_some c.in-Some.is), c.push.ensures) (after_better N x m c.args.self.now c.args.step e q w _ c.in-Some.is c.if-step-self.true)

pub returns-else-step-self : goal.returns-else-step-self
returns-else-step-self c = λ N x m e w q.
    rw (not-true _ (sym c.is_none-self.ensures ∙ ap is_some c.in-Some.is), c.push.ensures) (after_worse N x m c.args.self.now c.args.step e q w _ c.in-Some.is c.if-step-self.false)

pub returns-in_default : goal.returns-in_default
returns-in_default c = λ N x m e w q. rw (not-false _ (sym c.is_none-self.ensures ∙ ap is_some c.in_default.is)) (after_none N x m c.args.self.now c.args.step e q c.in_default.is)
