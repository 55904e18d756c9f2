-- `add_branch` meets its contract: each of its three cases is a law of Labelling.
use Rattle.std.proofs.Common.{arith, ◌∙◌}
use Rattle.forms.proofs.Labelling.{few_links, dead_added, link_added, closing_added}
use Rattle.forms.proofs.form.Added.add_branch.Goals as goal

pub returns-then-not-live : goal.returns-then-not-live
returns-then-not-live c = λ N E live f t w. dead_added w (live ∙ c.if-not-live.true)

pub overflow_add-self : goal.overflow_add-self
overflow_add-self c =
    let few = few_links c.requires.1.2 in
    let small = c.requires.0 in
    record { fits = omega arith }

pub returns-then-kept-gone : goal.returns-then-kept-gone
returns-then-kept-gone c =
    λ N E live f t w.
    link_added w (live ∙ c.if-not-live.false) f t c.from.ensures c.from-2.ensures (omega arith) (omega arith) c.if-kept-gone.true c.merge.ensures

pub returns-else-kept-gone : goal.returns-else-kept-gone
returns-else-kept-gone c =
    λ N E live f t w.
    closing_added w (live ∙ c.if-not-live.false) f t c.from.ensures c.from-2.ensures (omega arith) (omega arith) c.if-kept-gone.false c.or-self.ensures
