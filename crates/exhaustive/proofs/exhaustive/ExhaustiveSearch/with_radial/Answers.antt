-- `with_radial` meets its contract: the state takes the place of the least before it, or does not.
use Rattle.std.proofs.Common.{◌≡◌, sym, ◌∙◌, true, false}
use Rattle.exhaustive.specs.ExhaustiveTrials.{radial_more}
use Rattle.exhaustive.specs.ExhaustiveValues.{is_least}
use Rattle.exhaustive.proofs.exhaustive.ExhaustiveSearch.with_radial.Goals as goal

pub returns-then-is_least : goal.returns-then-is_least
returns-then-is_least c =
    λ x b e q.
    let less : is_least c.args.self.least c.args.state.loss ≡ true = sym c.is_least.ensures ∙ c.if-is_least.true in
    rw less at (radial_more x e b q)

pub returns-else-is_least : goal.returns-else-is_least
returns-else-is_least c =
    λ x b e q.
    let not_less : is_least c.args.self.least c.args.state.loss ≡ false = sym c.is_least.ensures ∙ c.if-is_least.false in
    rw not_less at (radial_more x e b q)
