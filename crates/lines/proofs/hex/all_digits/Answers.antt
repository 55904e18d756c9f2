-- `all_digits` meets its contract: `every` is the library's test of all elements.
use Rattle.std.proofs.Common.{◌≡◌, refl, ◌∙◌, rules, ◌&&◌, List, ℕ, Bool}
use Rattle.std.specs.List.{list_all}
use Rattle.std.proofs.lemmas.List.Recursion.{same_from_clauses}
use Rattle.std.proofs.lemmas.Iterator.{YieldsList-from_slice}
use Rattle.std.proofs.lemmas.Iterator.Search.{all_from_yields_List}
use borrow.Author.Tests.{tests}
use Rattle.numbers.specs.Every.{every}
use Rattle.lines.specs.Hex.{is_digit}
use Rattle.lines.proofs.hex.all_digits.Goals as goal

as_all : (p : ℕ → Bool) (xs : List ℕ) → list_all p xs ≡ every p xs
unfolding every
as_all p = same_from_clauses (list_all p) (every p) (λ x b. p x && b) refl (λ x xs. refl) (λ x xs. refl)

pub returns : goal.returns
returns c =
    all_from_yields_List is_digit _ _ c.all.result c.all.ensures.ran (YieldsList-from_slice _ c.iter.ensures.rest) (λ x b q k. search (rules, tests))
    ∙ as_all is_digit c.args.s.now
