-- `find` meets its contract: `index_of` is the library's first position that passes the test.
use Rattle.std.proofs.Common.{◌≡◌, refl, ℕ, List, eqb, rules, one-add, Bool, length, arith}
use Rattle.std.specs.List.{position_or_len, position}
use Rattle.std.specs.Option.{unwrap_or}
use Rattle.std.proofs.lemmas.Grind.{common_steps}
use Rattle.std.proofs.lemmas.List.Recursion.{is_position_or_len}
use Rattle.std.proofs.lemmas.List.Sums.{prefix_len-le-length}
use Rattle.std.proofs.lemmas.Iterator.{YieldsList-from_slice}
use Rattle.std.proofs.lemmas.Iterator.Search.{position_from_yields_List}
use borrow.Author.Tests.{tests}
use Rattle.numbers.specs.Choose.{index_of}
use Rattle.scan.proofs.find.Goals as goal

as_position : (byte : ℕ) (xs : List ℕ) → index_of byte xs ≡ position_or_len (λ x. eqb byte x) xs
unfolding index_of
as_position byte = is_position_or_len (index_of byte) (λ x. eqb byte x) refl (λ x xs. rw one-add)

or_length : (p : ℕ → Bool) (xs : List ℕ) → unwrap_or (position p xs) (length xs) ≡ position_or_len p xs
or_length p xs = grind (arith, common_steps, prefix_len-le-length)

pub returns-clause-value : goal.returns-clause-value
returns-clause-value c =
    let p = λ (x : ℕ). eqb c.args.byte x in
    let found : c.position.result ≡ position p c.args.text.now =
    position_from_yields_List p _ _ c.position.result c.position.ensures.ran (YieldsList-from_slice _ c.iter.ensures.rest) (λ x b q k. search (rules, tests)) in
    rw (as_position, c.unwrap_or.ensures, found) (or_length p c.args.text.now)
