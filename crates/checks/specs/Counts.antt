-- A count for each number below a size: how often the number stands among those met so far.
use Rattle.std.specs.Prelude.{◌≡◌, refl, List, [], ◌∷◌, ◌++◌, ℕ, ◌+◌, ◌<◌, get_or, set, replicate}
use Rattle.std.proofs.Common.{sym, arith, eq-eqb, ne_eqb}
use Rattle.numbers.specs.UpTo.{table}
use Rattle.numbers.specs.TableLaws.{get_or_table, replicate_table, table_set}
use Rattle.numbers.specs.Times.{times, times_last}

unfoldable pub counts : ℕ → List ℕ → List ℕ
counts size xs = table (λ x. times x xs) size

pub count_at : (size x : ℕ) (xs : List ℕ) → x < size → get_or (counts size xs) x 0 ≡ times x xs
unfolding counts
count_at size x xs h = get_or_table _ size x 0 h

pub no_counts : (size : ℕ) → replicate size 0 ≡ counts size []
unfolding counts times
no_counts size = replicate_table 0 size

-- one number more
pub set_count : (size x n : ℕ) (xs : List ℕ) → x < size → n ≡ times x xs → set (counts size xs) x (n + 1) ≡ counts size (xs ++ (x ∷ []))
unfolding counts
set_count size x n xs h e =
    table_set _ _ size x (n + 1) h (rw (times_last x xs x, eq-eqb x x refl, e) (omega arith)) (λ i k d. sym (rw (times_last i xs x, ne_eqb i x d)))
