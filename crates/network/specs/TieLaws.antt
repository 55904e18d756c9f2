-- How many ties there are among the switches, counted one after the other.
use Rattle.std.specs.Prelude.{◌≡◌, refl, cond, ℕ, suc, ◌+◌, ◌≤◌}
use Rattle.std.proofs.Common.{arith}
use Rattle.numbers.specs.UpTo.{table}
use Rattle.numbers.specs.TableLaws.{length_table, table_more}
use Rattle.numbers.specs.Times.{Counting, counted_last, counted_short}
use Rattle.network.specs.declared.switch.Switch.{Switch}
use Rattle.network.specs.Limits.{ties}

pub ties_counting : Counting (λ s. s.normally_open) ties
unfolding ties
ties_counting = record { nothing = refl; one_more = λ s l. refl }

-- counted over a table, switch after switch
pub ties_next : (f : ℕ → Switch) (i t : ℕ) → t ≡ ties (table f i) → cond (f i).normally_open (suc t) t ≡ ties (table f (i + 1))
ties_next f i t e = rw (table_more f i, counted_last _ ties ties_counting (table f i) (f i), e)

pub ties_so_far : (f : ℕ → Switch) (i t : ℕ) → t ≡ ties (table f i) → t ≤ i
ties_so_far f i t e = rw e (omega (arith, counted_short _ ties ties_counting (table f i), length_table f i))
