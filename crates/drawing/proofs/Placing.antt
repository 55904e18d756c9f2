-- The place of each bus in an order, as the code stores them: from the last of the order to the first, so that the first place of a bus stays.
use mathlib.Core.Path.{◌≡◌, sym, ◌∙◌}
use mathlib.Core.List.{List}
use Prim.Native.Nat.{ℕ, ◌+◌, ◌<◌}
use native.Mathlib.Nat.{add-zero, zero-add}
use native.Mathlib.Omega.{arith}
use lib.ListN.{length, get_or, drop, set, replicate, drop_of_length-le}
use Rattle.numbers.specs.Choose.{index_of}
use Rattle.numbers.specs.ChooseLaws.{index_here, index_behind}
use Rattle.numbers.specs.TableLaws.{replicate_table, table_cong, table_set}
use Rattle.numbers.specs.UpTo.{table}
use Rattle.drawing.specs.Drawing.{places_of}

module _ (order : List ℕ) where
  -- the first place of each bus from `at` on
  abbrev pub places_from : ℕ → List ℕ
  places_from at = table (λ b. at + index_of b (drop at order)) 256

  pub none_placed : (n : ℕ) → length order ≡ n → replicate 256 n ≡ places_from n
  unfolding index_of
  none_placed n e = replicate_table n 256 ∙ table_cong _ _ 256 (λ b l. rw (drop_of_length-le order {i = n} (omega arith)) (sym (add-zero n)))

  pub one_placed : (at b : ℕ) {after : ℕ} → after ≡ at + 1 → at < length order → get_or order at 0 ≡ b → b < 256 → set (places_from after) b at ≡ places_from at
  one_placed at b s l e small =
      rw s (table_set _ _ 256 b at small (index_here b order at l e) (λ x k ne. sym (index_behind x order at l (λ q. ne (sym q ∙ e)))))

  pub all_placed : places_from 0 ≡ places_of order
  unfolding places_of
  all_placed = table_cong _ _ 256 (λ b l. zero-add (index_of b order))
