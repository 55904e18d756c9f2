-- How the searches go on and how they choose: rounds that may end before the last, and the lesser of two losses.
use Rattle.std.specs.Prelude.{Bool, true, false, cond, ℕ, zero, suc, Float}
use Rattle.std.specs.Prelude.{Option, None, Some}
use Rattle.std.specs.Float.Ieee.{lt}

-- "up to max_iterations rounds": n more, none after the end
unfoldable pub until_ended : {A : Type 0} → (A → Bool) → (A → A) → ℕ → A → A
until_ended ended next zero x = x
until_ended ended next (suc n) x = elim (ended x) [ true ↦ x | false ↦ until_ended ended next n (next x) ]

-- of two things with losses the lesser, the earlier on a tie
unfoldable pub lesser_by : {A : Type 0} → (A → Float) → Option A → A → Option A
lesser_by loss None x = Some x
lesser_by loss (Some b) x = cond (lt (loss x) (loss b)) (Some x) (Some b)
