-- What holds of the lesser of two losses.
use Rattle.std.specs.Prelude.{Option, None, Some}
use Rattle.std.specs.Prelude.{Float}
use Rattle.std.specs.Float.Ieee.{lt}
use Rattle.numbers.specs.IfSome.{IfSome, cond_holds}
use Rattle.searches.specs.Rounds.{lesser_by}

-- what holds of both holds of it
pub lesser_holds : {A : Type 0} (P : A → Type 0) (loss : A → Float) (best : Option A) (x : A) → IfSome P best → P x → IfSome P (lesser_by loss best x)
unfolding lesser_by
lesser_holds P loss None x h w = w
lesser_holds P loss (Some b) x h w = cond_holds P (lt (loss x) (loss b)) (Some x) (Some b) (λ e. w) h
