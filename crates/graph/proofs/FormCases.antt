-- What code that asks for a tree knows where it is none: one of the other two cases.
use mathlib.Core.Path.{◌≡◌, refl}
use mathlib.Core.Logic.{inl, inr}
use mathlib.Core.Bool.{false}
use mathlib.Core.List.{[], ◌∷◌}
use native.Mathlib.Omega.{arith}
use types.Run.{OneOf}
use denote.Enum.Declared.{tag_of}
use Rattle.graph.specs.declared.form.Form.{Form}
use Rattle.graph.specs.declared.form.Form.TheVariants as forms
use Rattle.graph.specs.Form.{is_tree}
use Rattle.graph.specs.contracts.form.Form.{the_type}

pub other_case : (f : Form) → OneOf (1 ∷ 2 ∷ []) (tag_of the_type f) → is_tree f ≡ false
other_case forms.Tree k = absurd (none k)
  where
    none : OneOf (1 ∷ 2 ∷ []) 0 → ⊥
    none (inl e) = omega arith
    none (inr e) = omega arith
other_case (forms.Loop branch islands) k = refl
other_case (forms.Islands islands) k = refl
