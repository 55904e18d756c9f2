-- Which patterns are a NaN's, by one comparison, and that 0.0 / 0.0 is the float of each of them.
use mathlib.Core.Path.{◌≡◌, refl, sym, ◌∙◌, subst}
use mathlib.Core.Bool.{Bool, not}
use Prim.Native.Nat.{ℕ, ◌%◌, ◌≤◌, ◌<◌}
use native.Mathlib.Omega.{arith}
use lib.Dec.{T, ltb, ltb→lt, lt→ltb, not_T}
use lib.Ieee.{Float, nan, inf, fin, binary64, div, is_nan, nan_bits, of_bits}
use lib.Ieee.Bits.{nan_bits_is, nan_bits_above}

-- the pattern of infinity, and the weight of the sign
abbrev pub infinity : ℕ
infinity = 0x7ff0_0000_0000_0000

abbrev pub sign : ℕ
sign = 0x8000_0000_0000_0000

module _ (n : ℕ) where
  pub no_nan_pattern : n % sign ≤ infinity → T (not (nan_bits binary64 n))
  no_nan_pattern h = subst (λ (b : Bool). T (not b)) (sym (nan_bits_above binary64 n)) (not_T (ltb infinity (n % sign)) (λ t. clash (n % sign) h (ltb→lt infinity (n % sign) t)))
    where
      clash : (a : ℕ) → a ≤ infinity → infinity < a → ⊥
      clash a h k = omega arith

  pub nan_pattern : infinity < n % sign → div binary64 (of_bits binary64 0) (of_bits binary64 0) ≡ of_bits binary64 n
  unfolding div of_bits is_nan
  nan_pattern h = sym (is_nan_lem (of_bits binary64 n) (subst (λ (b : Bool). T b) (sym (nan_bits_above binary64 n) ∙ nan_bits_is binary64 n) (lt→ltb infinity (n % sign) h)))
    where
      is_nan_lem : (x : Float) → T (is_nan x) → x ≡ nan
      is_nan_lem nan t = refl
      is_nan_lem (inf s) t = absurd t
      is_nan_lem (fin s m e) t = absurd t
