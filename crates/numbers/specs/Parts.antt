-- Parts of a list: those that are lent, by their start and end, the first n of them, and those before and behind an element.
use Rattle.std.specs.Prelude.{◌≡◌, List, [], ◌∷◌, ◌++◌, ℕ, zero, suc, ◌+◌, ◌-◌, min, length, take, drop}
use Rattle.std.proofs.Common.{ap, arith, length-drop, take_all}
use Rattle.std.proofs.Math.Option.{some, none-ne-some}
use Rattle.std.proofs.Math.Nat.{zero-min, min-zero, suc-min-suc}
use Rattle.std.proofs.Math.ListN.{get_elem?}

module _ {A : Type 0} where
  -- from a position on
  pub part_rest : (l : List A) (n : ℕ) → take (length l - n) (drop n l) ≡ drop n l
  part_rest l n = take_all (length l - n) (drop n l) (omega (arith, length-drop n l))

  -- n entries from a position on
  pub part_is : (l : List A) (at n : ℕ) → take (at + n - at) (drop at l) ≡ take n (drop at l)
  part_is l at n =
      let e : at + n - at ≡ n = omega arith in
      ap (λ (k : ℕ). take k (drop at l)) e

  -- as many as are wanted, or as there are
  pub take_within : (n : ℕ) (l : List A) → take (min n (length l)) l ≡ take n l
  take_within zero l = rw (zero-min (length l))
  take_within (suc n) [] = rw (min-zero (suc n))
  take_within (suc n) (a ∷ l) = rw (suc-min-suc n (length l), take_within n l)

  -- an element: what is left before it, and what is taken with it
  pub drop_some : (l : List A) (n : ℕ) (a : A) → get_elem? l n ≡ some a → drop n l ≡ a ∷ drop (suc n) l
  drop_some [] n a e = absurd (none-ne-some a e)
  drop_some (x ∷ l) zero a e = let p : x ≡ a = cc in ap (λ (y : A). y ∷ l) p
  drop_some (x ∷ l) (suc n) a e = drop_some l n a e

  pub take_some : (l : List A) (n : ℕ) (a : A) → get_elem? l n ≡ some a → take (suc n) l ≡ take n l ++ (a ∷ [])
  take_some [] n a e = absurd (none-ne-some a e)
  take_some (x ∷ l) zero a e = let p : x ≡ a = cc in ap (λ (y : A). y ∷ []) p
  take_some (x ∷ l) (suc n) a e = ap (λ (r : List A). x ∷ r) (take_some l n a e)
