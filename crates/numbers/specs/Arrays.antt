-- An array that holds a list: the list's entries in front, a filler behind them.
use Rattle.std.specs.Prelude.{◌≡◌, ◌≢◌, List, [], ◌∷◌, ◌++◌, map, get_or, take, set, replicate}
use Rattle.std.proofs.Math.Path.{refl}
use Rattle.std.proofs.Common.{sym, ap, ◌∙◌}
use Prim.Native.Nat.{ℕ, zero, suc, ◌+◌, ◌-◌, ◌≤◌, ◌<◌}
use native.Mathlib.Omega.{arith}
use Rattle.std.proofs.Math.ListN.{length, length-append}
use Rattle.std.proofs.lemmas.List.{length-map, length-replicate, get_or_at}
use Rattle.std.proofs.Math.Seq.{append_snoc, take_at, set-append_seam}
use Rattle.numbers.specs.UpTo.{table}
use Rattle.numbers.specs.TableLaws.{as_table, take_table, table_set}

-- size entries: the list's, as far as there is room, and `none` behind them
abbrev pub array_of : {A : Type 0} → ℕ → A → List A → List A
array_of size none l = table (λ i. get_or l i none) size

-- the whole list, also one that is longer than the array
unfoldable pub padded : {A : Type 0} → ℕ → A → List A → List A
padded size none l = l ++ replicate (size - length l) none

-- what owning a value of a struct tells of the length of an array in it, it tells through the elements' parts
pub length_of : {A B : Type 0} (f : A → B) (l : List A) {n : ℕ} → length (map f l) ≡ n → length l ≡ n
length_of f l e = sym (length-map l f) ∙ e

-- an entry behind a list stands at its end only
pub beside : {A : Type 0} (none : A) (l : List A) (x : A) (i : ℕ) → i ≢ length l → get_or l i none ≡ get_or (l ++ (x ∷ [])) i none
beside none [] x zero n = absurd (n refl)
beside none [] x (suc i) n = refl
beside none (y ∷ l) x zero n = refl
beside none (y ∷ l) x (suc i) n = beside none l x i (λ e. n (ap suc e))

module _ {A : Type 0} (size : ℕ) (none : A) (l : List A) where
  -- ---- one entry more, stored behind the list
  pub array_more : (x : A) (i : ℕ) → i ≡ length l → i < size → set (array_of size none l) i x ≡ array_of size none (l ++ (x ∷ []))
  array_more x i e h = table_set _ _ size i x h (get_or_at l x [] none i (sym e)) (λ k m n. beside none l x k (λ q. n (q ∙ sym e)))

  pub padded_more : (x : A) (i : ℕ) → i ≡ length l → i < size → set (padded size none l) i x ≡ padded size none (l ++ (x ∷ []))
  unfolding padded
  padded_more x i e h =
      let d : size - length l ≡ suc (size - (length l + 1)) = omega arith in
      rw (d, length-append, e, set-append_seam l none (replicate (size - (length l + 1)) none) x) (sym (append_snoc l x _))

  -- ---- the list read back
  pub array_front : length l ≤ size → take (length l) (array_of size none l) ≡ l
  array_front h = take_table _ size (length l) h ∙ sym (as_table _ (length l) none l refl (λ i k. refl))

  pub padded_front : take (length l) (padded size none l) ≡ l
  unfolding padded
  padded_front = take_at l _ (length l) refl

  repeated : (n i : ℕ) → get_or (replicate n none) i none ≡ none
  repeated zero i = refl
  repeated (suc n) zero = refl
  repeated (suc n) (suc i) = repeated n i

  appended : (n : ℕ) (k : List A) (i : ℕ) → get_or (k ++ replicate n none) i none ≡ get_or k i none
  appended n [] i = repeated n i
  appended n (a ∷ k) zero = refl
  appended n (a ∷ k) (suc i) = appended n k i

  pub get_or_padded : (i : ℕ) → get_or (padded size none l) i none ≡ get_or l i none
  unfolding padded
  get_or_padded i = appended (size - length l) l i

  -- ---- of a list that has room
  length_padded : length l ≤ size → length (padded size none l) ≡ size
  unfolding padded
  length_padded h = simp (length-append, length-replicate) (omega arith)

  pub array_padded : length l ≤ size → array_of size none l ≡ padded size none l
  array_padded h = sym (as_table _ size none (padded size none l) (length_padded h) (λ i k. get_or_padded i))
