-- A loop along a row: what is left of the row, taken in after what is done, gives the whole. What the code does with a half-branch is a step of a
-- state, and what its arrays hold is a property of that state.
use mathlib.Core.Path.{◌≡◌, refl}
use mathlib.Core.List.{List, [], ◌∷◌}
use Prim.Native.Nat.{ℕ, suc, ◌+◌, ◌-◌, ◌<◌, ◌≤◌}
use native.Mathlib.Omega.{arith}
use lib.ListN.{get_or}
use Rattle.graph.specs.Rows.{row_from}
use Rattle.graph.specs.RowsHold.{row_more, row_end}

module _ {S : Type 0} (step : S → ℕ → S) where
  unfoldable pub along : S → List ℕ → S
  along s [] = s
  along s (h ∷ l) = along (step s h) l

module _ {S : Type 0} (step : S → ℕ → S) (next : List ℕ) where
  -- the state so far, and the row from h on that is left after i half-branches
  pub record Left (whole : S) (P : S → Type 0) (h i : ℕ) : Type 0 where
    pub so_far : S
    pub holds : P so_far
    pub rest : along step so_far (row_from next (1024 - i) h) ≡ whole

  module _ (first : ℕ) (P₀ : S → Type 0) where
    pub record Along (P : S → Type 0) (h i : ℕ) : Type 0 where
      pub within : i ≤ 1024
      pub left : (s : S) → P₀ s → Left (along step s (row_from next 1024 first)) P h i

    pub none_along : Along P₀ first 0
    none_along = record { within = omega arith; left = λ s p. record { so_far = s; holds = p; rest = refl } }

    module _ {P : S → Type 0} {h i : ℕ} (a : Along P h i) where
      pub one_along : (P' : S → Type 0) → i < 1024 → h < 1024 → ((s : S) → P s → P' (step s h)) → Along P' (get_or next h 0) (i + 1)
      unfolding along
      one_along P' li lh turn =
          record {
            within = omega arith;
            left = λ s p.
                let b = a.left s p in
                let d : 1024 - i ≡ suc (1024 - (i + 1)) = omega arith in
                record { so_far = step b.so_far h; holds = turn b.so_far b.holds; rest = rw (d, row_more next (1024 - (i + 1)) h lh) at b.rest };
          }

      all_along : row_from next (1024 - i) h ≡ [] → (s : S) → P₀ s → P (along step s (row_from next 1024 first))
      unfolding along
      all_along z s p =
          let b = a.left s p in
          let r = rw z at b.rest in
          rw (← r) b.holds

      pub row_ended : 1024 ≤ h → (s : S) → P₀ s → P (along step s (row_from next 1024 first))
      row_ended l = all_along (row_end next (1024 - i) h l)

      pub row_cut : 1024 ≤ i → (s : S) → P₀ s → P (along step s (row_from next 1024 first))
      unfolding row_from
      row_cut l = let d : 1024 - i ≡ 0 = omega arith in all_along (rw d refl)
