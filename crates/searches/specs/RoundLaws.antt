-- The rounds of a search that may end before the last: what they keep, and where those that are left lead.
use Rattle.std.specs.Prelude.{◌≡◌, Bool}
use Rattle.std.proofs.Math.Path.{refl}
use Rattle.std.proofs.Common.{sym, ap, ◌∙◌}
use Rattle.std.proofs.Math.Bool.{true, false}
use Prim.Native.Nat.{ℕ, zero, suc, ◌-◌, ◌≤◌, ◌<◌}
use native.Mathlib.Omega.{arith}
use Rattle.numbers.specs.Tests.{clash}
use Rattle.searches.specs.Rounds.{until_ended}

module _ {A : Type 0} (ended : A → Bool) (next : A → A) where
  -- what holds of the start and is kept by each round holds at the end
  pub until_keeps : (Q : A → Type 0) → ((x : A) → ended x ≡ false → Q x → Q (next x)) → (n : ℕ) (x : A) → Q x → Q (until_ended ended next n x)
  unfolding until_ended
  until_keeps Q step zero x h = h
  until_keeps Q step (suc n) x h = go (ended x) refl (until_keeps Q step n (next x))
    where
      go : (b : Bool) → ended x ≡ b → (Q (next x) → Q (until_ended ended next n (next x))) → Q (elim b [ true ↦ x | false ↦ until_ended ended next n (next x) ])
      go true e ih = h
      go false e ih = ih (step x e h)

  until_more : (n : ℕ) (x : A) → ended x ≡ false → until_ended ended next (suc n) x ≡ until_ended ended next n (next x)
  unfolding until_ended
  until_more n x e = go (ended x) e
    where
      go : (b : Bool) → b ≡ false → elim b [ true ↦ x | false ↦ until_ended ended next n (next x) ] ≡ until_ended ended next n (next x)
      go true e = clash {b = true} refl e
      go false e = refl

  until_ended_lem : (n : ℕ) (x : A) → ended x ≡ true → until_ended ended next n x ≡ x
  unfolding until_ended
  until_ended_lem zero x e = refl
  until_ended_lem (suc n) x e = go (ended x) e
    where
      go : (b : Bool) → b ≡ true → elim b [ true ↦ x | false ↦ until_ended ended next n (next x) ] ≡ x
      go true e = refl
      go false e = clash {b = false} e refl

  module _ (n : ℕ) (end : A) where
    -- after k of n rounds those that are left lead to this end
    pub record Left (k : ℕ) (at : A) : Type 0 where
      pub within : k ≤ n
      pub rest : until_ended ended next (n - k) at ≡ end

    pub left_all : (start : A) → until_ended ended next n start ≡ end → Left 0 start
    left_all start e = let z : n - 0 ≡ n = omega arith in record { within = omega arith; rest = ap (λ m. until_ended ended next m start) z ∙ e }

    module _ (k : ℕ) (at : A) (w : Left k at) where
      left_ended : ended at ≡ true → at ≡ end
      left_ended e = sym (until_ended_lem (n - k) at e) ∙ w.rest

      left_none : n ≤ k → at ≡ end
      unfolding until_ended
      left_none h = let z : n - k ≡ 0 = omega arith in rw z at w.rest

      left_less : k < n → ended at ≡ false → Left (suc k) (next at)
      left_less h e =
          let z : n - k ≡ suc (n - suc k) = omega arith in
          record { within = omega arith; rest = sym (until_more (n - suc k) at e) ∙ ap (λ m. until_ended ended next m at) (sym z) ∙ w.rest }

      -- the code's y holds where the search stands, and says itself whether that is the end
      module _ {B : Type 0} (hold : A → B) (over : B → Bool) (same : (x : A) → over (hold x) ≡ ended x) (y : B) (h : y ≡ hold at) where
        same_end : ended at ≡ over y
        same_end = sym (ap over h ∙ same at)

        pub held_ended : over y ≡ true → y ≡ hold end
        held_ended e = h ∙ ap hold (left_ended (same_end ∙ e))

        pub held_none : n ≤ k → y ≡ hold end
        held_none l = h ∙ ap hold (left_none l)

        pub held_less : k < n → over y ≡ false → Left (suc k) (next at)
        held_less l e = left_less l (same_end ∙ e)
