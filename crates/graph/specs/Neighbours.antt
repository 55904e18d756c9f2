-- The neighbours that a walk scans are the far ends of the live branches at a bus, all of them and no other.
use Rattle.std.specs.Prelude.{◌≡◌, ◌⊎◌, ◌↔◌, ◌≢◌, Bool, cond, eqb}
use Rattle.std.proofs.Math.Path.{refl}
use Rattle.std.proofs.Common.{sym, ap, ◌∙◌, inl, inr}
use Rattle.std.proofs.Math.Bool.{true, false}
use mathlib.Core.List.Memᴰ
use mathlib.Core.List.{List, [], ◌∷◌, ◌++◌, Memᴰ}
use Prim.Native.Nat.{ℕ, zero, suc, ◌<◌}
use Rattle.std.proofs.Math.Decide.{ℕ_discrete}
use native.Mathlib.Omega.{arith}
use borrow.Author.Tests.{eq-eqb, ne_eqb}
use Rattle.numbers.specs.UpTo.{up_to}
use Rattle.graph.specs.Graph.{Net, Live, Ends, along, against}
use Rattle.graph.specs.Walk.{Visit, far, neighbours}
use Rattle.graph.specs.Visits.{visit}

-- the far end of branch k seen from bus u, by where the branch has an end
data Far (N : Net) (u k : ℕ) : List Visit → Type 0 where
  from_here : N.from k ≡ u → Far N u k (visit (N.to k) k ∷ [])
  to_here : N.from k ≢ u → N.to k ≡ u → Far N u k (visit (N.from k) k ∷ [])
  elsewhere : N.from k ≢ u → N.to k ≢ u → Far N u k []

module _ (N : Net) (u k : ℕ) where
  far_cases : Far N u k (far N u k)
  unfolding far
  far_cases = go (ℕ_discrete (N.from k) u) (ℕ_discrete (N.to k) u)
    where
      go : Dec (N.from k ≡ u) → Dec (N.to k ≡ u)
          → Far N u k (cond (eqb (N.from k) u) (visit (N.to k) k ∷ []) (cond (eqb (N.to k) u) (visit (N.from k) k ∷ []) []))
      go (yes e) d = rw (eq-eqb _ _ e) (from_here e)
      go (no n) (yes e) = rw (ne_eqb _ _ n, eq-eqb _ _ e) (to_here n e)
      go (no n) (no m) = rw (ne_eqb _ _ n, ne_eqb _ _ m) (elsewhere n m)

  far_ends : (v : Visit) → Memᴰ v (far N u k) → (v.by ≡ k) × Ends N k u v.bus
  far_ends v m = go far_cases m
    where
      go : {l : List Visit} → Far N u k l → Memᴰ v l → (v.by ≡ k) × Ends N k u v.bus
      go (from_here e) m = let q = Memᴰ.eq_of_singleton m in (ap (λ w. w.by) q, along e (sym (ap (λ w. w.bus) q)))
      go (to_here n e) m = let q = Memᴰ.eq_of_singleton m in (ap (λ w. w.by) q, against (sym (ap (λ w. w.bus) q)) e)
      go (elsewhere n d) m = absurd (Memᴰ.not-nil m)

  ends_far : (y : ℕ) → Ends N k u y → Memᴰ (visit y k) (far N u k)
  ends_far y h = go far_cases h
    where
      go : {l : List Visit} → Far N u k l → Ends N k u y → Memᴰ (visit y k) l
      go (from_here e) (along p q) = Memᴰ.head (ap (λ z. visit z k) (sym q))
      go (from_here e) (against p q) = Memᴰ.head (ap (λ z. visit z k) (sym p ∙ e ∙ sym q))
      go (to_here n e) (along p q) = absurd (n p)
      go (to_here n e) (against p q) = Memᴰ.head (ap (λ z. visit z k) (sym p))
      go (elsewhere n d) (along p q) = absurd (n p)
      go (elsewhere n d) (against p q) = absurd (d q)

module _ (N : Net) (E : ℕ → Bool) (u : ℕ) where
  -- the scan of the first n branches, and what it is to find
  abbrev scan : ℕ → List Visit
  scan n = up_to (λ l k. cond (E k) (l ++ far N u k) l) [] n

  abbrev Beside : ℕ → Visit → Type 0
  Beside n v = (v.by < n) × (E v.by ≡ true) × Ends N v.by u v.bus

  scan_finds : (n : ℕ) (v : Visit) → Memᴰ v (scan n) → Beside n v
  unfolding up_to
  scan_finds zero v m = absurd (Memᴰ.not-nil m)
  scan_finds (suc n) v m = go (E n) refl (scan_finds n v) m
    where
      old : Beside n v → Beside (suc n) v
      old (l, e, h) = (omega arith, e, h)

      new : E n ≡ true → (v.by ≡ n) × Ends N n u v.bus → Beside (suc n) v
      new e (p, h) = (omega arith, rw p e, rw p h)

      split : E n ≡ true → (Memᴰ v (scan n) → Beside n v) → Memᴰ v (scan n) ⊎ Memᴰ v (far N u n) → Beside (suc n) v
      split e ih (inl m) = old (ih m)
      split e ih (inr m) = new e (far_ends N u n v m)

      go : (b : Bool) → E n ≡ b → (Memᴰ v (scan n) → Beside n v) → Memᴰ v (cond (E n) (scan n ++ far N u n) (scan n)) → Beside (suc n) v
      go true e ih m = split e ih (Memᴰ.append_cases (scan n) (rw e at m))
      go false e ih m = old (ih (rw e at m))

  scan_misses_none : (n : ℕ) (v : Visit) → Beside n v → Memᴰ v (scan n)
  unfolding up_to
  scan_misses_none zero v (l, e, h) = absurd (omega arith)
  scan_misses_none (suc n) v (l, e, h) = go (ℕ_discrete v.by n) (E n) refl (λ b. scan_misses_none n v (b, e, h))
    where
      go : Dec (v.by ≡ n) → (b : Bool) → E n ≡ b → (v.by < n → Memᴰ v (scan n)) → Memᴰ v (cond (E n) (scan n ++ far N u n) (scan n))
      go (yes p) b t ih = rw (← p, e) (Memᴰ.append_right (scan v.by) (ends_far N u v.by v.bus h))
      go (no p) true t ih = rw t (Memᴰ.append_left (far N u n) (ih (omega arith)))
      go (no p) false t ih = rw t (ih (omega arith))

  pub neighbours_ends : (v : Visit) → Memᴰ v (neighbours N E u) ↔ (Live N E v.by × Ends N v.by u v.bus)
  unfolding neighbours
  neighbours_ends v = (λ m. let h = scan_finds N.branches v m in ((h.0, h.1), h.2), λ ((l, e), h). scan_misses_none N.branches v (l, e, h))
