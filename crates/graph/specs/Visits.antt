-- Lists of visits: what is reached in one, also with a visit behind the others, and by which branch.
use Rattle.std.specs.Prelude.{◌≡◌, ◌⊎◌, ◌↔◌, ◌≢◌, Bool, ◌||◌, ℕ, zero, suc, ◌<◌, length, get_or}
use Rattle.std.proofs.Math.Path.{refl, sym, ap}
use Rattle.std.proofs.Common.{◌∙◌, inl, inr, true≢false, arith}
use Rattle.std.proofs.Math.Bool.{true, false, cond, or_assoc, or-false, or-true}
use Rattle.std.proofs.lemmas.Bool.{false≢true}
use mathlib.Core.List.Memᴰ
use mathlib.Core.List.{List, [], ◌∷◌, ◌++◌, map, Memᴰ}
use Rattle.std.proofs.Math.Decide.{ℕ_discrete}
use Rattle.std.proofs.Math.Dec.{eqb}
use borrow.Author.Tests.{eq-eqb, ne_eqb, eqb-true}
use Rattle.numbers.specs.Tests.{either}
use Rattle.graph.specs.Walk.{Visit, start_at, reached, by_of}

abbrev pub visit : ℕ → ℕ → Visit
visit b k = record { bus = b; by = k }

-- the buses, in the order in which they were reached
abbrev pub buses_of : List Visit → List ℕ
buses_of o = map (λ v. v.bus) o

module _ (b : ℕ) where
  reached_append : (o p : List Visit) → reached b (o ++ p) ≡ (reached b o || reached b p)
  unfolding reached
  reached_append [] p = refl
  reached_append (v ∷ o) p = ap (◌||◌ (eqb b v.bus)) (reached_append o p) ∙ sym (or_assoc (eqb b v.bus) (reached b o) (reached b p))

  pub reached_still : (o p : List Visit) → reached b o ≡ true → reached b (o ++ p) ≡ true
  reached_still o p h = rw (reached_append o p, h)

  module _ (o : List Visit) (v : Visit) where
    pub reached_last : b ≡ v.bus → reached b (o ++ (v ∷ [])) ≡ true
    unfolding reached
    reached_last e = rw (reached_append o (v ∷ []), eq-eqb _ _ e) (or-true (reached b o))

    pub reached_before : b ≢ v.bus → reached b (o ++ (v ∷ [])) ≡ reached b o
    unfolding reached
    reached_before n = rw (reached_append o (v ∷ []), ne_eqb b v.bus n) (or-false (reached b o))

    pub reached_cases : reached b (o ++ (v ∷ [])) ≡ true → (reached b o ≡ true) ⊎ (b ≡ v.bus)
    reached_cases h = go (ℕ_discrete b v.bus)
      where
        go : Dec (b ≡ v.bus) → (reached b o ≡ true) ⊎ (b ≡ v.bus)
        go (yes e) = inr e
        go (no n) = inl (sym (reached_before n) ∙ h)

  pub reached_one : (a : ℕ) → reached b (start_at a ∷ []) ≡ true → b ≡ a
  unfolding reached
  reached_one a h = eqb-true b a (sym (or-false (eqb b a)) ∙ h)

  pub reached_mem : (o : List Visit) → (reached b o ≡ true) ↔ Memᴰ b (buses_of o)
  unfolding reached
  reached_mem [] = (λ h. absurd (false≢true h), λ m. absurd (Memᴰ.not-nil m))
  reached_mem (v ∷ o) = (λ h. fore (either (eqb b v.bus) (reached b o) h) (reached_mem o).0, λ m. back m (reached_mem o).1)
    where
      fore : (eqb b v.bus ≡ true) ⊎ (reached b o ≡ true) → (reached b o ≡ true → Memᴰ b (buses_of o)) → Memᴰ b (v.bus ∷ buses_of o)
      fore (inl e) ih = Memᴰ.head (eqb-true b v.bus e)
      fore (inr h) ih = Memᴰ.tail (ih h)

      back : Memᴰ b (v.bus ∷ buses_of o) → (Memᴰ b (buses_of o) → reached b o ≡ true) → (eqb b v.bus || reached b o) ≡ true
      back (Memᴰ.head e) ih = rw (eq-eqb _ _ e)
      back (Memᴰ.tail m) ih = rw (ih m) (or-true (eqb b v.bus))

  -- a note behind the others does not change those before it
  pub by_of_before : (o : List Visit) (v : Visit) → reached b o ≡ true → by_of b (o ++ (v ∷ [])) ≡ by_of b o
  unfolding reached by_of
  by_of_before [] v h = absurd (false≢true h)
  by_of_before (w ∷ o) v h = go (eqb b w.bus) refl (by_of_before o v)
    where
      go : (t : Bool) → eqb b w.bus ≡ t → (reached b o ≡ true → by_of b (o ++ (v ∷ [])) ≡ by_of b o)
          → cond (eqb b w.bus) w.by (by_of b (o ++ (v ∷ []))) ≡ cond (eqb b w.bus) w.by (by_of b o)
      go true e ih = rw e
      go false e ih = rw (e, ih (rw e at h))

  pub by_of_last : (o : List Visit) (k : ℕ) → reached b o ≡ false → by_of b (o ++ (visit b k ∷ [])) ≡ k
  unfolding reached by_of
  by_of_last [] k h = rw (eq-eqb b _ refl)
  by_of_last (w ∷ o) k h = go (eqb b w.bus) refl (by_of_last o k)
    where
      go : (t : Bool) → eqb b w.bus ≡ t → (reached b o ≡ false → by_of b (o ++ (visit b k ∷ [])) ≡ k)
          → cond (eqb b w.bus) w.by (by_of b (o ++ (visit b k ∷ []))) ≡ k
      go true e ih = absurd (true≢false (rw e at h))
      go false e ih = rw (e, ih (rw e at h))

-- reached is what stands somewhere in the list
pub reached_at : (o : List Visit) (i : ℕ) (d : Visit) → i < length o → reached (get_or o i d).bus o ≡ true
unfolding reached
reached_at [] i d l = absurd (omega arith)
reached_at (v ∷ o) zero d l = rw (eq-eqb v.bus _ refl)
reached_at (v ∷ o) (suc i) d l = rw (reached_at o i d (omega arith)) (or-true (eqb (get_or o i d).bus v.bus))

pub at_reached : (o : List Visit) (b : ℕ) (d : Visit) → reached b o ≡ true → (i : ℕ) × (i < length o) × ((get_or o i d).bus ≡ b)
unfolding reached
at_reached [] b d h = absurd (false≢true h)
at_reached (v ∷ o) b d h = go (ℕ_discrete b v.bus) (λ t. at_reached o b d t)
  where
    go : Dec (b ≡ v.bus) → (reached b o ≡ true → (i : ℕ) × (i < length o) × ((get_or o i d).bus ≡ b))
        → (i : ℕ) × (i < suc (length o)) × ((get_or (v ∷ o) i d).bus ≡ b)
    go (yes e) ih = (0, omega arith, sym e)
    go (no n) ih = let (i, l, p) = ih (rw (ne_eqb b v.bus n) at h) in (suc i, omega arith, p)
