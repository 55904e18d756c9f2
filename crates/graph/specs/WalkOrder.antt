-- In a tree the order of ONE walk from a bus decides on which side of each live branch that bus is: it reaches the end on its side first.
use Rattle.std.specs.Prelude.{◌≡◌, Bool, true, eqb, ltb, get_or}
use Rattle.std.proofs.Common.{sym, ap, ◌∙◌, arith}
use Rattle.std.proofs.Math.Bool.{cond}
use mathlib.Core.List.Memᴰ
use mathlib.Core.List.{List, [], ◌∷◌, ◌++◌, Memᴰ}
use Prim.Native.Nat.{ℕ, zero, ◌≤◌, ◌<◌}
use Rattle.std.proofs.Math.Decide.{ℕ_discrete, dec_lt}
use borrow.Author.Tests.{eq-eqb, ne_eqb, lt-ltb, ltb-true}
use Rattle.numbers.specs.Choose.{index_of}
use Rattle.numbers.specs.ChooseLaws.{index_found, index_none, index_still, index_past, index_holds}
use Rattle.numbers.specs.Members.{mem?}
use Rattle.numbers.specs.Tests.{same_test}
use Rattle.graph.specs.Graph.{Net, Sound, Branches, Live, Ends, Chain, stay, step, visited, Connected, Tree}
use Rattle.graph.specs.Walk.{Visit, reached, walk}
use Rattle.graph.specs.Chains.{◌⊆◌, ends_flip, ends_own, chain_more, visited_more}
use Rattle.graph.specs.Barred.{Unbarred, unbarred_live}
use Rattle.graph.specs.SideLaws.{ends_differ, side_joined, not_both}
use Rattle.graph.specs.Visits.{visit, buses_of, reached_mem}
use Rattle.graph.specs.Walked.{Walked, begun, entered, buses_last}
use Rattle.graph.specs.WalkLaws.{walk_walked, walk_reaches, walk_joined}

-- ---- the way back from a bus to the start visits none that was reached later
abbrev Past : (N : Net) (S : Branches) → ℕ → ℕ → ℕ → Type 0
Past N S start b f = (r : List ℕ) × (c : Chain N S b start r) × (¬ Memᴰ f (visited c))

module _ (N : Net) (S : Branches) (start : ℕ) where
  avoids : {o : List Visit} → Walked N S start o → (b f : ℕ) → index_of b (buses_of o) < index_of f (buses_of o) → Past N S start b f
  unfolding visited index_of
  avoids begun b f l = go (ℕ_discrete b start) (ℕ_discrete f start) l
    where
      go : Dec (b ≡ start) → Dec (f ≡ start) → cond (eqb b start) zero 1 < cond (eqb f start) zero 1 → Past N S start b f
      go (yes p) (yes q) h = absurd (omega (arith, rw (eq-eqb _ _ p, eq-eqb _ _ q) at h))
      go (yes p) (no q) h = ([], stay p, λ i. q (Memᴰ.eq_of_singleton i ∙ p))
      go (no p) (yes q) h = absurd (omega (arith, rw (ne_eqb _ _ p, eq-eqb _ _ q) at h))
      go (no p) (no q) h = absurd (omega (arith, rw (ne_eqb _ _ p, ne_eqb _ _ q) at h))
  avoids (entered {o = o} u {y = y} {k = k} w s e r n) b f l = go (mem? b (buses_of o)) (mem? f (buses_of o)) (λ i. avoids w b f i) (λ i. avoids w u f i)
    where
      all : List ℕ
      all = buses_of o ++ (y ∷ [])

      h : index_of b all < index_of f all
      h = rw (buses_last o (visit y k)) at l

      go : Dec (Memᴰ b (buses_of o)) → Dec (Memᴰ f (buses_of o))
          → (index_of b (buses_of o) < index_of f (buses_of o) → Past N S start b f) → (index_of u (buses_of o) < index_of f (buses_of o) → Past N S start u f) → Past N S start b f
      go (yes p) (yes q) ih more = ih (omega (arith, h, index_still b (buses_of o) (y ∷ []) p, index_still f (buses_of o) (y ∷ []) q))
      go (yes p) (no q) ih more = ih (omega (arith, index_found b (buses_of o) p, index_none f (buses_of o) q))
      go (no p) (yes q) ih more = absurd (omega (arith, h, index_past b (buses_of o) (y ∷ []) p, index_still f (buses_of o) (y ∷ []) q, index_found f (buses_of o) q))
      go (no p) (no q) ih more = last (ℕ_discrete b y) (ℕ_discrete f y) (more (omega (arith, index_found u (buses_of o) ((reached_mem u o).0 r), index_none f (buses_of o) q)))
        where
          last : Dec (b ≡ y) → Dec (f ≡ y) → Past N S start u f → Past N S start b f
          last (yes i) (yes j) past = absurd (omega (arith, rw (i, j) at h))
          last (yes i) (no j) (t, c, z) = (k ∷ t, step {a = b} {c = u} s (rw i (ends_flip e)) c, unvisited)
            where
              unvisited : ¬ Memᴰ f (b ∷ visited c)
              unvisited (Memᴰ.head a) = j (a ∙ i)
              unvisited (Memᴰ.tail a) = z a
          last (no i) (yes j) past = absurd (omega (arith, rw (index_past b (buses_of o) (y ∷ []) p, index_past f (buses_of o) (y ∷ []) q, ne_eqb b y i, eq-eqb f y j) at h))
          last (no i) (no j) past = absurd (omega (arith, rw (index_past b (buses_of o) (y ∷ []) p, index_past f (buses_of o) (y ∷ []) q, ne_eqb b y i, ne_eqb f y j) at h))

-- ---- so in a tree
module _ (N : Net) (E : ℕ → Bool) (sound : Sound N) (m : N.buses ≤ 256) (t : Tree N (Live N E)) (z : ℕ) (l : z < N.buses) where
  -- the buses in the order in which the walk from z reaches them
  abbrev pub order : List ℕ
  order = buses_of (walk N E z z)

  listed : (b : ℕ) → b < N.buses → Memᴰ b order
  unfolding Connected
  listed b h = (reached_mem b (walk N E z z)).0 ((walk_joined N E sound m z l b).1 (t.connected z b l h))

  module _ (k : ℕ) (s : Live N E k) where
    reaches : (x y : ℕ) → Ends N k x y → x < N.buses → index_of x order < index_of y order → reached z (walk N E x y) ≡ true
    reaches x y e b h = go (avoids N (Unbarred N E z z) z (walk_walked N E z z) x y h)
      where
        live : Unbarred N E z z ⊆ Live N E
        live = unbarred_live N E z z

        go : Past N (Unbarred N E z z) z x y → reached z (walk N E x y) ≡ true
        go (r, c, n) = (walk_reaches N E x y sound b m z).1 (r, chain_more live c, λ d. rw (visited_more live c) n)

    -- the to bus is reached before the from bus exactly where the to side holds z
    pub ordered : ltb (index_of (N.to k) order) (index_of (N.from k) order) ≡ reached z (walk N E (N.to k) (N.from k))
    ordered = same_test _ _ (λ h. reaches v f (ends_flip ends_own) (sound k s.0).1 (ltb-true _ _ h)) back
      where
        f : ℕ
        f = N.from k

        v : ℕ
        v = N.to k

        back : reached z (walk N E v f) ≡ true → ltb (index_of v order) (index_of f order) ≡ true
        back h = go (dec_lt (index_of v order) (index_of f order)) (dec_lt (index_of f order) (index_of v order))
          where
            go : Dec (index_of v order < index_of f order) → Dec (index_of f order < index_of v order) → ltb (index_of v order) (index_of f order) ≡ true
            go (yes i) j = lt-ltb _ _ i
            go (no i) (yes j) = absurd (not_both N E sound m t k s v f (ends_flip ends_own) z ((side_joined N E sound m t k s v f (ends_flip ends_own) z).0 h)
                ((side_joined N E sound m t k s f v ends_own z).0 (reaches f v ends_own (sound k s.0).0 j)))
            go (no i) (no j) =
                let q : index_of f order ≡ index_of v order = omega arith in
                absurd (ends_differ N E sound m t k s v f (ends_flip ends_own)
                (sym (index_holds f order 0 (listed f (sound k s.0).0)) ∙ ap (λ i. get_or order i 0) q ∙ index_holds v order 0 (listed v (sound k s.0).1)))
