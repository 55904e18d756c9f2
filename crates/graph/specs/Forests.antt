-- Branches without a loop, said by bridges: the ends of no branch are joined without it. From this follow: no loop comes
-- by leaving branches out, nor by a branch between buses that are not joined; there is at most one path between two buses;
-- a branch of a path gives its place to a branch between the path's ends and no loop comes.
use Rattle.std.specs.Prelude.{◌≡◌, refl, ◌⊎◌, ◌↔◌, ℕ}
use Rattle.std.proofs.Common.{sym, ap₂, ◌∙◌, inl, inr}
use mathlib.Core.List.{List, ◌∷◌, Memᴰ}
use Rattle.std.proofs.Math.Decide.{ℕ_discrete}
use Rattle.numbers.specs.Distinct.{Distinct}
use Rattle.numbers.specs.Members.{mem?}
use Rattle.graph.specs.Graph.{Net, Branches, Plus, Minus, Ends, Chain, stay, step, Path, Joined, Loop}
use Rattle.graph.specs.Chains.{◌⊆◌, Via, minus_plus, plus_minus_swap, ends_flip, ends_same, ends_own, chain_without, joined_trans, joined_by, joined_sym, joined_ends, joined_more, chain_splits, via_joined, via_more}
use Rattle.graph.specs.Paths.{branch_joined, path_distinct, joined_path}

abbrev pub Forest : (N : Net) (S : Branches) → Type 0
Forest N S = (k : ℕ) → S k → ¬ Joined N (Minus S k) (N.from k) (N.to k)

module _ {N : Net} {S : Branches} where
  pub forest_no_loop : Forest N S ↔ (¬ Loop N S)
  forest_no_loop = (
    λ h o. h o.branch o.own (o.rest, o.around.0),
    λ n k s j. let p = joined_path j in n (record { branch = k; rest = p.0; own = s; around = p.1 }),
  )

  bridge : Forest N S → {k a b : ℕ} → S k → Ends N k a b → ¬ Joined N (Minus S k) a b
  bridge h s e j = h _ s ((joined_ends e).0 j)

  pub forest_less : {R : Branches} → R ⊆ S → Forest N S → Forest N R
  forest_less w h k r j = h k (w k r) (joined_more (λ i t. (w i t.0, t.1)) j)

  pub forest_plus : (e : ℕ) → Forest N S → ¬ Joined N S (N.from e) (N.to e) → Forest N (Plus S e)
  forest_plus e h n k s j = go (ℕ_discrete k e) s
    where
      less : Minus S k ⊆ S
      less i t = t.0

      -- the ends of branch k, not e itself, joined without it
      other : S k → Joined N (Minus S k) (N.from k) (N.to k) ⊎ Via N (Minus S k) e (N.from k) (N.to k) → ⊥
      other t (inl g) = h k t g
      other t (inr v) = n ((via_joined (via_more less v)).1 (joined_by t ends_own))

      go : Dec (k ≡ e) → Plus S e k → ⊥
      go (yes p) t = n (rw p at (joined_more old j))
        where
          old : Minus (Plus S e) k ⊆ S
          old i (inl t, q) = t
          old i (inr r, q) = absurd (q (r ∙ sym p))
      go (no q) (inl t) = other t (chain_splits e (joined_more (plus_minus_swap S e k) j).1)
      go (no q) (inr p) = q p

  -- two chains between the same buses, on each of which no branch stands twice
  one_trail : Forest N S → {a b : ℕ} {l r : List ℕ} → Chain N S a b l → Chain N S a b r → Distinct l → Distinct r → l ≡ r
  one_trail h (stay p) (stay q) d k = refl
  one_trail h (stay p) (step {l = l} s e c) d k = absurd (bridge h s (ends_flip e) (l, rw p (chain_without c k.0)))
  one_trail h (step {l = l} s e c) (stay p) d k = absurd (bridge h s (ends_flip e) (l, rw p (chain_without c d.0)))
  one_trail h {a} {b} (step {c = x} {k = i} {l = l} s e c) (step {c = y} {k = j} {l = r} t f g) d k =
      go (ℕ_discrete i j) (mem? j l) (λ g'. one_trail h c g' d.1 k.1)
    where
      meet : i ≡ j → y ≡ x
      meet p = pick (ends_same e (rw (← p) at f))
        where
          pick : ((a ≡ a) × (y ≡ x)) ⊎ ((a ≡ x) × (y ≡ a)) → y ≡ x
          pick (inl w) = w.1
          pick (inr w) = w.1 ∙ w.0

      go : Dec (i ≡ j) → Dec (Memᴰ j l) → (Chain N S x b r → l ≡ r) → i ∷ l ≡ j ∷ r
      go (yes p) q ih = ap₂ ◌∷◌ p (ih (rw (meet p) at g))
      go (no p) (yes m) ih = absurd (bridge h s (ends_flip e) (branch_joined (chain_without c d.0) m f))
      go (no p) (no q) ih = absurd (bridge h t f (joined_trans (i ∷ l, chain_without (step s e c) off) (joined_sym (r, chain_without g k.0))))
        where
          off : ¬ Memᴰ j (i ∷ l)
          off (Memᴰ.head z) = p (sym z)
          off (Memᴰ.tail m) = q m

  pub path_unique : Forest N S → {a b : ℕ} {l r : List ℕ} → Path N S a b l → Path N S a b r → l ≡ r
  path_unique h p q = one_trail h p.0 q.0 (path_distinct p) (path_distinct q)

-- f, by way of which the ends of e are joined, gives its place to e
module _ {N : Net} {S : Branches} (e f : ℕ) (v : Via N (Minus S f) f (N.from e) (N.to e)) where
  pub exchange_forest : Forest N S → S f → Forest N (Plus (Minus S f) e)
  exchange_forest h s = forest_plus e (forest_less less h) (λ g. h f s ((via_joined v).1 g))
    where
      less : Minus S f ⊆ S
      less k t = t.0

  pub exchange_joined : {x y : ℕ} → Joined N S x y → Joined N (Plus (Minus S f) e) x y
  exchange_joined {x} {y} w = go (chain_splits f (joined_more (minus_plus S f) w).1)
    where
      more : Minus S f ⊆ Plus (Minus S f) e
      more k t = inl t

      go : Joined N (Minus S f) x y ⊎ Via N (Minus S f) f x y → Joined N (Plus (Minus S f) e) x y
      go (inl g) = joined_more more g
      go (inr u) = (via_joined (via_more more u)).0 ((via_joined (via_more more v)).1 (joined_by (inr refl) ends_own))
