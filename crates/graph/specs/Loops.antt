-- Laws of loops: a branch with equal ends and two branches between the same buses are loops; where there is none, a branch
-- closed between joined buses makes exactly one, of that branch and the path that joined its ends before.
use Rattle.std.specs.Prelude.{◌≡◌, refl, ◌⊎◌, ◌↔◌, ◌≢◌, ℕ}
use Rattle.std.proofs.Common.{sym, inl, inr}
use mathlib.Core.List.Memᴰ
use mathlib.Core.List.{List, [], ◌∷◌, Memᴰ}
use Rattle.std.proofs.Math.Decide.{ℕ_discrete}
use Rattle.numbers.specs.Members.{mem?}
use Rattle.graph.specs.Graph.{Net, Branches, Plus, Minus, Ends, along, against, stay, step, visited, Path, Joined, Loop}
use Rattle.graph.specs.Chains.{◌⊆◌, Via, plus_minus, plus_minus_swap, ends_flip, ends_own, on_chain, chain_without, chain_more, joined_by, joined_more, chain_splits, via_joined, via_more}
use Rattle.graph.specs.Paths.{path_stay, path_via, path_more}
use Rattle.graph.specs.Forests.{Forest, forest_no_loop, forest_less, exchange_forest}

module _ {N : Net} {S : Branches} where
  pub equal_ends_loop : (k : ℕ) → S k → N.from k ≡ N.to k → Loop N S
  equal_ends_loop k s e = record { branch = k; rest = []; own = s; around = path_stay e }

  pub parallel_loop : {i j a b : ℕ} → S i → S j → j ≢ i → Ends N i a b → Ends N j a b → Loop N S
  unfolding visited
  parallel_loop {i} {j} s t n e f = go (ℕ_discrete (N.from i) (N.to i))
    where
      between : {a b : ℕ} → Ends N i a b → Ends N j a b → Ends N j (N.from i) (N.to i)
      between (along p q) f = rw (p, q) f
      between (against p q) f = rw (p, q) (ends_flip f)

      go : Dec (N.from i ≡ N.to i) → Loop N S
      go (yes p) = equal_ends_loop i s p
      go (no d) = record {
        branch = i;
        rest = j ∷ [];
        own = s;
        around = (step (t, n) (between e f) (stay refl), (λ m. d (Memᴰ.eq_of_singleton m), (Memᴰ.not-nil, tt)));
      }

-- with more branches a loop is still a loop
unfoldable pub loop_more : {N : Net} {S R : Branches} → S ⊆ R → Loop N S → Loop N R
loop_more h l = record { branch = l.branch; rest = l.rest; own = h _ l.own; around = path_more (λ k t. (h k t.0, t.1)) l.around }

module _ {N : Net} {S : Branches} (o : Loop N S) {x : ℕ} where
  pub on_loop : Memᴰ x (o.branch ∷ o.rest) → S x
  on_loop (Memᴰ.head p) = rw p o.own
  on_loop (Memᴰ.tail m) = (on_chain o.around.0 m).0

  -- round a loop, the ends of each of its branches are joined without it
  loop_joined : Memᴰ x (o.branch ∷ o.rest) → Joined N (Minus S x) (N.from x) (N.to x)
  loop_joined (Memᴰ.head p) = rw p (o.rest, o.around.0)
  loop_joined (Memᴰ.tail m) =
      (via_joined (via_more less (path_via o.around m))).1 (joined_by (o.own, λ p. (on_chain o.around.0 m).1 (sym p)) ends_own)
    where
      less : Minus (Minus S o.branch) x ⊆ Minus S x
      less k ((t, n), q) = (t, q)

  -- a branch without which there is no loop is on the loop
  loop_needs : Forest N (Minus S x) → Memᴰ x (o.branch ∷ o.rest)
  loop_needs h = go (mem? x (o.branch ∷ o.rest))
    where
      swap : Minus (Minus S o.branch) x ⊆ Minus (Minus S x) o.branch
      swap k ((t, n), q) = ((t, q), n)

      go : Dec (Memᴰ x (o.branch ∷ o.rest)) → Memᴰ x (o.branch ∷ o.rest)
      go (yes m) = m
      go (no n) =
          let c = chain_more swap (chain_without o.around.0 (λ m. n (Memᴰ.tail m))) in
          absurd (h o.branch (o.own, λ p. n (Memᴰ.head (sym p))) (o.rest, c))

module _ {N : Net} {S : Branches} {e : ℕ} {l : List ℕ} (p : Path N S (N.from e) (N.to e) l) where
  pub closing_makes_loop : ¬ S e → (o : Loop N (Plus S e)) × (o.branch ≡ e) × (o.rest ≡ l)
  closing_makes_loop new = (record { branch = e; rest = l; own = inr refl; around = path_more old p }, refl, refl)
    where
      old : S ⊆ Minus (Plus S e) e
      old k s = (inl s, λ q. new (rw q at s))

  pub one_loop : ¬ Loop N S → (o : Loop N (Plus S e)) (x : ℕ) → Memᴰ x (o.branch ∷ o.rest) ↔ Memᴰ x (e ∷ l)
  one_loop n o x = (λ m. fore (ℕ_discrete x e) (mem? x l) m, λ m. loop_needs o (back m))
    where
      h : Forest N S
      h = forest_no_loop.1 n

      fore : Dec (x ≡ e) → Dec (Memᴰ x l) → Memᴰ x (o.branch ∷ o.rest) → Memᴰ x (e ∷ l)
      fore (yes q) b m = Memᴰ.head q
      fore (no q) (yes b) m = Memᴰ.tail b
      fore (no q) (no b) m = absurd (both (old (on_loop o m)) (chain_splits e (joined_more (plus_minus_swap S e x) (loop_joined o m)).1))
        where
          old : Plus S e x → S x
          old (inl t) = t
          old (inr z) = absurd (q z)

          both : S x → Joined N (Minus S x) (N.from x) (N.to x) ⊎ Via N (Minus S x) e (N.from x) (N.to x) → ⊥
          both s (inl j) = h x s j
          both s (inr v) = h x s ((via_joined v).0 (l, chain_without p.0 b))

      back : Memᴰ x (e ∷ l) → Forest N (Minus (Plus S e) x)
      back (Memᴰ.head q) = rw q (forest_less (plus_minus S e) h)
      back (Memᴰ.tail m) = forest_less (plus_minus_swap S e x) (exchange_forest e x (path_via p m) h (on_chain p.0 m))
