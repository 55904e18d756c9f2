-- Laws of paths: joined buses have one; no branch stands twice on it; it goes by way of each of its branches; it can be
-- turned round.
use Rattle.std.specs.Prelude.{◌≡◌, ◌⊎◌, ℕ}
use Rattle.std.proofs.Math.Path.{refl}
use Rattle.std.proofs.Common.{sym, ◌∙◌, inl, inr}
use mathlib.Core.List.Memᴰ
use mathlib.Core.List.{List, [], ◌∷◌, reverse, reverse_aux, Memᴰ}
use Rattle.numbers.specs.Distinct.{Distinct}
use Rattle.numbers.specs.Members.{mem?}
use Rattle.graph.specs.Graph.{Net, Branches, Minus, Ends, Chain, stay, step, visited, Path, Joined}
use Rattle.graph.specs.Chains.{◌⊆◌, Via, ends_flip, ends_same, chain_without, chain_more, visited_more, joined_same, joined_trans, joined_by}

module _ {N : Net} {S : Branches} where
  pub starts : {a b : ℕ} {l : List ℕ} (c : Chain N S a b l) → Memᴰ a (visited c)
  unfolding visited
  starts (stay e) = Memᴰ.head refl
  starts (step s e c) = Memᴰ.head refl

  -- the ends of a branch on a chain are visited
  pub visits : {a b k u v : ℕ} {l : List ℕ} (c : Chain N S a b l) → Memᴰ k l → Ends N k u v → Memᴰ u (visited c)
  unfolding visited
  visits (stay e) m n = absurd (Memᴰ.not-nil m)
  visits {a} {u = u} {v = v} (step {c = c} s e r) (Memᴰ.head p) n = go (ends_same e (rw p at n))
    where
      go : ((u ≡ a) × (v ≡ c)) ⊎ ((u ≡ c) × (v ≡ a)) → Memᴰ u (a ∷ visited r)
      go (inl w) = Memᴰ.head w.0
      go (inr w) = Memᴰ.tail (Memᴰ.cast w.0 (starts r))
  visits (step s e r) (Memᴰ.tail m) n = Memᴰ.tail (visits r m n)

  -- what a chain visits is joined with its start
  pub visited_joined : {a b x : ℕ} {l : List ℕ} (c : Chain N S a b l) → Memᴰ x (visited c) → Joined N S a x
  unfolding visited
  visited_joined (stay e) m = joined_same (sym (Memᴰ.eq_of_singleton m))
  visited_joined (step s e c) (Memᴰ.head p) = joined_same (sym p)
  visited_joined (step s e c) (Memᴰ.tail m) = joined_trans (joined_by s e) (visited_joined c m)

  pub branch_joined : {a b k u v : ℕ} {l : List ℕ} → Chain N S a b l → Memᴰ k l → Ends N k u v → Joined N S a u
  branch_joined c m e = visited_joined c (visits c m e)

  -- no branch stands twice on a path
  distinct_branches : {a b : ℕ} {l : List ℕ} (c : Chain N S a b l) → Distinct (visited c) → Distinct l
  unfolding visited
  distinct_branches (stay e) d = tt
  distinct_branches (step s e c) d = (λ m. d.0 (visits c m e), distinct_branches c d.1)

  pub path_distinct : {a b : ℕ} {l : List ℕ} → Path N S a b l → Distinct l
  path_distinct p = distinct_branches p.0 p.1

  -- a chain on which f stands once goes by way of f
  goes_via : {a b f : ℕ} {l : List ℕ} → Chain N S a b l → Distinct l → Memᴰ f l → Via N (Minus S f) f a b
  goes_via (stay e) d m = absurd (Memᴰ.not-nil m)
  goes_via {a} (step {c = c} {l = l} s e r) d (Memᴰ.head p) = (a, c, rw p e, joined_same refl, (l, rw p (chain_without r d.0)))
  goes_via {a} {b} {f} (step {c = c} s e r) d (Memᴰ.tail m) = go (goes_via r d.1 m)
    where
      go : Via N (Minus S f) f c b → Via N (Minus S f) f a b
      go (u, v, n, j, k) = (u, v, n, joined_trans (joined_by (s, λ p. d.0 (Memᴰ.cast p m)) e) j, k)

  pub path_via : {a b f : ℕ} {l : List ℕ} → Path N S a b l → Memᴰ f l → Via N (Minus S f) f a b
  path_via p m = goes_via p.0 (path_distinct p) m

  pub path_stay : {a b : ℕ} → a ≡ b → Path N S a b []
  unfolding visited
  path_stay e = (stay e, (Memᴰ.not-nil, tt))

  -- the rest of a path, from a bus that it visits
  path_from : {a b x : ℕ} {l : List ℕ} (c : Chain N S a b l) → Distinct (visited c) → Memᴰ x (visited c) → (r : List ℕ) × Path N S x b r
  unfolding visited
  path_from (stay e) d m = ([], path_stay (Memᴰ.eq_of_singleton m ∙ e))
  path_from (step {k = k} {l = l} s e c) d (Memᴰ.head p) = (k ∷ l, (step s (rw (← p) at e) c, (λ m. d.0 (Memᴰ.cast (sym p) m), d.1)))
  path_from (step s e c) d (Memᴰ.tail m) = path_from c d.1 m

  chain_path : {a b : ℕ} {l : List ℕ} → Chain N S a b l → (r : List ℕ) × Path N S a b r
  unfolding visited
  chain_path (stay e) = ([], path_stay e)
  chain_path {a} {b} (step {c = c} {k = k} s e r) = go (chain_path r)
    where
      choose : {l : List ℕ} (q : Chain N S c b l) → Distinct (visited q) → Dec (Memᴰ a (visited q)) → (r : List ℕ) × Path N S a b r
      choose q d (yes m) = path_from q d m
      choose {l} q d (no n) = (k ∷ l, (step s e q, (n, d)))

      go : (r : List ℕ) × Path N S c b r → (r : List ℕ) × Path N S a b r
      go (l, (q, d)) = choose q d (mem? a (visited q))

  -- between joined buses there is a path
  pub joined_path : {a b : ℕ} → Joined N S a b → (l : List ℕ) × Path N S a b l
  joined_path j = chain_path j.1

  -- a path g from a to b, turned round and put before a path d from a, where the two meet in a only
  turned : {a b c : ℕ} {l r : List ℕ} (g : Chain N S a b l) → Distinct (visited g) → (d : Chain N S a c r) → Distinct (visited d)
      → ((x : ℕ) → Memᴰ x (visited g) → Memᴰ x (visited d) → x ≡ a) → Path N S b c (reverse_aux l r)
  unfolding visited
  turned (stay e) k d m h = rw (← e) (d, m)
  turned {a} (step {c = z} s e g) k d m h =
      turned g k.1 (step s (ends_flip e) d) (λ w. k.0 (Memᴰ.cast (sym (h z (Memᴰ.tail (starts g)) w)) (starts g)), m) meet_only
    where
      meet_only : (x : ℕ) → Memᴰ x (visited g) → Memᴰ x (z ∷ visited d) → x ≡ z
      meet_only x p (Memᴰ.head q) = q
      meet_only x p (Memᴰ.tail q) = absurd (k.0 (Memᴰ.cast (sym (h x (Memᴰ.tail p) q)) p))

  pub path_back : {a b : ℕ} {l : List ℕ} → Path N S a b l → Path N S b a (reverse l)
  unfolding visited
  path_back p = turned p.0 p.1 (stay refl) (Memᴰ.not-nil, tt) (λ x m w. Memᴰ.eq_of_singleton w)

-- with more branches a path is still a path
pub path_more : {N : Net} {S R : Branches} (h : S ⊆ R) {a b : ℕ} {l : List ℕ} → Path N S a b l → Path N R a b l
path_more h p = (chain_more h p.0, rw (visited_more h p.0) p.1)
