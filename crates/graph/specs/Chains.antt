-- Laws of chains: what is joined stays joined, can be turned round and put together; a chain in a set with branch e does
-- without e or goes by way of it.
use Rattle.std.specs.Prelude.{◌≡◌, ◌⊎◌, ◌↔◌, ℕ}
use Rattle.std.proofs.Math.Path.{refl, ap}
use Rattle.std.proofs.Common.{sym, inl, inr}
use mathlib.Core.List.Memᴰ
use mathlib.Core.List.{List, [], ◌∷◌, ◌++◌, Memᴰ}
use Rattle.std.proofs.Math.Decide.{ℕ_discrete}
use Rattle.graph.specs.Graph.{Net, Branches, Plus, Minus, Ends, along, against, Chain, stay, step, visited, Joined}

-- every branch of S is one of R
infix 20 ◌⊆◌
abbrev pub ◌⊆◌ : Branches → Branches → Type 0
S ⊆ R = (k : ℕ) → S k → R k

-- without f and with it again: nothing is lost
pub minus_plus : (S : Branches) (f : ℕ) → S ⊆ Plus (Minus S f) f
minus_plus S f k s = go (ℕ_discrete k f)
  where
    go : Dec (k ≡ f) → Plus (Minus S f) f k
    go (yes p) = inr p
    go (no n) = inl (s, n)

-- with e and without it again: nothing is new
pub plus_minus : (S : Branches) (e : ℕ) → Minus (Plus S e) e ⊆ S
plus_minus S e k (inl s, n) = s
plus_minus S e k (inr p, n) = absurd (n p)

-- first with e and then without f, or the other way round
pub plus_minus_swap : (S : Branches) (e f : ℕ) → Minus (Plus S e) f ⊆ Plus (Minus S f) e
plus_minus_swap S e f k (inl s, n) = inl (s, n)
plus_minus_swap S e f k (inr p, n) = inr p

module _ {N : Net} where
  pub ends_flip : {k a b : ℕ} → Ends N k a b → Ends N k b a
  ends_flip (along p q) = against p q
  ends_flip (against p q) = along p q

  -- a branch has two ends only
  pub ends_same : {k a b u v : ℕ} → Ends N k a b → Ends N k u v → ((u ≡ a) × (v ≡ b)) ⊎ ((u ≡ b) × (v ≡ a))
  ends_same (along p q) (along r s) = inl (cc, cc)
  ends_same (along p q) (against r s) = inr (cc, cc)
  ends_same (against p q) (along r s) = inr (cc, cc)
  ends_same (against p q) (against r s) = inl (cc, cc)

  pub ends_own : {k : ℕ} → Ends N k (N.from k) (N.to k)
  ends_own = along refl refl

  module _ {S : Branches} where
    chain_append : {a b c : ℕ} {l r : List ℕ} → Chain N S a b l → Chain N S b c r → Chain N S a c (l ++ r)
    chain_append (stay e) d = rw e d
    chain_append (step s e c) d = step s e (chain_append c d)

    pub joined_same : {a b : ℕ} → a ≡ b → Joined N S a b
    joined_same e = ([], stay e)

    pub joined_trans : {a b c : ℕ} → Joined N S a b → Joined N S b c → Joined N S a c
    joined_trans p q = (_, chain_append p.1 q.1)

    pub joined_by : {k a b : ℕ} → S k → Ends N k a b → Joined N S a b
    joined_by {k} s e = (k ∷ [], step s e (stay refl))

    chain_back : {a b : ℕ} {l : List ℕ} → Chain N S a b l → Joined N S b a
    chain_back (stay e) = joined_same (sym e)
    chain_back (step s e c) = joined_trans (chain_back c) (joined_by s (ends_flip e))

    pub joined_sym : {a b : ℕ} → Joined N S a b → Joined N S b a
    joined_sym p = chain_back p.1

    -- the ends of a branch are joined, whichever is named first
    pub joined_ends : {k u v : ℕ} → Ends N k u v → Joined N S u v ↔ Joined N S (N.from k) (N.to k)
    joined_ends (along p q) = (λ j. rw (p, q) j, λ j. rw (p, q) at j)
    joined_ends (against p q) = (λ j. rw (p, q) (joined_sym j), λ j. rw (p, q) at (joined_sym j))

    pub on_chain : {a b k : ℕ} {l : List ℕ} → Chain N S a b l → Memᴰ k l → S k
    on_chain (stay e) m = absurd (Memᴰ.not-nil m)
    on_chain (step s e c) (Memᴰ.head p) = rw p s
    on_chain (step s e c) (Memᴰ.tail m) = on_chain c m

  -- a chain whose every branch is of R
  pub chain_within : {S R : Branches} {a b : ℕ} {l : List ℕ} → Chain N S a b l → ((x : ℕ) → Memᴰ x l → S x → R x) → Chain N R a b l
  chain_within (stay e) h = stay e
  chain_within (step {k = k} s e c) h = step (h k (Memᴰ.head refl) s) e (chain_within c (λ x m. h x (Memᴰ.tail m)))

  -- a chain on which f does not stand does without f
  pub chain_without : {S : Branches} {a b f : ℕ} {l : List ℕ} → Chain N S a b l → ¬ Memᴰ f l → Chain N (Minus S f) a b l
  chain_without c n = chain_within c (λ x m s. (s, λ p. n (Memᴰ.cast (sym p) m)))

  pub chain_more : {S R : Branches} → S ⊆ R → {a b : ℕ} {l : List ℕ} → Chain N S a b l → Chain N R a b l
  chain_more h c = chain_within c (λ x m s. h x s)

  pub visited_more : {S R : Branches} (h : S ⊆ R) {a b : ℕ} {l : List ℕ} (c : Chain N S a b l) → visited (chain_more h c) ≡ visited c
  unfolding visited chain_more chain_within
  visited_more h (stay e) = refl
  visited_more h (step {a = a} s e c) = ap (◌∷◌ a) (visited_more h c)

  pub joined_more : {S R : Branches} → S ⊆ R → {a b : ℕ} → Joined N S a b → Joined N R a b
  joined_more h p = (p.0, chain_more h p.1)

-- joined in S by way of e, which S need not have
abbrev pub Via : (N : Net) (S : Branches) → ℕ → ℕ → ℕ → Type 0
Via N S e x y = (u : ℕ) × (v : ℕ) × Ends N e u v × Joined N S x u × Joined N S v y

module _ {N : Net} {S : Branches} where
  pub chain_splits : (e : ℕ) {x y : ℕ} {l : List ℕ} → Chain N (Plus S e) x y l → Joined N S x y ⊎ Via N S e x y
  chain_splits e (stay p) = inl (joined_same p)
  chain_splits e (step {a = x} {b = y} {c = c} (inl s) n p) = go (chain_splits e p)
    where
      go : Joined N S c y ⊎ Via N S e c y → Joined N S x y ⊎ Via N S e x y
      go (inl j) = inl (joined_trans (joined_by s n) j)
      go (inr (u, v, m, j, k)) = inr (u, v, m, joined_trans (joined_by s n) j, k)
  chain_splits e (step {a = x} {b = y} {c = c} (inr q) n p) = go (chain_splits e p)
    where
      m : Ends N e x c
      m = rw q at n

      back : {u v : ℕ} → Joined N S v y → ((u ≡ x) × (v ≡ c)) ⊎ ((u ≡ c) × (v ≡ x)) → Joined N S x y ⊎ Via N S e x y
      back k (inl w) = inr (x, c, m, joined_same refl, rw w.1 at k)
      back k (inr w) = inl (rw w.1 at k)

      go : Joined N S c y ⊎ Via N S e c y → Joined N S x y ⊎ Via N S e x y
      go (inl j) = inr (x, c, m, joined_same refl, j)
      go (inr (u, v, m', j, k)) = back k (ends_same m m')

  -- where the buses x and y are joined by way of e, they are joined exactly if the ends of e are
  pub via_joined : {e x y : ℕ} → Via N S e x y → Joined N S (N.from e) (N.to e) ↔ Joined N S x y
  via_joined (u, v, m, j, k) = (
    λ g. joined_trans j (joined_trans ((joined_ends m).1 g) k),
    λ g. (joined_ends m).0 (joined_trans (joined_sym j) (joined_trans g (joined_sym k))),
  )

  pub via_more : {R : Branches} → S ⊆ R → {e x y : ℕ} → Via N S e x y → Via N R e x y
  via_more h (u, v, m, j, k) = (u, v, m, joined_more h j, joined_more h k)
