-- The two sides of a live branch of a tree. Drawn away from a bus, the branch leads from the side that holds the bus to the side that does not, and how branches are drawn changes no walk.
use Rattle.std.specs.Prelude.{◌≡◌, ◌⊎◌, ◌↔◌, ◌≢◌, Bool, ◌&&◌, eqb}
use Rattle.std.proofs.Math.Path.{refl, ap, fun_ext}
use Rattle.std.proofs.Common.{sym}
use Rattle.std.proofs.Math.Logic.{inl, inr}
use Rattle.std.proofs.Math.Bool.{true, false, cond}
use mathlib.Core.List.{List, [], ◌∷◌, ◌++◌, Memᴰ}
use Prim.Native.Nat.{ℕ, ◌≤◌, ◌<◌}
use Rattle.std.proofs.Math.Decide.{ℕ_discrete}
use borrow.Author.Tests.{eq-eqb, ne_eqb}
use Rattle.numbers.specs.Distinct.{Distinct}
use Rattle.numbers.specs.Tests.{clash, not_so, which}
use Rattle.numbers.specs.UpTo.{up_to_cong}
use Rattle.graph.specs.Graph.{Net, Sound, Branches, Live, Minus, Ends, along, against, Chain, visited, Joined, Connected, Tree}
use Rattle.graph.specs.Walk.{far, neighbours, reached, walk_by, walk}
use Rattle.graph.specs.Sides.{towards, away}
use Rattle.graph.specs.Chains.{◌⊆◌, minus_plus, ends_flip, ends_same, ends_own, chain_without, chain_more, visited_more, joined_same, joined_trans, joined_sym, joined_ends, joined_more, chain_splits, Via}
use Rattle.graph.specs.Paths.{visits, visited_joined}
use Rattle.graph.specs.Trees.{tree_forest}
use Rattle.graph.specs.Visits.{visit, buses_of}
use Rattle.graph.specs.WalkLaws.{walk_reaches, walk_distinct}

-- ---- the drawn net: its ends are buses, and it has the same walks
module _ (N : Net) (E : ℕ → Bool) (z : ℕ) where
  pub away_sound : Sound N → Sound (away N E z)
  unfolding away
  away_sound sound k l = go (towards N E z k) (sound k l)
    where
      go : (b : Bool) → (N.from k < N.buses) × (N.to k < N.buses) → (cond b (N.to k) (N.from k) < N.buses) × (cond b (N.from k) (N.to k) < N.buses)
      go true h = (h.1, h.0)
      go false h = h

  far_away : (u k : ℕ) → far (away N E z) u k ≡ far N u k
  unfolding away far
  far_away u k = go (towards N E z k) (ℕ_discrete (N.from k) u) (ℕ_discrete (N.to k) u)
    where
      go : (b : Bool) → Dec (N.from k ≡ u) → Dec (N.to k ≡ u)
          → cond (eqb (cond b (N.to k) (N.from k)) u) (visit (cond b (N.from k) (N.to k)) k ∷ []) (cond (eqb (cond b (N.from k) (N.to k)) u) (visit (cond b (N.to k) (N.from k)) k ∷ []) [])
          ≡ cond (eqb (N.from k) u) (visit (N.to k) k ∷ []) (cond (eqb (N.to k) u) (visit (N.from k) k ∷ []) [])
      go false p q = refl
      go true (yes p) (yes q) = rw (p, q, eq-eqb u u refl)
      go true (yes p) (no q) = rw (eq-eqb _ _ p, ne_eqb _ _ q)
      go true (no p) (yes q) = rw (ne_eqb _ _ p, eq-eqb _ _ q)
      go true (no p) (no q) = rw (ne_eqb _ _ p, ne_eqb _ _ q)

  neighbours_away : (u : ℕ) → neighbours (away N E z) E u ≡ neighbours N E u
  unfolding neighbours away
  neighbours_away u = up_to_cong _ _ [] N.branches (λ l k _. ap (λ v. cond (E k) (l ++ v) l) (far_away u k))

  -- the order is by rising branch position, however a branch is drawn
  pub away_walk : (a b : ℕ) → walk (away N E z) E a b ≡ walk N E a b
  unfolding walk
  away_walk a b = ap (λ next. walk_by next a b) (fun_ext neighbours_away)

-- ---- document 02: "the side of a live branch that does not hold the supply bus". Branch k leads from y to x in the net drawn away from z
pub record Drawn (N : Net) (E : ℕ → Bool) (z k y x : ℕ) : Type 0 where
  pub ends : Ends N k y x
  -- without the branch y is joined with z, and x is not: exactly one end lies away from z, and it is the to bus
  pub near : Joined N (Minus (Live N E) k) y z
  pub far : ¬ Joined N (Minus (Live N E) k) x z
  -- "its loads added breadth-first from the branch's end there": of exactly the buses joined with x without the branch, each once, and z is not among them
  pub lists : (b : ℕ) → (reached b (walk (away N E z) E x y) ≡ true) ↔ Joined N (Minus (Live N E) k) x b
  pub once : Distinct (buses_of (walk (away N E z) E x y))
  pub without : reached z (walk (away N E z) E x y) ≡ false

abbrev pub DrawnAway : (N : Net) → (ℕ → Bool) → ℕ → ℕ → Type 0
DrawnAway N E z k = Drawn N E z k ((away N E z).from k) ((away N E z).to k)

module _ (N : Net) (E : ℕ → Bool) (sound : Sound N) (m : N.buses ≤ 256) (t : Tree N (Live N E)) (k : ℕ) (s : Live N E k) where
  abbrev Without : Branches
  Without = Minus (Live N E) k

  -- ---- the sides of the branch, seen from either end
  module _ (x y : ℕ) (e : Ends N k x y) where
    parted : ¬ Joined N Without x y
    parted j = tree_forest t k s ((joined_ends e).0 j)

    pub ends_differ : y ≢ x
    ends_differ p = parted (joined_same (sym p))

    end_below : x < N.buses
    end_below = go e
      where
        go : Ends N k x y → x < N.buses
        go (along p q) = rw p at (sound k s.0).0
        go (against p q) = rw q at (sound k s.0).1

    -- the walk from one end that never enters the other lists the buses that are joined with that end without the branch
    pub side_joined : (b : ℕ) → (reached b (walk N E x y) ≡ true) ↔ Joined N Without x b
    side_joined b = (λ h. fore ((walk_reaches N E x y sound end_below m b).0 h), λ j. (walk_reaches N E x y sound end_below m b).1 (back j))
      where
        fore : (r : List ℕ) × (c : Chain N (Live N E) x b r) × (y ≢ x → ¬ Memᴰ y (visited c)) → Joined N Without x b
        fore (r, c, h) = (r, chain_without c (λ i. h ends_differ (visits c i (ends_flip e))))

        less : Without ⊆ Live N E
        less i w = w.0

        back : Joined N Without x b → (r : List ℕ) × (c : Chain N (Live N E) x b r) × (y ≢ x → ¬ Memᴰ y (visited c))
        back (r, c) = (r, chain_more less c, λ n i. parted (visited_joined c (rw (visited_more less c) at i)))

    -- every bus is on one side or the other, and on one alone
    pub one_side : (b : ℕ) → b < N.buses → Joined N Without x b ⊎ Joined N Without y b
    unfolding Connected
    one_side b l = go (chain_splits k (joined_more (minus_plus (Live N E) k) (t.connected x b end_below l)).1)
      where
        other : {u v : ℕ} → Joined N Without v b → ((u ≡ x) × (v ≡ y)) ⊎ ((u ≡ y) × (v ≡ x)) → Joined N Without x b ⊎ Joined N Without y b
        other j (inl p) = inr (rw p.1 at j)
        other j (inr p) = inl (rw p.1 at j)

        go : Joined N Without x b ⊎ Via N Without k x b → Joined N Without x b ⊎ Joined N Without y b
        go (inl j) = inl j
        go (inr (u, v, f, i, j)) = other j (ends_same e f)

    pub not_both : (b : ℕ) → Joined N Without x b → ¬ Joined N Without y b
    not_both b i j = parted (joined_trans i (joined_sym j))

  module _ (z : ℕ) (l : z < N.buses) where
    drawn : (y x : ℕ) → (e : Ends N k y x) → ¬ Joined N Without x z → Drawn N E z k y x
    drawn y x e n =
        record {
          ends = e;
          near = near (one_side x y (ends_flip e) z l);
          far = n;
          lists = λ b. rw (away_walk N E z x y) (side_joined x y (ends_flip e) b);
          once = rw (away_walk N E z x y) (walk_distinct N E x y);
          without = rw (away_walk N E z x y) (not_so _ (λ h. n ((side_joined x y (ends_flip e) z).0 h)));
        }
      where
        near : Joined N Without x z ⊎ Joined N Without y z → Joined N Without y z
        near (inl j) = absurd (n j)
        near (inr j) = j

    pub drawn_away : DrawnAway N E z k
    unfolding away towards
    drawn_away = go (which (reached z (walk N E v f)))
      where
        f : ℕ
        f = N.from k

        v : ℕ
        v = N.to k

        go : (reached z (walk N E v f) ≡ true) ⊎ (reached z (walk N E v f) ≡ false)
            → Drawn N E z k (cond (E k && reached z (walk N E v f)) v f) (cond (E k && reached z (walk N E v f)) f v)
        go (inl h) = rw (s.1, h) (drawn v f (ends_flip ends_own) (not_both v f (ends_flip ends_own) z ((side_joined v f (ends_flip ends_own) z).0 h)))
        go (inr h) = rw (s.1, h) (drawn f v ends_own (λ j. clash ((side_joined v f (ends_flip ends_own) z).1 j) h))
