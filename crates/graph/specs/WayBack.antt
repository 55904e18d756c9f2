-- In a list of visits to which buses were put as a walk does, the branches noted lead from each bus back to the start by a
-- path: every bus was entered from one reached before it.
use Rattle.std.specs.Prelude.{◌≡◌, ◌⊎◌, ◌≢◌, false, cond, eqb, length}
use Rattle.std.proofs.Math.Path.{refl}
use Rattle.std.proofs.Common.{sym, ap, ◌∙◌, inl, inr, arith, eq-eqb, ne_eqb}
use Rattle.std.proofs.Math.Bool.{true}
use mathlib.Core.List.Memᴰ
use mathlib.Core.List.{List, [], ◌∷◌, ◌++◌, Memᴰ}
use Prim.Native.Nat.{ℕ, zero, suc, ◌≤◌, ◌<◌}
use Rattle.std.proofs.Math.Decide.{ℕ_discrete}
use Rattle.std.proofs.Math.ListN.{length-append}
use Rattle.numbers.specs.Tests.{clash}
use Rattle.numbers.specs.Distinct.{Distinct}
use Rattle.graph.specs.Graph.{Net, Branches, Ends, along, against, Chain, stay, step, visited, Path}
use Rattle.graph.specs.Walk.{Visit, reached, by_of, across, back}
use Rattle.graph.specs.Chains.{ends_flip}
use Rattle.graph.specs.Visits.{visit, reached_still, reached_last, reached_cases, reached_one, by_of_before, by_of_last}
use Rattle.graph.specs.Walked.{Walked, begun, entered, walked_start}

-- every branch of the chain is the one noted at the bus where it starts
Follows : {N : Net} {S : Branches} (o : List Visit) (start : ℕ) {a b : ℕ} {l : List ℕ} → Chain N S a b l → Type 0
Follows o start (stay e) = Unit {0}
Follows o start (step {a = a} {k = k} s e c) = (by_of a o ≡ k) × (a ≢ start) × Follows o start c

across_ends : {N : Net} {k a b : ℕ} → Ends N k a b → across N k a ≡ b
unfolding across
across_ends (along p q) = rw (eq-eqb _ _ p) q
across_ends {N} {k} {a} {b} (against p q) = go (ℕ_discrete (N.from k) a)
  where
    go : Dec (N.from k ≡ a) → cond (eqb (N.from k) a) (N.to k) (N.from k) ≡ b
    go (yes r) = rw (eq-eqb _ _ r) (q ∙ sym r ∙ p)
    go (no n) = rw (ne_eqb _ _ n) p

-- a path from bus z back to the start along the branches noted
record Way (N : Net) (S : Branches) (start : ℕ) (o : List Visit) (z : ℕ) : Type 0 where
  way : List ℕ
  chain : Chain N S z start way
  distinct : Distinct (visited chain)
  seen : (x : ℕ) → Memᴰ x (visited chain) → reached x o ≡ true
  noted : Follows o start chain
  short : length way < length o

module _ {N : Net} {S : Branches} (start : ℕ) where
  follows_back : (o : List Visit) (n : ℕ) {z y : ℕ} {l : List ℕ} → y ≡ start → (c : Chain N S z y l) → Follows o start c → length l ≤ n
      → back N o start n z ≡ l
  unfolding back Follows
  follows_back o zero y (stay e) w b = refl
  follows_back o (suc n) y (stay e) w b = rw (eq-eqb _ _ (e ∙ y))
  follows_back o zero y (step s e c) w b = absurd (omega arith)
  follows_back o (suc n) y (step {a = z} s e c) (p, d, w) b = rw (ne_eqb z start d, p, across_ends e, follows_back o n y c w (omega arith))

  -- in any net in which the branches of S have the same ends
  follows_same : (M : Net) → ((k : ℕ) → S k → (N.from k ≡ M.from k) × (N.to k ≡ M.to k)) → (o : List Visit) (n : ℕ) {z y : ℕ} {l : List ℕ}
      → y ≡ start → (c : Chain N S z y l) → Follows o start c → back N o start n z ≡ back M o start n z
  unfolding back Follows across
  follows_same M same o zero y c w = refl
  follows_same M same o (suc n) y (stay e) w = rw (eq-eqb _ _ (e ∙ y))
  follows_same M same o (suc n) y (step {a = z} {k = k} s e c) (p, d, w) =
      rw (ne_eqb z start d, p, ← (same k s).0, ← (same k s).1, across_ends e) (ap (◌∷◌ k) (follows_same M same o n y c w))

  follows_still : (o : List Visit) (v : Visit) {z y : ℕ} {l : List ℕ} (c : Chain N S z y l) → ((x : ℕ) → Memᴰ x (visited c) → reached x o ≡ true)
      → Follows o start c → Follows (o ++ (v ∷ [])) start c
  unfolding visited Follows
  follows_still o v (stay e) h w = tt
  follows_still o v (step {a = z} s e c) h (p, n, w) =
      (by_of_before z o v (h z (Memᴰ.head refl)) ∙ p, n, follows_still o v c (λ x m. h x (Memᴰ.tail m)) w)

module _ {N : Net} {S : Branches} {start : ℕ} where
  way_still : (o : List Visit) (v : Visit) {z : ℕ} → Way N S start o z → Way N S start (o ++ (v ∷ [])) z
  way_still o v g = record {
    way = g.way;
    chain = g.chain;
    distinct = g.distinct;
    seen = λ x m. reached_still x o (v ∷ []) (g.seen x m);
    noted = follows_still start o v g.chain g.seen g.noted;
    short = omega (arith, g.short, length-append o (v ∷ []));
  }

  way_last : (o : List Visit) (u y k : ℕ) → reached start o ≡ true → S k → Ends N k u y → reached y o ≡ false → Way N S start o u
      → Way N S start (o ++ (visit y k ∷ [])) y
  unfolding visited Follows
  way_last o u y k r s e f g = record {
    way = k ∷ g.way;
    chain = step s (ends_flip e) g.chain;
    distinct = (λ m. clash (g.seen y m) f, g.distinct);
    seen = seen;
    noted = (by_of_last y o k f, λ p. clash r (sym (ap (λ z. reached z o) p) ∙ f), follows_still start o v g.chain g.seen g.noted);
    short = omega (arith, g.short, length-append o (v ∷ []));
  }
    where
      v : Visit
      v = visit y k

      seen : (x : ℕ) → Memᴰ x (y ∷ visited g.chain) → reached x (o ++ (visit y k ∷ [])) ≡ true
      seen x (Memᴰ.head p) = reached_last x o v p
      seen x (Memᴰ.tail m) = reached_still x o (v ∷ []) (g.seen x m)

  way_of : {o : List Visit} → Walked N S start o → (z : ℕ) → reached z o ≡ true → Way N S start o z
  unfolding visited Follows
  way_of begun z h = record {
    way = [];
    chain = stay (reached_one z start h);
    distinct = (Memᴰ.not-nil, tt);
    seen = λ x m. rw (Memᴰ.eq_of_singleton m) h;
    noted = tt;
    short = omega arith;
  }
  way_of (entered {o = o} u {y = y} {k = k} w s e r f) z h = go (reached_cases z o _ h) (λ t. way_of w z t) (way_of w u r) (walked_start w)
    where
      go : (reached z o ≡ true) ⊎ (z ≡ y) → (reached z o ≡ true → Way N S start o z) → Way N S start o u → reached start o ≡ true
          → Way N S start (o ++ (visit y k ∷ [])) z
      go (inl t) ih g a = way_still o _ (ih t)
      go (inr p) ih g a = rw p (way_last o u y k a s e f g)

  -- the branches noted lead from a reached bus back to the start by a path
  pub back_path : {o : List Visit} → Walked N S start o → (n : ℕ) → length o ≤ n → (z : ℕ) → reached z o ≡ true
      → Path N S z start (back N o start n z)
  back_path {o} w n l z h = go (way_of w z h)
    where
      go : Way N S start o z → Path N S z start (back N o start n z)
      go g = rw (follows_back start o n refl g.chain g.noted (omega (arith, g.short))) (g.chain, g.distinct)

  -- they lead there too in any net in which the branches of S have the same ends
  pub back_same : (M : Net) → ((k : ℕ) → S k → (N.from k ≡ M.from k) × (N.to k ≡ M.to k)) → {o : List Visit} → Walked N S start o
      → (n z : ℕ) → reached z o ≡ true → back N o start n z ≡ back M o start n z
  back_same M same {o} w n z h = let g = way_of w z h in follows_same start M same o n refl g.chain g.noted
