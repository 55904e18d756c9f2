-- The pieces into which live branches join the buses, and the branches that close a loop when live branches are added by
-- rising position: live branches and pieces are as many as buses and closing branches. Buses get labels, and a live branch
-- gives its two ends one label.
use Rattle.std.specs.Prelude.{◌≡◌, ◌⊎◌, ◌↔◌, ◌≢◌, Bool, true, false, List}
use Rattle.std.proofs.Math.Path.{refl, ap}
use Rattle.std.proofs.Common.{sym, ◌∙◌, inl, inr, true≢false}
use Rattle.std.proofs.Math.Bool.{and-false}
use Prim.Native.Nat.{ℕ, zero, suc, ◌+◌, ◌-◌, ◌≤◌, ◌<◌}
use Rattle.std.proofs.Math.Decide.{ℕ_discrete}
use native.Mathlib.Omega.{arith}
use Rattle.std.proofs.Math.Dec.{eqb}
use borrow.Author.Tests.{eq-eqb, ne_eqb}
use Rattle.numbers.specs.Counts.{count, count_yes, count_no, count_cong, count_all, count_none, count_drop, count_zero, some_below}
use Rattle.graph.specs.Graph.{Net, Sound, Live, First, Plus, Minus, along, against, Chain, stay, step, Joined, Connected, Loop, Tree}
use Rattle.graph.specs.Chains.{◌⊆◌, ends_own, joined_same, joined_trans, joined_by, joined_sym, joined_more}
use Rattle.graph.specs.Paths.{joined_path, path_more}
use Rattle.graph.specs.Forests.{Forest, forest_no_loop, forest_less, forest_plus}
use Rattle.graph.specs.Form.{relabel, label, closes, links}

-- how many pieces the first k branches leave: one for each bus that is its own label
unfoldable pub pieces : Net → (ℕ → Bool) → ℕ → ℕ
pieces N E k = count (λ x. eqb (label N E k x) x) N.buses

relabel_hit : (p q z : ℕ) → z ≡ q → relabel p q z ≡ p
unfolding relabel
relabel_hit p q z e = rw (eq-eqb _ _ e)

relabel_miss : (p q z : ℕ) → z ≢ q → relabel p q z ≡ z
unfolding relabel
relabel_miss p q z n = rw (ne_eqb z q n)

-- p and q both become p
relabel_meet : (p q : ℕ) → relabel p q p ≡ relabel p q q
relabel_meet p q = go (ℕ_discrete p q) ∙ sym (relabel_hit p q q refl)
  where
    go : Dec (p ≡ q) → relabel p q p ≡ p
    go (yes e) = relabel_hit p q p e
    go (no n) = relabel_miss p q p n

pub relabel_same : (p q z : ℕ) → p ≡ q → relabel p q z ≡ z
relabel_same p q z e = go (ℕ_discrete z q)
  where
    go : Dec (z ≡ q) → relabel p q z ≡ z
    go (yes f) = relabel_hit p q z f ∙ e ∙ sym f
    go (no n) = relabel_miss p q z n

-- what branch k is when it is added
data Kind (N : Net) (E : ℕ → Bool) (k : ℕ) : Type 0 where
  dead : E k ≡ false → Kind N E k
  closing : E k ≡ true → label N E k (N.from k) ≡ label N E k (N.to k) → Kind N E k
  linking : E k ≡ true → label N E k (N.from k) ≢ label N E k (N.to k) → Kind N E k

kind : (N : Net) (E : ℕ → Bool) (k : ℕ) → Kind N E k
kind N E k = go (E k) refl (ℕ_discrete (label N E k (N.from k)) (label N E k (N.to k)))
  where
    go : (b : Bool) → E k ≡ b → Dec (label N E k (N.from k) ≡ label N E k (N.to k)) → Kind N E k
    go false e d = dead e
    go true e (yes p) = closing e p
    go true e (no n) = linking e n

module _ (N : Net) (E : ℕ → Bool) where
  pub label_dead : (k x : ℕ) → E k ≡ false → label N E (suc k) x ≡ label N E k x
  unfolding label
  label_dead k x e = rw e

  pub label_live : (k x : ℕ) → E k ≡ true → label N E (suc k) x ≡ relabel (label N E k (N.from k)) (label N E k (N.to k)) (label N E k x)
  unfolding label
  label_live k x e = rw e

  pub label_joined : (k x : ℕ) → Joined N (First E k) x (label N E k x)
  unfolding label
  label_joined zero x = joined_same refl
  label_joined (suc k) x = go (E k) refl (label_joined k)
    where
      L : ℕ → ℕ
      L = label N E k

      more : {u v : ℕ} → Joined N (First E k) u v → Joined N (First E (suc k)) u v
      more = joined_more (λ i t. (omega arith, t.1))

      hit : E k ≡ true → ((z : ℕ) → Joined N (First E k) z (L z)) → Dec (L x ≡ L (N.to k)) → Joined N (First E (suc k)) x (label N E (suc k) x)
      hit e ih (yes p) =
          let to : Joined N (First E (suc k)) x (N.to k) = joined_trans (rw p at (more (ih x))) (joined_sym (more (ih (N.to k)))) in
          let from : Joined N (First E (suc k)) (N.to k) (N.from k) = joined_sym (joined_by (omega arith, e) ends_own) in
          rw (label_live k x e, relabel_hit (L (N.from k)) (L (N.to k)) (L x) p) (joined_trans to (joined_trans from (more (ih (N.from k)))))
      hit e ih (no n) = rw (label_live k x e, relabel_miss (L (N.from k)) (L (N.to k)) (L x) n) (more (ih x))

      go : (b : Bool) → E k ≡ b → ((z : ℕ) → Joined N (First E k) z (L z)) → Joined N (First E (suc k)) x (label N E (suc k) x)
      go true e ih = hit e ih (ℕ_discrete (L x) (L (N.to k)))
      go false e ih = rw (label_dead k x e) (more (ih x))

  -- the ends of a live branch have one label
  ends_alike : (k i : ℕ) → i < k → E i ≡ true → label N E k (N.from i) ≡ label N E k (N.to i)
  ends_alike zero i l e = absurd (omega arith)
  ends_alike (suc k) i l e = go (ℕ_discrete i k) (E k) refl (λ l'. ends_alike k i l' e)
    where
      L : ℕ → ℕ
      L = label N E k

      go : Dec (i ≡ k) → (b : Bool) → E k ≡ b → (i < k → L (N.from i) ≡ L (N.to i)) → label N E (suc k) (N.from i) ≡ label N E (suc k) (N.to i)
      go (yes p) true t ih = rw (p, label_live k (N.from k) t, label_live k (N.to k) t) (relabel_meet (L (N.from k)) (L (N.to k)))
      go (yes p) false t ih = absurd (true≢false (cc))
      go (no n) true t ih = rw (label_live k (N.from i) t, label_live k (N.to i) t, ih (omega arith))
      go (no n) false t ih = rw (label_dead k (N.from i) t, label_dead k (N.to i) t) (ih (omega arith))

  -- two buses have one label exactly where the first k branches join them
  pub same_label : (k x y : ℕ) → (label N E k x ≡ label N E k y) ↔ Joined N (First E k) x y
  same_label k x y = (fore, λ j. back j.1)
    where
      fore : label N E k x ≡ label N E k y → Joined N (First E k) x y
      fore e = joined_trans (rw e at (label_joined k x)) (joined_sym (label_joined k y))

      back : {x y : ℕ} {l : List ℕ} → Chain N (First E k) x y l → label N E k x ≡ label N E k y
      back (stay e) = ap (label N E k) e
      back (step (l, e) (along p q) c) = rw (← p) (ends_alike k _ l e ∙ rw q (back c))
      back (step (l, e) (against p q) c) = rw (← q) (sym (ends_alike k _ l e) ∙ rw p (back c))

  pub closes_dead : (k : ℕ) → E k ≡ false → closes N E k ≡ false
  unfolding closes
  closes_dead k e = rw e

  pub closes_closing : (k : ℕ) → E k ≡ true → label N E k (N.from k) ≡ label N E k (N.to k) → closes N E k ≡ true
  unfolding closes
  closes_closing k e p = rw (e, eq-eqb _ _ p)

  pub closes_linking : (k : ℕ) → label N E k (N.from k) ≢ label N E k (N.to k) → closes N E k ≡ false
  unfolding closes
  closes_linking k n = rw (ne_eqb _ _ n) (and-false (E k))

  pub links_dead : (k : ℕ) → E k ≡ false → links N E k ≡ false
  unfolding links
  links_dead k e = rw e

  pub links_closing : (k : ℕ) → label N E k (N.from k) ≡ label N E k (N.to k) → links N E k ≡ false
  unfolding links
  links_closing k p = rw (eq-eqb _ _ p) (and-false (E k))

  pub links_linking : (k : ℕ) → E k ≡ true → label N E k (N.from k) ≢ label N E k (N.to k) → links N E k ≡ true
  unfolding links
  links_linking k e n = rw (e, ne_eqb _ _ n)

  -- a live branch closes exactly where the branches before it join its ends
  pub closes_joined : (k : ℕ) → (closes N E k ≡ true) ↔ ((E k ≡ true) × Joined N (First E k) (N.from k) (N.to k))
  closes_joined k = (λ e. go (kind N E k) e, λ h. closes_closing k h.0 ((same_label k _ _).1 h.1))
    where
      go : Kind N E k → closes N E k ≡ true → (E k ≡ true) × Joined N (First E k) (N.from k) (N.to k)
      go (dead e) h = absurd (true≢false (sym h ∙ closes_dead k e))
      go (closing e p) h = (e, (same_label k _ _).0 p)
      go (linking e n) h = absurd (true≢false (sym h ∙ closes_linking k n))

  -- where none of the first k branches closes, they are without a loop
  pub none_closes : (k : ℕ) → ((i : ℕ) → i < k → closes N E i ≡ false) → Forest N (First E k)
  none_closes zero h = λ i s. absurd (omega arith)
  none_closes (suc k) h = go (kind N E k) (none_closes k (λ i l. h i (omega arith)))
    where
      go : Kind N E k → Forest N (First E k) → Forest N (First E (suc k))
      go (dead e) ih = forest_less keep ih
        where
          keep : First E (suc k) ⊆ First E k
          keep i t = here (ℕ_discrete i k)
            where
              here : Dec (i ≡ k) → First E k i
              here (yes p) = absurd (true≢false (sym t.1 ∙ ap E p ∙ e))
              here (no n) = (omega arith, t.1)
      go (closing e p) ih = absurd (true≢false (sym (closes_closing k e p) ∙ h k (omega arith)))
      go (linking e n) ih = forest_less shift (forest_plus k ih (λ j. n ((same_label k _ _).1 j)))
        where
          shift : First E (suc k) ⊆ Plus (First E k) k
          shift i t = here (ℕ_discrete i k)
            where
              here : Dec (i ≡ k) → Plus (First E k) k i
              here (yes p) = inr p
              here (no n) = inl (omega arith, t.1)

  -- among the first k branches one closes exactly where they have a loop
  pub closing_loop : (k : ℕ) → ((i : ℕ) × (i < k) × (closes N E i ≡ true)) ↔ Loop N (First E k)
  closing_loop k = (λ (i, l, e). fore i l ((closes_joined i).0 e), λ o. back (some_below (closes N E) k) o)
    where
      fore : (i : ℕ) → i < k → (E i ≡ true) × Joined N (First E i) (N.from i) (N.to i) → Loop N (First E k)
      fore i l (e, j) = let p = joined_path j in record { branch = i; rest = p.0; own = (l, e); around = path_more before p.1 }
        where
          before : First E i ⊆ Minus (First E k) i
          before x (b, t) = ((omega arith, t), omega arith)

      back : ((i : ℕ) × (i < k) × (closes N E i ≡ true)) ⊎ ((i : ℕ) → i < k → closes N E i ≡ false)
          → Loop N (First E k) → (i : ℕ) × (i < k) × (closes N E i ≡ true)
      back (inl h) o = h
      back (inr h) o = absurd (forest_no_loop.0 (none_closes k h) o)

  pub label_idem : (k x : ℕ) → label N E k (label N E k x) ≡ label N E k x
  label_idem k x = sym ((same_label k x (label N E k x)).1 (label_joined k x))

  pieces_keep : (k : ℕ) → ((x : ℕ) → label N E (suc k) x ≡ label N E k x) → pieces N E (suc k) ≡ pieces N E k
  unfolding pieces
  pieces_keep k h = count_cong (λ x. eqb (label N E (suc k) x) x) (λ x. eqb (label N E k x) x) N.buses (λ x l. ap (λ z. eqb z x) (h x))

  links_closes : (k : ℕ) → count (links N E) k + count (closes N E) k ≡ count E k
  unfolding count
  links_closes zero = refl
  links_closes (suc k) = go (kind N E k) (links_closes k)
    where
      go : Kind N E k → count (links N E) k + count (closes N E) k ≡ count E k
          → count (links N E) (suc k) + count (closes N E) (suc k) ≡ count E (suc k)
      go (dead e) ih = omega (arith, count_no (links N E) k (links_dead k e), count_no (closes N E) k (closes_dead k e), count_no E k e)
      go (closing e p) ih =
          omega (arith, count_no (links N E) k (links_closing k p), count_yes (closes N E) k (closes_closing k e p), count_yes E k e)
      go (linking e n) ih =
          omega (arith, count_yes (links N E) k (links_linking k e n), count_no (closes N E) k (closes_linking k n), count_yes E k e)

  module _ (sound : Sound N) where
    pub label_bus : (k x : ℕ) → k ≤ N.branches → x < N.buses → label N E k x < N.buses
    unfolding label
    label_bus zero x m l = l
    label_bus (suc k) x m l = go (E k) refl (label_bus k x (omega arith) l) (label_bus k (N.from k) (omega arith) (sound k m).0)
      where
        L : ℕ → ℕ
        L = label N E k

        hit : E k ≡ true → L x < N.buses → L (N.from k) < N.buses → Dec (L x ≡ L (N.to k)) → label N E (suc k) x < N.buses
        hit e h g (yes p) = rw (label_live k x e, relabel_hit (L (N.from k)) (L (N.to k)) (L x) p) g
        hit e h g (no n) = rw (label_live k x e, relabel_miss (L (N.from k)) (L (N.to k)) (L x) n) h

        go : (b : Bool) → E k ≡ b → L x < N.buses → L (N.from k) < N.buses → label N E (suc k) x < N.buses
        go true e h g = hit e h g (ℕ_discrete (L x) (L (N.to k)))
        go false e h g = rw (label_dead k x e) h

    -- a branch that links makes one piece of two
    pieces_drop : (k : ℕ) → k < N.branches → E k ≡ true → label N E k (N.from k) ≢ label N E k (N.to k) → pieces N E k ≡ suc (pieces N E (suc k))
    unfolding pieces
    pieces_drop k m e d = count_drop (λ x. eqb (L x) x) (λ x. eqb (label N E (suc k) x) x) N.buses q
        (label_bus k (N.to k) (omega arith) (sound k m).1) (eq-eqb _ _ (label_idem k (N.to k))) (ne_eqb _ _ gone) stays
      where
        L : ℕ → ℕ
        L = label N E k

        p : ℕ
        p = L (N.from k)

        q : ℕ
        q = L (N.to k)

        gone : label N E (suc k) q ≢ q
        gone f = d (sym (label_live k q e ∙ relabel_hit p q (L q) (label_idem k (N.to k))) ∙ f)

        stays : (x : ℕ) → x < N.buses → x ≢ q → eqb (L x) x ≡ eqb (label N E (suc k) x) x
        stays x l n = go (ℕ_discrete (L x) q)
          where
            go : Dec (L x ≡ q) → eqb (L x) x ≡ eqb (label N E (suc k) x) x
            go (yes f) = ne_eqb _ _ (λ g. n (sym g ∙ f)) ∙ sym (ne_eqb _ _ (λ g. other (sym (label_live k x e ∙ relabel_hit p q (L x) f) ∙ g)))
              where
                other : p ≡ x → ⊥
                other g = d (sym (label_idem k (N.from k)) ∙ ap L g ∙ f)
            go (no f) = ap (λ z. eqb z x) (sym (label_live k x e ∙ relabel_miss p q (L x) f))

    pub pieces_links : (k : ℕ) → k ≤ N.branches → pieces N E k + count (links N E) k ≡ N.buses
    unfolding label pieces count
    pieces_links zero m = rw (count_all (λ x. eqb x x) N.buses (λ x l. eq-eqb x _ refl)) (omega arith)
    pieces_links (suc k) m = go (kind N E k) (pieces_links k (omega arith))
      where
        go : Kind N E k → pieces N E k + count (links N E) k ≡ N.buses → pieces N E (suc k) + count (links N E) (suc k) ≡ N.buses
        go (dead e) ih = rw (pieces_keep k (λ x. label_dead k x e), count_no (links N E) k (links_dead k e)) ih
        go (closing e p) ih = rw (pieces_keep k (λ x. label_live k x e ∙ relabel_same _ _ _ p), count_no (links N E) k (links_closing k p)) ih
        go (linking e n) ih = omega (arith, pieces_drop k m e n, count_yes (links N E) k (links_linking k e n))

    -- live branches and pieces are as many as buses and closing branches
    balance : (k : ℕ) → k ≤ N.branches → count E k + pieces N E k ≡ N.buses + count (closes N E) k
    balance k l = omega (arith, pieces_links k l, links_closes k)

    pub one_piece : 0 < N.buses → Connected N (Live N E) → pieces N E N.branches ≡ 1
    unfolding pieces Connected
    one_piece some h =
        count_cong (λ x. eqb (L x) x) (λ x. eqb (L 0) x) N.buses (λ x l. ap (λ z. eqb z x) ((same_label _ x 0).1 (h x 0 l some)))
        ∙ count_drop (λ x. eqb (L 0) x) (λ x. false) N.buses (L 0) (label_bus _ 0 (omega arith) some)
        (eq-eqb (L 0) _ refl) refl (λ x l n. ne_eqb (L 0) x (λ e. n (sym e)))
        ∙ ap suc (count_none (λ x. false) N.buses (λ x l. refl))
      where
        L : ℕ → ℕ
        L = label N E N.branches

    -- a tree has one branch fewer than buses, and so many branches that connect all buses are a tree
    pub tree_count : 0 < N.buses → Connected N (Live N E) → (suc (count E N.branches) ≡ N.buses) ↔ (¬ Loop N (Live N E))
    tree_count some h = (fore, back)
      where
        m : ℕ
        m = N.branches

        fore : suc (count E m) ≡ N.buses → ¬ Loop N (Live N E)
        fore e = forest_no_loop.0 (none_closes m (count_zero (closes N E) m (omega (arith, balance m (omega arith), one_piece some h))))

        back : ¬ Loop N (Live N E) → suc (count E m) ≡ N.buses
        back n = omega (arith, balance m (omega arith), one_piece some h, count_none (closes N E) m (λ k l. off k l (some_below (closes N E) m)))
          where
            off : (k : ℕ) → k < m → ((i : ℕ) × (i < m) × (closes N E i ≡ true)) ⊎ ((i : ℕ) → i < m → closes N E i ≡ false) → closes N E k ≡ false
            off k l (inl c) = absurd (n ((closing_loop m).0 c))
            off k l (inr f) = f k l

    pub tree_branches : 0 < N.buses → Tree N (Live N E) → suc (count E N.branches) ≡ N.buses
    tree_branches some t = (tree_count some t.connected).1 t.no_loop

    -- also without buses, for then there are no branches
    pub tree_few : Tree N (Live N E) → count E N.branches ≤ N.buses - 1
    tree_few t = go (ℕ_discrete N.buses 0)
      where
        none : (n : ℕ) → n ≡ N.branches → N.buses ≡ 0 → count E n ≤ 0
        none zero e z = unfold count in omega arith
        none (suc n) e z = let s = (sound 0 (omega arith)).0 in absurd (omega arith)

        go : Dec (N.buses ≡ 0) → count E N.branches ≤ N.buses - 1
        go (yes z) = omega (arith, none N.branches refl z)
        go (no n) = omega (arith, tree_branches (omega arith) t)
