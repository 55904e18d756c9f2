-- The planner's pairs lead from the branches live in the present state to those live in the wanted one: on the path between the
-- ends of each closing stands a branch that is not wanted, for the wanted state has no loop.
use Rattle.std.specs.Prelude.{◌≡◌, ◌⊎◌, Bool, ◌&&◌, ℕ, ◌<◌, eqb}
use Rattle.std.proofs.Math.Path.{refl, sym, ap}
use Rattle.std.proofs.Common.{◌∙◌, inl, inr, arith}
use Rattle.std.proofs.Math.Bool.{true, false, not}
use mathlib.Core.List.{List, [], ◌∷◌, map, Memᴰ}
use Rattle.std.proofs.Math.Decide.{ℕ_discrete}
use Rattle.std.proofs.lemmas.List.{length-map}
use Rattle.std.proofs.Math.ListN.{get_or-map}
use borrow.Author.Tests.{not-true, not-false, eqb-true, eq-eqb}
use Rattle.numbers.specs.Choose.{those, index_of}
use Rattle.numbers.specs.ChooseLaws.{in_those, of_those, first_cases, index_found, index_holds}
use Rattle.numbers.specs.Tests.{both, which, clash}
use Rattle.numbers.specs.Distinct.{Distinct, stands_at, distinct_those, distinct_map}
use Rattle.network.specs.Records.{Network, no_switch}
use Rattle.states.specs.Live.{live}
use Rattle.states.specs.Switches.{State, branch_of, size}
use Rattle.network.specs.Limits.{on}
use Rattle.graph.specs.Graph.{Net, Live, Path, Connected, Tree}
use Rattle.feeders.specs.Feeder.{feeder, ends_path}
use Rattle.graph.specs.Chains.{chain_within}
use Rattle.graph.specs.Trees.{tree_forest, live_part_is_whole}
use Rattle.graph.specs.WalkLaws.{bfs_path_lem}
use Rattle.changes.specs.Change.{only_in}
use Rattle.plan.specs.Plan.{Pair, ranks, closings, opening, exchanged, pairs_from, pairs}
use Rattle.states.specs.LiveBytes.{On, live_one}
use Rattle.plan.specs.Plannable.{Regular, Joined}
use Rattle.plan.specs.Exchanges.{Fits, opened_live, closing_closed, opening_opened, exchanged_other, exchanged_tree}
use Rattle.plan.specs.Missing.{only_so}
use Rattle.plan.specs.Stages.{Ready, Leads, there, next}

module _ (N : Network) (present wanted : State) (given : Joined N present wanted) where
  abbrev G : Net
  G = feeder N

  abbrev W : ℕ → Bool
  W = live N wanted

  regular : Regular N
  regular = given.regular

  -- what holds with the closings cs left
  record Remaining (E : ℕ → Bool) (cs : List ℕ) : Type 0 where
    tree : Tree G (Live G E)
    -- they are the branches that are wanted and not live, each once
    left : (k : ℕ) → W k ≡ true → E k ≡ false → Memᴰ k cs
    each : (k : ℕ) → Memᴰ k cs → (W k ≡ true) × (E k ≡ false) × (live N present k ≡ false) × (k < G.branches)
    apart : Distinct cs
    -- what is live and not wanted was live in the present state
    kept : (k : ℕ) → E k ≡ true → W k ≡ false → live N present k ≡ true

  -- no tree is a part of another
  arrived : (E : ℕ → Bool) → Remaining E [] → (k : ℕ) → k < G.branches → E k ≡ W k
  arrived E t k l = sym (live_part_is_whole W E regular.ends given.wanted_tree t.tree (λ j w. more j w (which (E j))) k l)
    where
      more : (j : ℕ) → W j ≡ true → (E j ≡ true) ⊎ (E j ≡ false) → E j ≡ true
      more j w (inl p) = p
      more j w (inr p) = absurd (mathlib.Core.List.Memᴰ.not-nil (t.left j w p))

  module _ (E : ℕ → Bool) (e : ℕ) (es : List ℕ) (t : Remaining E (e ∷ es)) where
    abbrev f : ℕ
    f = opening N wanted E e

    abbrev q : Pair
    q = record { closed = e; opened = f }

    e_wanted : W e ≡ true
    e_wanted = (t.each e (mathlib.Core.List.Memᴰ.head refl)).0

    e_dead : E e ≡ false
    e_dead = (t.each e (mathlib.Core.List.Memᴰ.head refl)).1

    e_present : live N present e ≡ false
    e_present = (t.each e (mathlib.Core.List.Memᴰ.head refl)).2

    e_in : e < G.branches
    e_in = (t.each e (mathlib.Core.List.Memᴰ.head refl)).3

    joins : Path G (Live G E) (G.from e) (G.to e) (ends_path N E e)
    unfolding ends_path Connected
    joins =
        let b = regular.ends e e_in in
        bfs_path_lem G E regular.ends regular.few (G.from e) b.0 (G.to e) (t.tree.connected (G.from e) (G.to e) b.0 b.1)

    -- were all branches of the path wanted, they would be a loop with e in the wanted state
    found : Memᴰ f (ends_path N E e) × (W f ≡ false)
    unfolding opening
    found = go (first_cases (λ k. not (W k)) 0 (ends_path N E e))
      where
        lives : (x : ℕ) → not (W x) ≡ false → W x ≡ true
        lives x h = not-false (W x) h

        go : (Memᴰ f (ends_path N E e) × (not (W f) ≡ true)) ⊎ ((x : ℕ) → Memᴰ x (ends_path N E e) → not (W x) ≡ false)
            → Memᴰ f (ends_path N E e) × (W f ≡ false)
        go (inl h) = (h.0, not-true _ h.1)
        go (inr h) = absurd (tree_forest given.wanted_tree e (e_in, e_wanted)
            (ends_path N E e, chain_within joins.0 (λ x m a. ((a.0, lives x (h x m)), λ p. clash a.1 (ap E p ∙ e_dead)))))

    fits : Fits G E q
    fits = record { listed = e_in; dead = e_dead; path = ends_path N E e; joins = joins; lies = found.0 }

    ready : Ready N (live N present) W E q
    ready = record {
      tree = t.tree;
      fits = fits;
      closing = (e_present, e_wanted);
      opening = (t.kept f (opened_live fits).1 found.1, found.1);
    }

    then : Remaining (exchanged E q) es
    then = record {
      tree = exchanged_tree fits t.tree;
      left = λ k w d. left k w d (ℕ_discrete k e) (ℕ_discrete k f);
      each = λ k m. let (w, d, o, l) = t.each k (mathlib.Core.List.Memᴰ.tail m) in (w, exchanged_other E q k (λ p. t.apart.0 (mathlib.Core.List.Memᴰ.cast (sym p) m)) (λ p. clash w (ap W p ∙ found.1)) ∙ d, o, l);
      apart = t.apart.1;
      kept = λ k a w. kept k a w (ℕ_discrete k e) (ℕ_discrete k f);
    }
      where
        left : (k : ℕ) → W k ≡ true → exchanged E q k ≡ false → Dec (k ≡ e) → Dec (k ≡ f) → Memᴰ k es
        left k w d (yes p) y = clash (closing_closed fits) (sym (ap (exchanged E q) p) ∙ d)
        left k w d (no n) (yes p) = clash w (ap W p ∙ found.1)
        left k w d (no n) (no m) = go (mathlib.Core.List.Memᴰ.cases_cons (t.left k w (sym (exchanged_other E q k n m) ∙ d)))
          where
            go : (k ≡ e) ⊎ Memᴰ k es → Memᴰ k es
            go (inl p) = absurd (n p)
            go (inr i) = i

        kept : (k : ℕ) → exchanged E q k ≡ true → W k ≡ false → Dec (k ≡ e) → Dec (k ≡ f) → live N present k ≡ true
        kept k a w (yes p) y = clash e_wanted (sym (ap W p) ∙ w)
        kept k a w (no n) (yes p) = clash a (ap (exchanged E q) p ∙ opening_opened E q)
        kept k a w (no n) (no m) = t.kept k (sym (exchanged_other E q k n m) ∙ a) w

  leads : (cs : List ℕ) (E : ℕ → Bool) → Remaining E cs → Leads N (live N present) W E (pairs_from N wanted E cs)
  unfolding pairs_from
  leads [] E t = there t.tree (arrived E t)
  leads (e ∷ es) E t = next (ready E e es t) (leads es _ (then E e es t))

  -- a switch of a closing: the first listed on its branch
  closing_switch : (i : ℕ) → Memᴰ i (those (λ i. ranks N i && only_in (live N wanted) (live N present) (branch_of N i)) (size N))
      → (i < size N) × (index_of (branch_of N i) (map on N.switches) ≡ i) × (live N wanted (branch_of N i) ≡ true) × (live N present (branch_of N i) ≡ false)
  unfolding ranks
  closing_switch i m =
      let h = of_those _ (size N) i m in
      let p = both (eqb (index_of (branch_of N i) (map on N.switches)) i) _ h.1 in
      let (w, d) = only_so (live N wanted) (live N present) (branch_of N i) p.1 in
      (h.0, eqb-true _ _ p.0, w, d)

  -- the first listed switch of a branch that has one
  first_on : (k i : ℕ) → On N k i → (index_of k (map on N.switches) < size N) × (branch_of N (index_of k (map on N.switches)) ≡ k)
  first_on k i o =
      let l = map on N.switches in
      let m : Memᴰ k l = mathlib.Core.List.Memᴰ.cast (sym o.here) (mathlib.Core.List.Memᴰ.map on (stands_at N.switches i no_switch o.listed)) in
      let a = index_found k l m in
      (omega (arith, length-map N.switches on), sym (get_or-map on N.switches (index_of k l) no_switch) ∙ index_holds k l 0 m)

  wanted_switch : (k : ℕ) → live N wanted k ≡ true → live N present k ≡ false → (i : ℕ) × On N k i
  wanted_switch k w d = let (served, (i, o, n, b)) = live_one N wanted present k w d in (i, o)

  pub pairs_lead : Leads N (live N present) (live N wanted) (live N present) (pairs N present wanted)
  unfolding pairs closings ranks
  pairs_lead = leads (closings N present wanted) (live N present) (record {
    tree = given.present_tree;
    left = λ k w d.
        let (i, o) = wanted_switch k w d in
        let (l, here) = first_on k i o in
        mathlib.Core.List.Memᴰ.cast (sym here) (mathlib.Core.List.Memᴰ.map (branch_of N) (in_those _ (size N) (index_of k (map on N.switches)) l (rw (here, w, d, eq-eqb (index_of k (map on N.switches)) _ refl))));
    each = λ k m.
        let (i, h, p) = mathlib.Core.List.Memᴰ.of_map (branch_of N) _ m in
        let (l, first, w, d) = closing_switch i h in
        rw (← p) (w, d, d, regular.placed (record { listed = l; here = refl }));
    apart = distinct_map (branch_of N) _ (distinct_those _ (size N)) (λ i j h m e.
        sym (closing_switch i h).1 ∙ ap (λ k. index_of k (map on N.switches)) e ∙ (closing_switch j m).1);
    kept = λ k a w. a;
  })
