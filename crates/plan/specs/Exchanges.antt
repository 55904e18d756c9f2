-- A pair of branches whose opening lies on the path that joins the ends of its closing: it makes a tree of a tree, its closing
-- makes exactly one loop, and turned round it is such a pair again. From the laws of trees, for sets of branches with flags.
use Rattle.std.specs.Prelude.{◌≡◌, refl, ◌≢◌, Bool, true, false, ℕ, ◌<◌}
use Rattle.std.proofs.Common.{sym, ap, ◌∙◌, inl, inr}
use mathlib.Core.List.{List, Memᴰ}
use Rattle.std.proofs.Math.Decide.{ℕ_discrete}
use borrow.Author.Tests.{eq-eqb, ne_eqb}
use Rattle.numbers.specs.Tests.{clash}
use Rattle.graph.specs.Graph.{Net, Sound, Live, Plus, Minus, Path, Tree}
use Rattle.graph.specs.Chains.{◌⊆◌, on_chain, chain_more}
use Rattle.graph.specs.Trees.{one_path, tree_same, exchange_keeps_tree, exchange_back}
use Rattle.plan.specs.Plan.{Pair, exchanged}

-- the pair turned round
abbrev pub turned_pair : Pair → Pair
turned_pair q = record { closed = q.opened; opened = q.closed }

-- the pair closes a branch that is not live, and opens one on the path between its ends
pub record Fits (G : Net) (E : ℕ → Bool) (q : Pair) : Type 0 where
  pub listed : q.closed < G.branches
  pub dead : E q.closed ≡ false
  pub path : List ℕ
  pub joins : Path G (Live G E) (G.from q.closed) (G.to q.closed) path
  pub lies : Memᴰ q.opened path

module _ {G : Net} {E : ℕ → Bool} {q : Pair} (h : Fits G E q) where
  pub opened_live : Live G E q.opened
  opened_live = on_chain h.joins.0 h.lies

  closing_new : ¬ Live G E q.closed
  closing_new t = clash t.1 h.dead

  pub pair_differs : q.closed ≢ q.opened
  pair_differs e = clash opened_live.1 (ap E (sym e) ∙ h.dead)

  pub closing_closed : exchanged E q q.closed ≡ true
  unfolding exchanged
  closing_closed = rw (ne_eqb _ _ pair_differs, eq-eqb q.closed _ refl)

pub opening_opened : (E : ℕ → Bool) (q : Pair) → exchanged E q q.opened ≡ false
unfolding exchanged
opening_opened E q = rw (eq-eqb q.opened _ refl)

pub exchanged_other : (E : ℕ → Bool) (q : Pair) (k : ℕ) → k ≢ q.closed → k ≢ q.opened → exchanged E q k ≡ E k
unfolding exchanged
exchanged_other E q k n m = rw (ne_eqb _ _ m, ne_eqb _ _ n)

module _ {G : Net} {E : ℕ → Bool} {q : Pair} (h : Fits G E q) (t : Tree G (Live G E)) where
  exchanged_more : Minus (Plus (Live G E) q.closed) q.opened ⊆ Live G (exchanged E q)
  exchanged_more k (inl (l, e), n) = (l, exchanged_other E q k (λ p. clash e (ap E p ∙ h.dead)) n ∙ e)
  exchanged_more k (inr p, n) = rw p (h.listed, closing_closed h)

  exchanged_less : Live G (exchanged E q) ⊆ Minus (Plus (Live G E) q.closed) q.opened
  exchanged_less k (l, e) = go (ℕ_discrete k q.opened) (ℕ_discrete k q.closed)
    where
      go : Dec (k ≡ q.opened) → Dec (k ≡ q.closed) → Minus (Plus (Live G E) q.closed) q.opened k
      go (yes p) d = clash e (ap (exchanged E q) p ∙ opening_opened E q)
      go (no n) (yes p) = (inr p, n)
      go (no n) (no m) = (inl (l, sym (exchanged_other E q k m n) ∙ e), n)

  pub exchanged_tree : Tree G (Live G (exchanged E q))
  exchanged_tree = tree_same exchanged_more exchanged_less (exchange_keeps_tree t (closing_new h) h.joins h.lies)

  pub fits_back : Sound G → Fits G (exchanged E q) (turned_pair q)
  fits_back sound =
      let s = sound q.opened (opened_live h).0 in
      let p = one_path exchanged_tree (G.from q.opened) (G.to q.opened) s.0 s.1 in
      record {
        listed = (opened_live h).0;
        dead = opening_opened E q;
        path = p.0;
        joins = p.1;
        lies = exchange_back t (closing_new h) h.joins h.lies (chain_more exchanged_less p.1.0);
      }
