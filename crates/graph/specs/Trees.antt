-- Laws of trees: between two buses there is exactly one path; a branch of a path gives its place to a branch between the
-- path's ends, and can take it back; no tree is a part of another, also where the sets are said by flags.
use Rattle.std.specs.Prelude.{◌≡◌, ◌⊎◌, ◌≢◌, Bool, true, false, ℕ, ◌<◌}
use Rattle.std.proofs.Common.{inl, inr}
use mathlib.Core.List.{List, Memᴰ}
use Rattle.std.proofs.Math.Decide.{dec_lt}
use Rattle.numbers.specs.Members.{mem?}
use Rattle.numbers.specs.Tests.{which, clash, same_test}
use Rattle.graph.specs.Graph.{Net, Sound, Branches, Live, Plus, Minus, Chain, Path, Connected, Loop, Tree}
use Rattle.graph.specs.Chains.{◌⊆◌, plus_minus_swap, on_chain, chain_without, chain_more, joined_more}
use Rattle.graph.specs.Paths.{path_via, joined_path}
use Rattle.graph.specs.Forests.{Forest, forest_no_loop, forest_less, path_unique, exchange_forest, exchange_joined}

module _ {N : Net} {S : Branches} where
  pub tree_forest : Tree N S → Forest N S
  tree_forest t = forest_no_loop.1 t.no_loop

  pub one_path : Tree N S → (a b : ℕ) → a < N.buses → b < N.buses → (l : List ℕ) × Path N S a b l × ((r : List ℕ) → Path N S a b r → r ≡ l)
  unfolding Connected
  one_path t a b x y =
      let p = joined_path (t.connected a b x y) in
      (p.0, p.1, λ r q. path_unique (tree_forest t) q p.1)

-- the same branches are a tree or not, however the set is said
pub tree_same : {N : Net} {S R : Branches} → S ⊆ R → R ⊆ S → Tree N S → Tree N R
unfolding Connected
tree_same more less t = record {
  connected = λ a b x y. joined_more more (t.connected a b x y);
  no_loop = forest_no_loop.0 (forest_less less (tree_forest t));
}

-- e is closed, and f is opened on the path that joined the ends of e before
module _ {N : Net} {S : Branches} (t : Tree N S) {e f : ℕ} (new : ¬ S e) {l : List ℕ} (p : Path N S (N.from e) (N.to e) l) (m : Memᴰ f l) where
  exchange_differs : e ≢ f
  exchange_differs q = new (rw q (on_chain p.0 m))

  pub exchange_keeps_tree : Tree N (Minus (Plus S e) f)
  unfolding Connected
  exchange_keeps_tree = record {
    connected = λ a b x y. joined_more swap (exchange_joined e f (path_via p m) (t.connected a b x y));
    no_loop = forest_no_loop.0 (forest_less (plus_minus_swap S e f) (exchange_forest e f (path_via p m) (tree_forest t) (on_chain p.0 m)));
  }
    where
      swap : Plus (Minus S f) e ⊆ Minus (Plus S e) f
      swap k (inl (s, n)) = (inl s, n)
      swap k (inr q) = (inr q, λ z. exchange_differs (rw q at z))

  -- then e lies on the path between the ends of f, so that the pair can be undone by the same law
  pub exchange_back : {r : List ℕ} → Chain N (Minus (Plus S e) f) (N.from f) (N.to f) r → Memᴰ e r
  exchange_back {r} c = go (mem? e r)
    where
      old : Minus (Minus (Plus S e) f) e ⊆ Minus S f
      old k ((inl s, n), q) = (s, n)
      old k ((inr z, n), q) = absurd (q z)

      go : Dec (Memᴰ e r) → Memᴰ e r
      go (yes d) = d
      go (no n) = absurd (tree_forest t f (on_chain p.0 m) (r, chain_more old (chain_without c n)))

-- no tree is a part of another: branches that connect all buses are all the branches of a set without a loop that has them
part_is_whole : {N : Net} {S R : Branches} → Connected N S → ¬ Loop N R → S ⊆ R
    → ((k : ℕ) → R k → (N.from k < N.buses) × (N.to k < N.buses)) → ((k : ℕ) → Dec (S k)) → R ⊆ S
unfolding Connected
part_is_whole {N} {S} {R} h n w ends dec k r = go (dec k)
  where
    go : Dec (S k) → S k
    go (yes s) = s
    go (no d) = absurd (forest_no_loop.1 n k r (joined_more less (h (N.from k) (N.to k) (ends k r).0 (ends k r).1)))
      where
        less : S ⊆ Minus R k
        less i s = (w i s, λ q. d (rw q at s))

-- the same of flagged branches
pub live_part_is_whole : {N : Net} (E F : ℕ → Bool) → Sound N → Tree N (Live N E) → Tree N (Live N F) → ((k : ℕ) → E k ≡ true → F k ≡ true)
    → (k : ℕ) → k < N.branches → E k ≡ F k
live_part_is_whole {N} E F sound t u part k l = same_test (E k) (F k) (part k) (λ h. (whole k (l, h)).1)
  where
    live? : (j : ℕ) → Dec (Live N E j)
    live? j = go (dec_lt j N.branches) (which (E j))
      where
        go : Dec (j < N.branches) → (E j ≡ true) ⊎ (E j ≡ false) → Dec (Live N E j)
        go (yes b) (inl e) = yes (b, e)
        go (yes b) (inr e) = no (λ h. clash h.1 e)
        go (no n) e = no (λ h. n h.0)

    whole : Live N F ⊆ Live N E
    whole = part_is_whole t.connected u.no_loop (λ j h. (h.0, part j h.1)) (λ j h. sound j h.0) live?
