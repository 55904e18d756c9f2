-- What demand 3 says of one pair that is carried out, from what makes it due.
use Rattle.std.specs.Prelude.{◌≡◌, ◌⊎◌, ◌≢◌, Bool, true, ℕ, ◌<◌, length, get_or}
use Rattle.std.proofs.Common.{sym, ap, ◌∙◌, inl, inr, arith}
use mathlib.Core.List.Memᴰ
use mathlib.Core.List.{List, [], ◌∷◌, ◌++◌, map, cons≢nil, Memᴰ}
use Rattle.std.proofs.Math.Decide.{ℕ_discrete, dec_lt}
use Rattle.std.proofs.Math.ListN.{get_or-eq_default}
use Rattle.numbers.specs.Tests.{clash}
use Rattle.network.specs.Records.{Network}
use Rattle.states.specs.Live.{live}
use Rattle.states.specs.Switches.{State, byte, operable, GoodState}
use Rattle.graph.specs.Graph.{Live, Plus, Path, Connected, Tree}
use Rattle.graph.specs.Chains.{◌⊆◌, joined_more}
use Rattle.graph.specs.Paths.{path_more}
use Rattle.graph.specs.Forests.{path_unique}
use Rattle.graph.specs.Trees.{tree_forest, tree_same}
use Rattle.graph.specs.Loops.{loop_more, closing_makes_loop, one_loop}
use Rattle.graph.specs.Graph.{Sound}
use Rattle.feeders.specs.Feeder.{feeder, LiveIn}
use Rattle.plan.specs.Plan.{Pair, exchanged, Moves}
use Rattle.plan.specs.Claim.{switch_at, closes_at, opens_at, after_closing, carried_out, turned, first_branch, TwoBranches, Exchanged, OnLoop}
use Rattle.numbers.specs.Distinct.{stands_at}
use Rattle.numbers.specs.Members.{map_reverse, mem_reverse}
use Rattle.plan.specs.Exchanges.{turned_pair, Fits, opened_live, closing_closed, opening_opened, exchanged_other, exchanged_tree, fits_back}
use Rattle.plan.specs.Moved.{Shows, ByLists, mid_closed, mid_other, end_shows, movable_back, undone}

-- in s the pair m can be carried out
pub record Due (N : Network) (s : State) (m : Moves) : Type 0 where
  pub flags : ℕ → Bool
  pub pair : Pair
  pub shows : Shows N s flags
  pub tree : Tree (feeder N) (Live (feeder N) flags)
  pub fits : Fits (feeder N) flags pair
  pub movable : ByLists N s pair.closed pair.opened (closes_at N m) (opens_at N m)
  pub free : (i : ℕ) → Memᴰ i (closes_at N m ++ opens_at N m) → operable N i ≡ true

first_in : (l : List ℕ) (x : ℕ) → Memᴰ x l → Memᴰ (get_or l 0 0) l
first_in [] x z = absurd (Memᴰ.not-nil z)
first_in (y ∷ l) x z = stands_at (y ∷ l) 0 0 (omega arith)

-- an open switch is listed
pub open_listed : (N : Network) (s : State) → GoodState N s → (i : ℕ) → byte s i ≡ 1 → i < length N.switches
open_listed N s good i b = go (dec_lt i (length s))
  where
    go : Dec (i < length s) → i < length N.switches
    go (yes l) = omega (arith, good.long)
    go (no n) = absurd (omega (arith, b, get_or-eq_default s 0 {n = i} (omega arith)))

map_some : {A B : Type 0} (f : A → B) (l : List A) {x : B} → Memᴰ x (map f l) → l ≢ []
map_some f [] z e = Memᴰ.not-nil z
map_some f (y ∷ l) z e = cons≢nil e

module _ {N : Network} {s : State} {E : ℕ → Bool} (h : Shows N s E) where
  shows_more : Live (feeder N) E ⊆ LiveIn N s
  shows_more k (l, t) = (l, h.flags k ∙ t)

  shows_less : LiveIn N s ⊆ Live (feeder N) E
  shows_less k (l, t) = (l, sym (h.flags k) ∙ t)

  pub shows_tree : Tree (feeder N) (Live (feeder N) E) → Tree (feeder N) (LiveIn N s)
  shows_tree t = tree_same shows_more shows_less t

module _ {N : Network} (sound : Sound (feeder N)) {s : State} {m : Moves} (d : Due N s m) where
  abbrev e : ℕ
  e = d.pair.closed

  abbrev f : ℕ
  f = d.pair.opened

  pub due_shows : Shows N (carried_out N m s) (exchanged d.flags d.pair)
  unfolding carried_out after_closing
  due_shows = end_shows d.shows d.fits d.movable

  pub turn : Due N (carried_out N m s) (turned m)
  turn = record {
    flags = exchanged d.flags d.pair;
    pair = turned_pair d.pair;
    shows = due_shows;
    tree = exchanged_tree d.fits d.tree;
    fits = fits_back d.fits d.tree sound;
    movable = unfold carried_out after_closing in rw (map_reverse (switch_at N) m.opens, map_reverse (switch_at N) m.closes) (movable_back d.shows d.fits d.movable);
    free = λ i z. d.free i (either i (Memᴰ.append_cases (closes_at N (turned m)) z));
  }
    where
      either : (i : ℕ) → Memᴰ i (closes_at N (turned m)) ⊎ Memᴰ i (opens_at N (turned m)) → Memᴰ i (closes_at N m ++ opens_at N m)
      either i (inl z) = Memᴰ.append_right (closes_at N m) (mem_reverse (opens_at N m) i (rw (map_reverse (switch_at N) m.opens) at z))
      either i (inr z) = Memᴰ.append_left (opens_at N m) (mem_reverse (closes_at N m) i (rw (map_reverse (switch_at N) m.closes) at z))

  pub turn_back : carried_out N (turned m) (carried_out N m s) ≡ s
  unfolding carried_out after_closing
  turn_back = rw (map_reverse (switch_at N) m.opens, map_reverse (switch_at N) m.closes) (undone d.shows d.fits d.movable)

  some_closed : (i : ℕ) × Memᴰ i (closes_at N m)
  some_closed = let x = turn.movable.one in (x.0, mem_reverse (closes_at N m) x.0 (rw (map_reverse (switch_at N) m.closes) at x.1))

  closed_on : first_branch N (closes_at N m) ≡ e
  closed_on = ((d.movable.closes _).0 (first_in (closes_at N m) some_closed.0 some_closed.1)).0.here

  opened_on : first_branch N (opens_at N m) ≡ f
  opened_on = (d.movable.opens _ (first_in (opens_at N m) d.movable.one.0 d.movable.one.1)).here

  pub pair_two : TwoBranches N s m (first_branch N (closes_at N m)) (first_branch N (opens_at N m))
  pair_two = record {
    closes = λ i. (
      λ z. let p = (d.movable.closes i).0 z in (p.0.here ∙ sym closed_on, p.1),
      λ p. (d.movable.closes i).1 (record { listed = open_listed N s d.shows.good i p.1; here = p.0 ∙ closed_on }, p.1),
    );
    opens = λ i z. (d.movable.opens i z).here ∙ sym opened_on;
    some_closed = map_some (switch_at N) m.closes some_closed.1;
    some_opened = map_some (switch_at N) m.opens d.movable.one.1;
  }

  pub pair_exchanges : Exchanged N s (carried_out N m s) (first_branch N (closes_at N m)) (first_branch N (opens_at N m))
  pair_exchanges = rw (closed_on, opened_on) (record {
    before = (d.shows.flags e ∙ d.fits.dead, d.shows.flags f ∙ (opened_live d.fits).1);
    then = (due_shows.flags e ∙ closing_closed d.fits, due_shows.flags f ∙ opening_opened d.flags d.pair);
    others = λ k n x. due_shows.flags k ∙ exchanged_other d.flags d.pair k n x ∙ sym (d.shows.flags k);
  })

  closed : live N (after_closing N m s) e ≡ true
  unfolding after_closing
  closed = mid_closed d.shows d.fits d.movable

  others : (k : ℕ) → k ≢ e → live N (after_closing N m s) k ≡ live N s k
  unfolding after_closing
  others = mid_other d.shows d.fits d.movable

  mid_more : Plus (LiveIn N s) e ⊆ LiveIn N (after_closing N m s)
  mid_more k (inl (l, t)) = (l, others k (λ p. clash t (ap (live N s) p ∙ d.shows.flags e ∙ d.fits.dead)) ∙ t)
  mid_more k (inr p) = rw p (d.fits.listed, closed)

  mid_less : LiveIn N (after_closing N m s) ⊆ Plus (LiveIn N s) e
  mid_less k (l, t) = go (ℕ_discrete k e)
    where
      go : Dec (k ≡ e) → Plus (LiveIn N s) e k
      go (yes p) = inr p
      go (no n) = inl (l, sym (others k n) ∙ t)

  mid_connected : Connected (feeder N) (LiveIn N (after_closing N m s))
  unfolding Connected
  mid_connected a b x y = joined_more (λ k l. mid_more k (inl l)) ((shows_tree d.shows d.tree).connected a b x y)

  joins : Path (feeder N) (LiveIn N s) ((feeder N).from e) ((feeder N).to e) d.fits.path
  joins = path_more (shows_more d.shows) d.fits.joins

  pub pair_on_loop : OnLoop N s (after_closing N m s) (first_branch N (closes_at N m)) (first_branch N (opens_at N m))
  unfolding loop_more
  pair_on_loop = rw (closed_on, opened_on) (record {
    closing = (d.shows.flags e ∙ d.fits.dead, closed);
    nothing_else = others;
    connected = mid_connected;
    path = d.fits.path;
    joins = joins;
    only_path = λ l p. path_unique (tree_forest (shows_tree d.shows d.tree)) p joins;
    loop = loop_more mid_more (closing_makes_loop joins (λ t. clash t.1 (d.shows.flags e ∙ d.fits.dead))).0;
    only_loop = λ l k. one_loop joins (shows_tree d.shows d.tree).no_loop (loop_more mid_less l) k;
    lies = d.fits.lies;
  })
