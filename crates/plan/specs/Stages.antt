-- The plan pair by pair: pairs that lead from flagged branches to the wanted ones, the state with some of them carried out, and what a step along
-- the plan does. Each pair is made of the present and the wanted state, and can be carried out when it comes to it.
use Rattle.std.specs.Prelude.{◌≡◌, ◌⊎◌, ◌≢◌, Bool, true, false, eqb, drop}
use Rattle.std.proofs.Math.Path.{refl, sym, ap}
use Rattle.std.proofs.Common.{◌∙◌, inl, inr}
use mathlib.Core.List.Memᴰ
use mathlib.Core.List.{List, [], ◌∷◌, map, Memᴰ}
use Rattle.std.proofs.Math.Option.{Option, none, some, none-ne-some}
use Prim.Native.Nat.{ℕ, zero, suc, ◌≤◌, ◌<◌}
use native.Mathlib.Omega.{arith}
use Rattle.std.proofs.Math.ListN.{length, get_elem?}
use borrow.Author.Tests.{eq-eqb, eqb-true}
use Rattle.numbers.specs.Tests.{both, clash}
use Rattle.numbers.specs.ChooseLaws.{in_those, of_those}
use Rattle.numbers.specs.Distinct.{Distinct, distinct_those}
use Rattle.network.specs.Records.{Network}
use Rattle.states.specs.Live.{live}
use Rattle.states.specs.Switches.{State, byte, branch_of, operable}
use Rattle.states.specs.LiveBytes.{On, live_so, live_one}
use Rattle.graph.specs.Graph.{Live, Tree}
use Rattle.feeders.specs.Feeder.{feeder}
use Rattle.plan.specs.Plan.{Pair, exchanged, Moves, open_switches, id_of, moves_of}
use Rattle.plan.specs.Claim.{switch_at, set_all, closes_at, opens_at, after_closing, carried_out, turned, turned_if, Step, forward, back, found, Point, taken, run}
use Rattle.plan.specs.Sets.{all_out}
use Rattle.plan.specs.Plannable.{Regular, Plannable}
use Rattle.plan.specs.Exchanges.{Fits, closing_closed, opening_opened, exchanged_other}
use Rattle.plan.specs.Moved.{Shows, ByLists}
use Rattle.plan.specs.Due.{Due, due_shows, turn, turn_back}
use Rattle.plan.specs.Missing.{missing, missing_none, missing_less}

-- the pair can be carried out on the flagged branches: it takes a branch that the present state alone has dead, and one that it alone has live
pub record Ready (N : Network) (P W E : ℕ → Bool) (q : Pair) : Type 0 where
  pub tree : Tree (feeder N) (Live (feeder N) E)
  pub fits : Fits (feeder N) E q
  pub closing : (P q.closed ≡ false) × (W q.closed ≡ true)
  pub opening : (P q.opened ≡ true) × (W q.opened ≡ false)

-- the pairs lead from the flagged branches to the wanted ones: each closes a wanted branch and opens one that is not
pub data Leads (N : Network) (P W : ℕ → Bool) : (ℕ → Bool) → List Pair → Type 0 where
  there : {E : ℕ → Bool} → Tree (feeder N) (Live (feeder N) E) → ((k : ℕ) → k < (feeder N).branches → E k ≡ W k) → Leads N P W E []
  next : {E : ℕ → Bool} {q : Pair} {Q : List Pair} → Ready N P W E q → Leads N P W (exchanged E q) Q → Leads N P W E (q ∷ Q)

pub leads_tree : {N : Network} {P W E : ℕ → Bool} {Q : List Pair} → Leads N P W E Q → Tree (feeder N) (Live (feeder N) E)
leads_tree (there t h) = t
leads_tree (next r l) = r.tree

-- as many pairs as missing branches
pub leads_missing : {N : Network} {P W E : ℕ → Bool} {Q : List Pair} → Leads N P W E Q → missing (feeder N) W E ≡ length Q
leads_missing {N} {P} {W} (there {E = E} t h) = missing_none (feeder N) W E h
leads_missing {N} {P} {W} (next {E = E} {q = q} r l) = missing_less (feeder N) W E q r.fits r.closing.1 r.opening.1 ∙ ap suc (leads_missing l)

-- the state with the first n pairs carried out
unfoldable pub stage : Network → State → List Moves → ℕ → State
stage N s P zero = s
stage N s [] (suc n) = s
stage N s (m ∷ P) (suc n) = stage N (carried_out N m s) P n

-- the open switches of a branch
module _ (N : Network) (s : State) (k i : ℕ) where
  pub of_open : Memᴰ i (open_switches N s k) → On N k i × (byte s i ≡ 1)
  unfolding open_switches
  of_open z =
      let (l, t) = of_those _ (length N.switches) i z in
      let p = both (eqb (branch_of N i) k) _ t in
      (record { listed = l; here = eqb-true _ _ p.0 }, eqb-true _ _ p.1)

  pub in_open : On N k i → byte s i ≡ 1 → Memᴰ i (open_switches N s k)
  unfolding open_switches
  in_open o b = in_those _ (length N.switches) i o.listed (rw (eq-eqb _ _ o.here, eq-eqb _ _ b))

-- the ids of listed switches lead back to them
resolved_all : {N : Network} → Regular N → (l : List ℕ) → ((i : ℕ) → Memᴰ i l → i < length N.switches) → map (switch_at N) (map (id_of N) l) ≡ l
resolved_all regular [] h = refl
resolved_all {N} regular (i ∷ l) h = rw (regular.resolved i (h i (Memᴰ.head refl)), resolved_all regular l (λ j z. h j (Memᴰ.tail z)))

pub open_resolved : {N : Network} → Regular N → (s : State) (k : ℕ) → map (switch_at N) (map (id_of N) (open_switches N s k)) ≡ open_switches N s k
open_resolved {N} regular s k = resolved_all regular (open_switches N s k) (λ i z. (of_open N s k i z).0.listed)

pub open_apart : (N : Network) (s : State) (k : ℕ) → Distinct (open_switches N s k)
unfolding open_switches
open_apart N s k = distinct_those _ (length N.switches)

module _ (N : Network) (present wanted : State) (given : Plannable N present wanted) where
  abbrev P : ℕ → Bool
  P = live N present

  abbrev W : ℕ → Bool
  W = live N wanted

  abbrev moves : Pair → Moves
  moves = moves_of N present wanted

  -- a pair names no switch twice
  pub closes_apart : (q : Pair) → Distinct (closes_at N (moves q))
  closes_apart q = rw (open_resolved given.joined.regular present q.closed) (open_apart N present q.closed)

  pub opens_apart : (q : Pair) → Distinct (opens_at N (moves q))
  opens_apart q = rw (open_resolved given.joined.regular wanted q.opened) (open_apart N wanted q.opened)

  -- what a state holds while the plan is carried out: on a branch that is as the present state has it stand the present bytes
  pub record Holds (s : State) (E : ℕ → Bool) : Type 0 where
    pub shows : Shows N s E
    pub kept : (i : ℕ) → E (branch_of N i) ≡ P (branch_of N i) → byte s i ≡ byte present i

  module _ {s : State} {E : ℕ → Bool} {q : Pair} (h : Holds s E) (r : Ready N P W E q) where
    abbrev e : ℕ
    e = q.closed

    abbrev f : ℕ
    f = q.opened

    abbrev C : List ℕ
    C = open_switches N present q.closed

    abbrev O : List ℕ
    O = open_switches N wanted q.opened

    C_at : closes_at N (moves q) ≡ C
    C_at = open_resolved given.joined.regular present e

    O_at : opens_at N (moves q) ≡ O
    O_at = open_resolved given.joined.regular wanted f

    as_present : (i : ℕ) → On N e i → byte s i ≡ byte present i
    as_present i o = h.kept i (rw o.here (r.fits.dead ∙ sym r.closing.0))

    movable : ByLists N s e f C O
    movable = record {
      closes = λ i. (
        λ z. let p = of_open N present e i z in (p.0, as_present i p.0 ∙ p.1),
        λ p. in_open N present e i p.0 (sym (as_present i p.0) ∙ p.1),
      );
      opens = λ i z. (of_open N wanted f i z).0;
      one = let (served, (i, o, n, b)) = live_one N present wanted f r.opening.0 r.opening.1 in (i, in_open N wanted f i o b);
      served = (live_so N wanted e r.closing.1).0;
    }

    free_C : (i : ℕ) → Memᴰ i C → operable N i ≡ true
    free_C i z =
        let p = of_open N present e i z in
        given.free i p.0.listed (λ x. (live_so N wanted e r.closing.1).1 i p.0 (sym x ∙ p.1)) (λ x. clash r.closing.1 (sym (rw p.0.here at x) ∙ r.closing.0))

    free_O : (i : ℕ) → Memᴰ i O → operable N i ≡ true
    free_O i z =
        let p = of_open N wanted f i z in
        given.free i p.0.listed (λ x. (live_so N present f r.opening.0).1 i p.0 (x ∙ p.1)) (λ x. clash r.opening.0 ((rw p.0.here at x) ∙ r.opening.1))

    pub due : Due N s (moves q)
    due = record {
      flags = E;
      pair = q;
      shows = h.shows;
      tree = r.tree;
      fits = r.fits;
      movable = rw (C_at, O_at) movable;
      free = λ i z. both_free i (Memᴰ.append_cases (closes_at N (moves q)) z);
    }
      where
        both_free : (i : ℕ) → Memᴰ i (closes_at N (moves q)) ⊎ Memᴰ i (opens_at N (moves q)) → operable N i ≡ true
        both_free i (inl z) = free_C i (rw C_at at z)
        both_free i (inr z) = free_O i (rw O_at at z)

    -- a switch on another branch keeps its byte
    other_byte : (i : ℕ) → branch_of N i ≢ e → branch_of N i ≢ f → byte (carried_out N (moves q) s) i ≡ byte s i
    unfolding carried_out after_closing
    other_byte i n d =
        rw (C_at, O_at)
        (all_out (set_all s C 0) O 1 i (λ z. d (of_open N wanted f i z).0.here)
        ∙ all_out s C 0 i (λ z. n (of_open N present e i z).0.here))

    pub holds_next : Holds (carried_out N (moves q) s) (exchanged E q)
    unfolding due
    holds_next = record {
      shows = due_shows given.joined.regular.ends due;
      kept = λ i x.
          let n : branch_of N i ≢ e = λ p. clash (closing_closed r.fits) (sym (ap (exchanged E q) p) ∙ x ∙ ap P p ∙ r.closing.0) in
          let d : branch_of N i ≢ f = λ p. clash r.opening.0 (sym (ap P p) ∙ sym x ∙ ap (exchanged E q) p ∙ opening_opened E q) in
          other_byte i n d ∙ h.kept i (sym (exchanged_other E q (branch_of N i) n d) ∙ x);
    }

  pub leads_at : {E : ℕ → Bool} {Q : List Pair} {s : State} → Leads N P W E Q → Holds s E → (n : ℕ) → n ≤ length Q
      → (D : ℕ → Bool) × Leads N P W D (drop n Q) × Shows N (stage N s (map moves Q) n) D
  unfolding stage
  leads_at {E = E} l h zero b = (E, l, h.shows)
  leads_at (there t e) h (suc n) b = absurd (omega arith)
  leads_at {E = E} (next {q = q} r l) h (suc n) b = leads_at {E = exchanged E q} l (holds_next h r) n (omega arith)

  pub due_at : {E : ℕ → Bool} {Q : List Pair} {s : State} → Leads N P W E Q → Holds s E → (n : ℕ) (m : Moves) → get_elem? (map moves Q) n ≡ some m
      → (n < length Q) × (stage N s (map moves Q) (suc n) ≡ carried_out N m (stage N s (map moves Q) n)) × Due N (stage N s (map moves Q) n) m
  unfolding stage
  due_at (there t e) h n m g = absurd (none-ne-some m g)
  due_at {s = s} (next {E = E} {q = q} r l) h zero m g =
      let p : m ≡ moves q = cc in
      (omega arith, ap (λ x. carried_out N x s) (sym p), rw p (due h r))
  due_at (next {Q = Q} r l) h (suc n) m g =
      let t = due_at l (holds_next h r) n m g in
      let b : n < length Q = t.0 in
      (omega arith, t.1, t.2)

  -- a switch on a branch that is live in both states or in neither is moved by none of the pairs
  pub stage_byte : {E : ℕ → Bool} {Q : List Pair} {s : State} → Leads N P W E Q → Holds s E → (n i : ℕ) → P (branch_of N i) ≡ W (branch_of N i)
      → byte (stage N s (map moves Q) n) i ≡ byte s i
  unfolding stage
  stage_byte l h zero i e = refl
  stage_byte (there t w) h (suc n) i e = refl
  stage_byte {s = s} (next {E = E} {q = q} r l) h (suc n) i e =
      stage_byte {E = exchanged E q} l (holds_next h r) n i e
      ∙ other_byte h r i (λ p. clash r.closing.1 (sym (ap W p) ∙ sym e ∙ ap P p ∙ r.closing.0)) (λ p. clash r.opening.0 (sym (ap P p) ∙ e ∙ ap W p ∙ r.opening.1))

  -- the point at which the first `done` pairs are carried out
  pub record At (s : State) (Q : List Pair) (p : Point) : Type 0 where
    pub low : p.done ≤ length Q
    pub here : p.state ≡ stage N s (map moves Q) p.done

  module _ {E : ℕ → Bool} {s : State} {Q : List Pair} (lead : Leads N P W E Q) (start : Holds s E) where
    abbrev M : List Moves
    M = map moves Q

    step_at : (x : Step) (p : Point) → At s Q p → At s Q (taken N x p (found M x p.done))
    step_at x p a = go x p.done p.state a.low a.here
      where
        ahead : (n : ℕ) (t : State) → n ≤ length Q → t ≡ stage N s M n → (o : Option Moves) → get_elem? M n ≡ o
            → At s Q (taken N forward (record { state = t; done = n }) o)
        ahead n t l h none e = unfold taken in record { low = l; here = h }
        ahead n t l h (some m) e = unfold taken in let d = due_at lead start n m e in record { low = d.0; here = ap (carried_out N m) h ∙ sym d.1 }

        behind : (n : ℕ) (t : State) → suc n ≤ length Q → t ≡ stage N s M (suc n) → (o : Option Moves) → get_elem? M n ≡ o
            → At s Q (taken N back (record { state = t; done = suc n }) (turned_if o))
        behind n t l h none e = unfold taken in record { low = l; here = h }
        behind n t l h (some m) e = unfold taken in
            let d = due_at lead start n m e in
            record { low = omega arith; here = ap (carried_out N (turned m)) (h ∙ d.1) ∙ turn_back given.joined.regular.ends d.2 }

        go : (x : Step) (n : ℕ) (t : State) → n ≤ length Q → t ≡ stage N s M n → At s Q (taken N x (record { state = t; done = n }) (found M x n))
        go forward n t l h = unfold found in ahead n t l h (get_elem? M n) refl
        go back zero t l h = unfold found taken in record { low = l; here = h }
        go back (suc n) t l h = unfold found in behind n t l h (get_elem? M n) refl

    pub run_at : (xs : List Step) (p : Point) → At s Q p → At s Q (run N M xs p)
    unfolding run
    run_at [] p a = a
    run_at (x ∷ xs) p a = run_at xs _ (step_at x p a)

    -- what a step finds can be carried out
    pub found_due : (x : Step) (p : Point) → At s Q p → (m : Moves) → found M x p.done ≡ some m → Due N p.state m
    found_due x p a m e = go x p.done p.state a.here e
      where
        behind : (n : ℕ) (t : State) → t ≡ stage N s M (suc n) → (o : Option Moves) → get_elem? M n ≡ o → turned_if o ≡ some m → Due N t m
        behind n t h none e g = absurd (none-ne-some m g)
        behind n t h (some v) e g =
            let d = due_at lead start n v e in
            let i : turned v ≡ m = cc in
            rw (h, d.1, ← i) (turn given.joined.regular.ends d.2)

        go : (x : Step) (n : ℕ) (t : State) → t ≡ stage N s M n → found M x n ≡ some m → Due N t m
        go forward n t h e = rw h (due_at lead start n m (unfold found in e)).2
        go back zero t h e = absurd (none-ne-some m (unfold found in e))
        go back (suc n) t h e = behind n t h (get_elem? M n) refl (unfold found in e)
