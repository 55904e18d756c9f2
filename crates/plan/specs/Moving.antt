-- Which switches the pairs of a plan move: those that differ, on a branch live in one of the two states only, each once. From the branches that pairs which lead to the
-- wanted ones close and open.
use Rattle.std.specs.Prelude.{◌≡◌, ◌⊎◌, ◌≢◌, Bool, true, false, not, ℕ, ◌≤◌, ◌<◌, eqb}
use Rattle.std.proofs.Math.Path.{refl}
use Rattle.std.proofs.Common.{sym, ap, ◌∙◌, arith}
use Rattle.std.proofs.Math.Logic.{inl, inr}
use mathlib.Core.List.Memᴰ
use mathlib.Core.List.{List, [], ◌∷◌, ◌++◌, map, flat_map, Memᴰ}
use Rattle.std.proofs.Math.Decide.{ℕ_discrete}
use borrow.Author.Tests.{eq-eqb, ne_eqb, not-true}
use Rattle.numbers.specs.Tests.{both, which, clash}
use Rattle.numbers.specs.Distinct.{Distinct}
use Rattle.numbers.specs.Members.{distinct_both, distinct_few}
use Rattle.network.specs.Records.{Network}
use Rattle.states.specs.Live.{live}
use Rattle.states.specs.Switches.{State, byte, branch_of, operable, size}
use Rattle.states.specs.LiveBytes.{On, live_so}
use Rattle.feeders.specs.Feeder.{feeder}
use Rattle.changes.specs.Change.{differing, locked_difference}
use Rattle.plan.specs.Plan.{Pair, pairs, exchanged, open_switches, moves_of, plan}
use Rattle.plan.specs.Claim.{switches_moved, MovesOnce, EachMovesOnce}
use Rattle.plan.specs.Plannable.{Joined}
use Rattle.plan.specs.Exchanges.{opened_live, pair_differs, closing_closed, opening_opened, exchanged_other}
use Rattle.plan.specs.Stages.{Leads, there, next, of_open, in_open, open_resolved, open_apart}
use Rattle.plan.specs.Planner.{pairs_lead}
use Rattle.plan.specs.Accepted.{differs, tested_joined}

-- ---- the branches that the pairs close, and those that they open
abbrev pub closed_in : List Pair → List ℕ
closed_in Q = map (λ q. q.closed) Q

abbrev pub opened_in : List Pair → List ℕ
opened_in Q = map (λ q. q.opened) Q

module _ {N : Network} {P W : ℕ → Bool} where
  -- what the pairs close is wanted and not live yet
  pub of_closed : {E : ℕ → Bool} {Q : List Pair} → Leads N P W E Q → (k : ℕ) → Memᴰ k (closed_in Q) → (P k ≡ false) × (W k ≡ true) × (E k ≡ false)
  of_closed (there t h) k z = absurd (Memᴰ.not-nil z)
  of_closed (next {E = E} {q = q} {Q = Q} r l) k z = go (Memᴰ.cases_cons z) (of_closed l k)
    where
      go : (k ≡ q.closed) ⊎ Memᴰ k (closed_in Q) → (Memᴰ k (closed_in Q) → (P k ≡ false) × (W k ≡ true) × (exchanged E q k ≡ false)) → (P k ≡ false) × (W k ≡ true) × (E k ≡ false)
      go (inl e) ih = rw e (r.closing.0, r.closing.1, r.fits.dead)
      go (inr y) ih =
          let (p, w, d) = ih y in
          (p, w, sym (exchanged_other E q k (λ e. clash (closing_closed r.fits) (sym (ap (exchanged E q) e) ∙ d)) (λ e. clash w (ap W e ∙ r.opening.1))) ∙ d)

  pub in_closed : {E : ℕ → Bool} {Q : List Pair} → Leads N P W E Q → (k : ℕ) → k < (feeder N).branches → W k ≡ true → E k ≡ false → Memᴰ k (closed_in Q)
  in_closed (there t h) k b w d = clash w (sym (h k b) ∙ d)
  in_closed (next {E = E} {q = q} {Q = Q} r l) k b w d = go (ℕ_discrete k q.closed) (in_closed l k b w)
    where
      go : Dec (k ≡ q.closed) → (exchanged E q k ≡ false → Memᴰ k (closed_in Q)) → Memᴰ k (closed_in (q ∷ Q))
      go (yes e) ih = Memᴰ.head e
      go (no n) ih = Memᴰ.tail (ih (exchanged_other E q k n (λ e. clash w (ap W e ∙ r.opening.1)) ∙ d))

  -- what they open is live and not wanted
  pub of_opened : {E : ℕ → Bool} {Q : List Pair} → Leads N P W E Q → (k : ℕ) → Memᴰ k (opened_in Q) → (P k ≡ true) × (W k ≡ false) × (E k ≡ true)
  of_opened (there t h) k z = absurd (Memᴰ.not-nil z)
  of_opened (next {E = E} {q = q} {Q = Q} r l) k z = go (Memᴰ.cases_cons z) (of_opened l k)
    where
      go : (k ≡ q.opened) ⊎ Memᴰ k (opened_in Q) → (Memᴰ k (opened_in Q) → (P k ≡ true) × (W k ≡ false) × (exchanged E q k ≡ true)) → (P k ≡ true) × (W k ≡ false) × (E k ≡ true)
      go (inl e) ih = rw e (r.opening.0, r.opening.1, (opened_live r.fits).1)
      go (inr y) ih =
          let (p, w, d) = ih y in
          (p, w, sym (exchanged_other E q k (λ e. clash r.closing.1 (sym (ap W e) ∙ w)) (λ e. clash d (ap (exchanged E q) e ∙ opening_opened E q))) ∙ d)

  pub in_opened : {E : ℕ → Bool} {Q : List Pair} → Leads N P W E Q → (k : ℕ) → k < (feeder N).branches → W k ≡ false → E k ≡ true → Memᴰ k (opened_in Q)
  in_opened (there t h) k b w d = clash d (h k b ∙ w)
  in_opened (next {E = E} {q = q} {Q = Q} r l) k b w d = go (ℕ_discrete k q.opened) (in_opened l k b w)
    where
      go : Dec (k ≡ q.opened) → (exchanged E q k ≡ true → Memᴰ k (opened_in Q)) → Memᴰ k (opened_in (q ∷ Q))
      go (yes e) ih = Memᴰ.head e
      go (no n) ih = Memᴰ.tail (ih (exchanged_other E q k (λ e. clash r.closing.1 (sym (ap W e) ∙ w)) n ∙ d))

-- ---- the switches that they move
module _ (N : Network) (present wanted : State) (given : Joined N present wanted) where
  abbrev P : ℕ → Bool
  P = live N present

  abbrev W : ℕ → Bool
  W = live N wanted

  -- those of one pair, and of several
  abbrev moved : Pair → List ℕ
  moved q = open_switches N present q.closed ++ open_switches N wanted q.opened

  abbrev moved_by : List Pair → List ℕ
  moved_by Q = flat_map moved Q

  moved_at : (Q : List Pair) → switches_moved N (map (moves_of N present wanted) Q) ≡ moved_by Q
  unfolding switches_moved flat_map
  moved_at [] = refl
  moved_at (q ∷ Q) = rw (open_resolved given.regular present q.closed, open_resolved given.regular wanted q.opened, moved_at Q)

  -- a switch of a branch that is closed, open in the present state, or of one that is opened, open in the wanted one
  record Closed (Q : List Pair) (i : ℕ) : Type 0 where
    on : On N (branch_of N i) i
    stands : byte present i ≡ 1
    among : Memᴰ (branch_of N i) (closed_in Q)

  record Opened (Q : List Pair) (i : ℕ) : Type 0 where
    on : On N (branch_of N i) i
    becomes : byte wanted i ≡ 1
    among : Memᴰ (branch_of N i) (opened_in Q)

  own : {k i : ℕ} → On N k i → On N (branch_of N i) i
  own o = record { listed = o.listed; here = refl }

  of_moved : (Q : List Pair) (i : ℕ) → Memᴰ i (moved_by Q) → Closed Q i ⊎ Opened Q i
  unfolding flat_map
  of_moved [] i z = absurd (Memᴰ.not-nil z)
  of_moved (q ∷ Q) i z = go (Memᴰ.append_cases (moved q) z) (of_moved Q i)
    where
      first : Memᴰ i (open_switches N present q.closed) ⊎ Memᴰ i (open_switches N wanted q.opened) → Closed (q ∷ Q) i ⊎ Opened (q ∷ Q) i
      first (inl y) = let (o, b) = of_open N present q.closed i y in inl (record { on = own o; stands = b; among = Memᴰ.head o.here })
      first (inr y) = let (o, b) = of_open N wanted q.opened i y in inr (record { on = own o; becomes = b; among = Memᴰ.head o.here })

      later : Closed Q i ⊎ Opened Q i → Closed (q ∷ Q) i ⊎ Opened (q ∷ Q) i
      later (inl c) = inl (record { on = c.on; stands = c.stands; among = Memᴰ.tail c.among })
      later (inr c) = inr (record { on = c.on; becomes = c.becomes; among = Memᴰ.tail c.among })

      go : Memᴰ i (moved q) ⊎ Memᴰ i (moved_by Q) → (Memᴰ i (moved_by Q) → Closed Q i ⊎ Opened Q i) → Closed (q ∷ Q) i ⊎ Opened (q ∷ Q) i
      go (inl y) ih = first (Memᴰ.append_cases (open_switches N present q.closed) y)
      go (inr y) ih = later (ih y)

  closed_moved : (Q : List Pair) (i : ℕ) → Closed Q i → Memᴰ i (moved_by Q)
  unfolding flat_map
  closed_moved [] i c = absurd (Memᴰ.not-nil c.among)
  closed_moved (q ∷ Q) i c = go (Memᴰ.cases_cons c.among) (closed_moved Q i)
    where
      go : (branch_of N i ≡ q.closed) ⊎ Memᴰ (branch_of N i) (closed_in Q) → (Closed Q i → Memᴰ i (moved_by Q)) → Memᴰ i (moved q ++ moved_by Q)
      go (inl e) ih = Memᴰ.append_left (moved_by Q) (Memᴰ.append_left (open_switches N wanted q.opened) (in_open N present q.closed i (record { listed = c.on.listed; here = e }) c.stands))
      go (inr y) ih = Memᴰ.append_right (moved q) (ih (record { on = c.on; stands = c.stands; among = y }))

  opened_moved : (Q : List Pair) (i : ℕ) → Opened Q i → Memᴰ i (moved_by Q)
  unfolding flat_map
  opened_moved [] i c = absurd (Memᴰ.not-nil c.among)
  opened_moved (q ∷ Q) i c = go (Memᴰ.cases_cons c.among) (opened_moved Q i)
    where
      go : (branch_of N i ≡ q.opened) ⊎ Memᴰ (branch_of N i) (opened_in Q) → (Opened Q i → Memᴰ i (moved_by Q)) → Memᴰ i (moved q ++ moved_by Q)
      go (inl e) ih = Memᴰ.append_left (moved_by Q) (Memᴰ.append_right (open_switches N present q.closed) (in_open N wanted q.opened i (record { listed = c.on.listed; here = e }) c.becomes))
      go (inr y) ih = Memᴰ.append_right (moved q) (ih (record { on = c.on; becomes = c.becomes; among = y }))

  -- the later pairs move no switch of the first
  apart : {E : ℕ → Bool} {Q : List Pair} → Leads N P W E Q → Distinct (moved_by Q)
  unfolding flat_map
  apart (there t h) = tt
  apart (next {E = E} {q = q} {Q = Q} r l) =
      distinct_both (moved q) (moved_by Q)
      (distinct_both (open_switches N present q.closed) (open_switches N wanted q.opened) (open_apart N present q.closed) (open_apart N wanted q.opened) (λ i y z.
      pair_differs r.fits (sym (of_open N present q.closed i y).0.here ∙ (of_open N wanted q.opened i z).0.here)))
      (apart l)
      (λ i y z. go i (Memᴰ.append_cases (open_switches N present q.closed) y) (of_moved Q i z))
    where
      go : (i : ℕ) → Memᴰ i (open_switches N present q.closed) ⊎ Memᴰ i (open_switches N wanted q.opened) → Closed Q i ⊎ Opened Q i → ⊥
      go i (inl y) (inl c) =
          let e = (of_open N present q.closed i y).0.here in
          clash (closing_closed r.fits) (sym (ap (exchanged E q) e) ∙ (of_closed l (branch_of N i) c.among).2)
      go i (inl y) (inr c) =
          let e = (of_open N present q.closed i y).0.here in
          clash r.closing.1 (sym (ap W e) ∙ (of_opened l (branch_of N i) c.among).1)
      go i (inr y) (inl c) =
          let e = (of_open N wanted q.opened i y).0.here in
          clash (of_closed l (branch_of N i) c.among).1 (ap W e ∙ r.opening.1)
      go i (inr y) (inr c) =
          let e = (of_open N wanted q.opened i y).0.here in
          clash (of_opened l (branch_of N i) c.among).2 (ap (exchanged E q) e ∙ opening_opened E q)

  lead : Leads N P W P (pairs N present wanted)
  lead = pairs_lead N present wanted given

  -- it differs, on a branch that is live in one of the two states only
  abbrev MustMove : ℕ → Type 0
  MustMove i = (i < size N) × (byte present i ≢ byte wanted i) × (P (branch_of N i) ≢ W (branch_of N i))

  moves_differ : (i : ℕ) → Closed (pairs N present wanted) i ⊎ Opened (pairs N present wanted) i → MustMove i
  moves_differ i (inl c) =
      let (p, w, d) = of_closed lead (branch_of N i) c.among in
      (c.on.listed, λ e. (live_so N wanted (branch_of N i) w).1 i c.on (sym e ∙ c.stands), λ e. clash w (sym e ∙ p))
  moves_differ i (inr c) =
      let (p, w, d) = of_opened lead (branch_of N i) c.among in
      (c.on.listed, λ e. (live_so N present (branch_of N i) p).1 i c.on (e ∙ c.becomes), λ e. clash p (e ∙ w))

  differ_moves : (i : ℕ) → MustMove i → Memᴰ i (moved_by (pairs N present wanted))
  differ_moves i (l, n, d) = go (which (P (branch_of N i))) (which (W (branch_of N i)))
    where
      on : On N (branch_of N i) i
      on = record { listed = l; here = refl }

      -- a byte that is not 1 where the other differs from it
      one : (a b : ℕ) → a ≢ 1 → a ≢ b → a ≤ 1 → b ≤ 1 → b ≡ 1
      one a b x y z w = omega (arith, x, y, z, w)

      go : (P (branch_of N i) ≡ true) ⊎ (P (branch_of N i) ≡ false) → (W (branch_of N i) ≡ true) ⊎ (W (branch_of N i) ≡ false) → Memᴰ i (moved_by (pairs N present wanted))
      go (inl p) (inl w) = absurd (d (p ∙ sym w))
      go (inr p) (inr w) = absurd (d (p ∙ sym w))
      go (inr p) (inl w) = closed_moved (pairs N present wanted) i (record {
        on = on;
        stands = one (byte wanted i) (byte present i) ((live_so N wanted (branch_of N i) w).1 i on) (λ e. n (sym e)) (given.wanted_good.bytes i l) (given.present_good.bytes i l);
        among = in_closed lead (branch_of N i) (given.regular.placed on) w p;
      })
      go (inl p) (inr w) = opened_moved (pairs N present wanted) i (record {
        on = on;
        becomes = one (byte present i) (byte wanted i) ((live_so N present (branch_of N i) p).1 i on) n (given.present_good.bytes i l) (given.wanted_good.bytes i l);
        among = in_opened lead (branch_of N i) (given.regular.placed on) w p;
      })

  -- what 12 tests
  locked_so : (i : ℕ) → locked_difference N present wanted i ≡ true → (byte present i ≢ byte wanted i) × (P (branch_of N i) ≢ W (branch_of N i)) × (operable N i ≡ false)
  unfolding locked_difference
  locked_so i t =
      let p = both (not (eqb (byte present i) (byte wanted i))) _ t in
      let q = both (differing N present wanted (branch_of N i)) _ p.1 in
      (λ e. clash (eq-eqb _ _ e) (not-true _ p.0), (differs N present wanted (branch_of N i)).0 q.0, not-true _ q.1)

  locked_if : (i : ℕ) → byte present i ≢ byte wanted i → P (branch_of N i) ≢ W (branch_of N i) → operable N i ≡ false → locked_difference N present wanted i ≡ true
  unfolding locked_difference
  locked_if i n d o = rw (ne_eqb (byte present i) (byte wanted i) n, (differs N present wanted (branch_of N i)).1 d, o)

  joined_once : MovesOnce N present wanted
  unfolding plan
  joined_once =
      let same = moved_at (pairs N present wanted) in
      let distinct : Distinct (switches_moved N (plan N present wanted)) = rw same (apart lead) in
      record {
        which = λ i. (λ z. moves_differ i (of_moved (pairs N present wanted) i (rw same at z)), λ m. rw same (differ_moves i m));
        once = distinct;
        few = distinct_few (size N) (switches_moved N (plan N present wanted)) distinct (λ i z. (moves_differ i (of_moved (pairs N present wanted) i (rw same at z))).0);
        refused_12 = λ i. (
          λ (l, t). let (n, d, o) = locked_so i t in (rw same (differ_moves i (l, n, d)), o),
          λ (z, o). let (l, n, d) = moves_differ i (of_moved (pairs N present wanted) i (rw same at z)) in (l, locked_if i n d o),
        );
      }

pub each_moves_once : EachMovesOnce
each_moves_once N present wanted t = joined_once N present wanted (tested_joined N present wanted t)
