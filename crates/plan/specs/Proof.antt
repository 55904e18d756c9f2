-- Demand 3 for every network and states that the planner accepts: each part from the state with the first `done` pairs carried out.
use Rattle.std.specs.Prelude.{◌≡◌, ◌↔◌, Bool, false, length, drop, replicate}
use Rattle.std.proofs.Math.Path.{refl, sym, ap}
use Rattle.std.proofs.Common.{◌∙◌, length-drop}
use mathlib.Core.List.Memᴰ
use mathlib.Core.List.{List, [], ◌∷◌, ◌++◌, map}
use Rattle.std.proofs.Math.Option.{Option, none, some, some-ne-none}
use Prim.Native.Nat.{ℕ, zero, suc, ◌+◌, ◌≤◌, ◌<◌}
use native.Mathlib.Omega.{arith}
use Rattle.std.proofs.Math.ListN.{get_elem?, length-map}
use Rattle.std.proofs.Math.Seq.{drop-length}
use Rattle.numbers.specs.Tests.{clash, not_so, same_test}
use Rattle.network.specs.Records.{Network}
use Rattle.states.specs.Live.{live, SameLive}
use Rattle.states.specs.Switches.{State, byte, branch_of, in_service}
use Rattle.feeders.specs.Feeder.{feeder}
use Rattle.plan.specs.Plan.{Pair, pairs, Moves, moves_of, plan}
use Rattle.plan.specs.Claim.{turned, turned_if, Step, forward, back, found, Point, closes_at, opens_at, after_closing, carried_out, taken, run, after, SwitchingPlan, Demand3}
use Rattle.states.specs.LiveBytes.{live_so, live_listed}
use Rattle.plan.specs.Plannable.{Regular, Plannable}
use Rattle.plan.specs.Moved.{Shows}
use Rattle.plan.specs.Sets.{all_out}
use Rattle.plan.specs.Due.{Due, shows_tree, pair_two, pair_exchanges, pair_on_loop}
use Rattle.plan.specs.Missing.{missing, missing_same, missing_none, others_missing}
use Rattle.plan.specs.Stages.{Leads, there, leads_tree, leads_missing, stage, stage_byte, Holds, leads_at, At, run_at, found_due}
use Rattle.plan.specs.Accepted.{accepted_plannable}
use Rattle.plan.specs.Planner.{pairs_lead}

-- below its length a list has an element, at its length none
none_at : {A : Type 0} (l : List A) (n : ℕ) → n ≤ length l → (get_elem? l n ≡ none) ↔ (n ≡ length l)
none_at [] n h = (λ e. omega arith, λ e. refl)
none_at (a ∷ l) zero h = (λ e. absurd (some-ne-none a e), λ e. absurd (omega arith))
none_at (a ∷ l) (suc n) h = let r = none_at l n (omega arith) in (λ e. ap suc (r.0 e), λ e. r.1 (omega arith))

run_more : (N : Network) (P : List Moves) (xs : List Step) (x : Step) (p : Point) → run N P (xs ++ (x ∷ [])) p ≡ taken N x (run N P xs p) (found P x (run N P xs p).done)
unfolding run
run_more N P [] x p = refl
run_more N P (y ∷ xs) x p = run_more N P xs x _

-- forward, as often as there are pairs left, finds one each time
run_forward : (N : Network) (P : List Moves) (n : ℕ) (p : Point) → n + p.done ≤ length P → (run N P (replicate n forward) p).done ≡ n + p.done
unfolding run found
run_forward N P zero p h = omega arith
run_forward N P (suc n) p h = go (get_elem? P p.done) refl (λ q l. run_forward N P n q l)
  where
    go : (o : Option Moves) → get_elem? P p.done ≡ o → ((q : Point) → n + q.done ≤ length P → (run N P (replicate n forward) q).done ≡ n + q.done)
        → (run N P (replicate n forward) (taken N forward p o)).done ≡ suc n + p.done
    go none e ih = absurd (omega (arith, (none_at P p.done (omega arith)).0 e))
    go (some m) e ih = unfold taken in ih (record { state = carried_out N m p.state; done = suc p.done }) (omega arith) ∙ omega arith

-- the same listed branches are live: then the same branches are
pub same_live : (N : Network) (s t : State) → ((k : ℕ) → k < (feeder N).branches → live N s k ≡ live N t k) → SameLive N s t
unfolding feeder
same_live N s t h k = same_test _ _ (λ e. sym (h k (live_listed N s k e)) ∙ e) (λ e. h k (live_listed N t k e) ∙ e)

-- a branch that is out of service is not live
out_of_service_lem : (N : Network) (s : State) (k : ℕ) → in_service N k ≡ false → live N s k ≡ false
out_of_service_lem N s k e = not_so _ (λ h. clash (live_so N s k h).0 e)

module _ (N : Network) (present wanted : State) (given : Plannable N present wanted) where
  abbrev Q : List Pair
  Q = pairs N present wanted

  abbrev P : List Moves
  P = plan N present wanted

  regular : Regular N
  regular = given.joined.regular

  lead : Leads N (live N present) (live N wanted) (live N present) Q
  lead = pairs_lead N present wanted given.joined

  start : Holds N present wanted given present (live N present)
  start = record { shows = record { good = given.joined.present_good; flags = λ k. refl }; kept = λ i x. refl }

  as_many : length P ≡ length Q
  unfolding plan
  as_many = length-map Q (moves_of N present wanted)

  at : (xs : List Step) → At N present wanted given present Q (after N present wanted xs)
  unfolding after plan stage
  at xs = run_at N present wanted given lead start xs _ (record { low = omega arith; here = refl })

  -- what stands after the steps xs
  reach : (xs : List Step) → (D : ℕ → Bool) × Leads N (live N present) (live N wanted) D (drop (after N present wanted xs).done Q) × Shows N (after N present wanted xs).state D
  reach xs = rw (at xs).here (leads_at N present wanted given lead start (after N present wanted xs).done (at xs).low)

  -- as many branches are missing as pairs are left
  left : (xs : List Step) → missing (feeder N) (live N wanted) (live N (after N present wanted xs).state) + (after N present wanted xs).done ≡ length P
  left xs =
      let (D, l, s) = reach xs in
      omega (arith, missing_same (feeder N) (live N wanted) (live N (after N present wanted xs).state) D (λ k b. s.flags k), leads_missing l, length-drop (after N present wanted xs).done Q, (at xs).low, as_many)

  -- equally many pairs done: the same state
  same_state : (xs ys : List Step) → (after N present wanted xs).done ≡ (after N present wanted ys).done → (after N present wanted xs).state ≡ (after N present wanted ys).state
  same_state xs ys e = (at xs).here ∙ ap (stage N present (map (moves_of N present wanted) Q)) e ∙ sym (at ys).here

  due : (xs : List Step) (x : Step) (m : Moves) → found P x (after N present wanted xs).done ≡ some m → Due N (after N present wanted xs).state m
  unfolding plan
  due xs x m e = found_due N present wanted given lead start x (after N present wanted xs) (at xs) m e

  final : {D : ℕ → Bool} → Leads N (live N present) (live N wanted) D [] → (k : ℕ) → k < (feeder N).branches → D k ≡ live N wanted k
  final (there t h) = h

  arrives : (xs : List Step) → (after N present wanted xs).done ≡ length P → SameLive N (after N present wanted xs).state wanted
  arrives xs e =
      let (D, l, s) = reach xs in
      same_live N _ wanted (λ k b. s.flags k ∙ final (rw (e ∙ as_many, drop-length Q) at l) k b)

  keeps : (xs : List Step) (i : ℕ) → live N present (branch_of N i) ≡ live N wanted (branch_of N i) → byte (after N present wanted xs).state i ≡ byte present i
  keeps xs i e = ap (λ s. byte s i) (at xs).here ∙ stage_byte N present wanted given lead start (after N present wanted xs).done i e

  back_finds : (d : ℕ) → d ≤ length P → (found P back d ≡ none) ↔ (d ≡ 0)
  unfolding found
  back_finds zero l = (λ e. refl, λ e. refl)
  back_finds (suc n) l = (λ e. go (get_elem? P n) refl e, λ e. absurd (omega arith))
    where
      go : (o : Option Moves) → get_elem? P n ≡ o → turned_if o ≡ none → suc n ≡ 0
      go none e g = absurd (omega (arith, (none_at P n (omega arith)).0 e))
      go (some m) e g = absurd (some-ne-none (turned m) g)

  low : (xs : List Step) → (after N present wanted xs).done ≤ length P
  low xs = omega (arith, (at xs).low, as_many)

  pub plannable_plan : SwitchingPlan N present wanted
  unfolding found
  plannable_plan = record {
    same = λ xs ys. (
      λ h. omega (arith, left xs, left ys, missing_same (feeder N) (live N wanted) _ _ (λ k b. h k)),
      λ e k. ap (λ s. live N s k) (same_state xs ys e),
    );
    radial = λ xs. let (D, l, s) = reach xs in shows_tree s (leads_tree l);
    good = λ xs. let (D, l, s) = reach xs in s.good;
    moves = λ xs x m e. unfold after in run_more N P xs x _ ∙ unfold taken in ap (taken N x (after N present wanted xs)) e;
    two_branches = λ xs x m e. pair_two regular.ends (due xs x m e);
    exchanges = λ xs x m e. pair_exchanges regular.ends (due xs x m e);
    on_loop = λ xs x m e. pair_on_loop regular.ends (due xs x m e);
    operable_only = λ xs x m e. (due xs x m e).free;
    others_stay = λ xs x m e i n. unfold carried_out after_closing in
        all_out _ (opens_at N m) 1 i (λ z. n (Memᴰ.append_right (closes_at N m) z)) ∙ all_out _ (closes_at N m) 0 i (λ z. n (Memᴰ.append_left (opens_at N m) z));
    untouched = keeps;
    as_found = λ xs i o. keeps xs i (out_of_service_lem N present (branch_of N i) o ∙ sym (out_of_service_lem N wanted (branch_of N i) o));
    all_done = arrives;
    none_done = λ xs e k. unfold after run in ap (λ s. live N s k) (same_state xs [] e);
    forward_counts = λ n l. unfold after in run_forward N P n (record { state = present; done = 0 }) (omega arith) ∙ omega arith;
    at_most_all = low;
    forward_none = λ xs. none_at P (after N present wanted xs).done (low xs);
    back_none = λ xs. back_finds (after N present wanted xs).done (low xs);
    stays = λ xs x e. unfold after in run_more N P xs x _ ∙ unfold taken in ap (taken N x (after N present wanted xs)) e;
    shortest = λ qs h. omega (arith, as_many, leads_missing lead, others_missing N (live N wanted) qs present, missing_none (feeder N) (live N wanted) _ (λ k b. h k));
  }

pub demand3 : Demand3
demand3 N present wanted e = plannable_plan N present wanted (accepted_plannable N present wanted e)
