-- Point 4 for every network and states that the planner accepts: each part from the plan's pairs, which lead from the present state to the wanted branches.
use Rattle.std.specs.Prelude.{◌≡◌, ◌⊎◌, ℕ, ◌+◌, ◌-◌, ◌≤◌, length, take, drop, replicate}
use Rattle.std.proofs.Math.Path.{refl, sym, ap}
use Rattle.std.proofs.Common.{◌∙◌, inl, inr, arith, length-drop, take-append-drop, take_at, take-add, length-take-le}
use mathlib.Core.List.{List, ◌++◌}
use Rattle.std.proofs.Math.Seq.{take-length}
use Rattle.network.specs.Records.{Network}
use Rattle.states.specs.Live.{live, SameLive}
use Rattle.states.specs.Switches.{State}
use Rattle.printing.specs.declared.writer.SwitchOperation.{SwitchOperation}
use Rattle.graph.specs.Graph.{Tree}
use Rattle.feeders.specs.Feeder.{feeder, LiveIn}
use Rattle.plan.specs.Plan.{pairs, Moves, plan}
use Rattle.plan.specs.Claim.{OnLoop, closed_by, opened_by, forward, reached, after}
use Rattle.plan.specs.Plannable.{Plannable}
use Rattle.plan.specs.Due.{Due, pair_on_loop}
use Rattle.plan.specs.Stages.{Leads, stage, Holds, due_at, run_at}
use Rattle.plan.specs.Accepted.{accepted_plannable}
use Rattle.plan.specs.Planner.{pairs_lead}
use Rattle.plan.specs.Proof.{plannable_plan}
use Rattle.resumption.specs.SingleMoves.{single_moves, moved_all, going_back}
use Rattle.resumption.specs.Claim.{moves_before, Between, moves, state_at, Resumable, Point4}
use Rattle.resumption.specs.MoveLaws.{back_append, length_back, moved_append, moved_next, all_good, moved_byte, moved_other, AllMovable, movable_split, movable_at, undone_all}
use Rattle.resumption.specs.PairMoves.{stage_moved, before_moved, between_moved, leads_movable, leads_told}

module _ (N : Network) (present wanted : State) (given : Plannable N present wanted) where
  abbrev P : List Moves
  P = plan N present wanted

  abbrev M : List SwitchOperation
  M = moves N present wanted

  lead : Leads N (live N present) (live N wanted) (live N present) (pairs N present wanted)
  lead = pairs_lead N present wanted given.joined

  start : Holds N present wanted given present (live N present)
  start = record { shows = record { good = given.joined.present_good; flags = λ k. refl }; kept = λ i e. refl }

  movable : AllMovable N M present
  unfolding plan
  movable = leads_movable given lead start

  whole : (j : ℕ) → moved_all N (drop j M) (state_at N present wanted j) ≡ moved_all N M present
  whole j = sym (moved_append N (take j M) (drop j M) present) ∙ ap (λ (l : List SwitchOperation). moved_all N l present) (take-append-drop j M)

  done_movable : (j : ℕ) → AllMovable N (take j M) present
  done_movable j = (movable_split N (take j M) (drop j M) present (rw (take-append-drop j M) movable)).0

  -- of j moves the last i are undone
  some_back : (i j : ℕ) → i ≤ j → j ≤ length M → moved_all N (take i (going_back (take j M))) (state_at N present wanted j) ≡ state_at N present wanted (j - i)
  some_back i j h l =
      let first = take (j - i) M in
      let last = take i (drop (j - i) M) in
      let e : j ≡ j - i + i = omega arith in
      let parts : take j M ≡ first ++ last = ap (λ (k : ℕ). take k M) e ∙ take-add (j - i) i M in
      let long : length (going_back last) ≡ i = length_back last ∙ length-take-le i (drop (j - i) M) (rw length-drop (omega arith)) in
      let could = (movable_split N first last present (rw (← parts) (done_movable j))).1 in
      rw (parts, back_append first last, take_at (going_back last) (going_back first) i long, moved_append N first last present) (undone_all N last (moved_all N first present) could)

  on_loop : (j : ℕ) (b : Between P j) → Due N (stage N present P b.before) b.pair
      → OnLoop N (state_at N present wanted (moves_before P b.before)) (state_at N present wanted j) (closed_by N present wanted b.pair) (opened_by N present wanted b.pair)
  on_loop j b d =
      rw (before_moved N P b.before present, b.count, between_moved N P b.before present b.pair b.next)
      (pair_on_loop given.joined.regular.ends d)

  reached_stage : (n : ℕ) → n ≤ length P → reached N present wanted (replicate n forward) ≡ stage N present P n
  unfolding after plan stage
  reached_stage n l =
      (run_at N present wanted given lead start (replicate n forward) (record { state = present; done = 0 }) (record { low = omega arith; here = refl })).here
      ∙ ap (stage N present P) ((plannable_plan N present wanted given).forward_counts n l)

  -- all moves made: all pairs are done
  all_made : moved_all N M present ≡ reached N present wanted (replicate (length P) forward)
  all_made =
      ap (λ (l : List Moves). moved_all N (single_moves l) present) (sym (take-length P))
      ∙ stage_moved N P (length P) present ∙ sym (reached_stage (length P) (omega arith))

  finished : (j : ℕ) → SameLive N (moved_all N (drop j M) (state_at N present wanted j)) wanted
  finished j k =
      let steps = plannable_plan N present wanted given in
      ap (λ (s : State). live N s k) (whole j ∙ all_made) ∙ steps.all_done (replicate (length P) forward) (steps.forward_counts (length P) (omega arith)) k

  pub plannable_resumable : Resumable N present wanted
  unfolding plan
  plannable_resumable = record {
    finishing = λ j l. finished j;
    going_back_lem = λ j l. undone_all N (take j M) present (done_movable j);
    going_back_live = λ j l k. ap (λ (s : State). live N s k) (undone_all N (take j M) present (done_movable j));
    further = λ i j. sym (moved_append N (take j M) (take i (drop j M)) present) ∙ ap (λ (l : List SwitchOperation). moved_all N l present) (sym (take-add j i M));
    fewer = some_back;
    between = λ j b. on_loop j b (due_at N present wanted given lead start b.before b.pair b.next).2;
    elsewhere = λ j l n. radial j n (leads_told given lead start j l);
    movable = movable_at N M present movable;
    sets = λ j o e.
        let g = all_good N (take j M) present given.joined.present_good in
        rw (moved_next N M j o e present) (moved_byte N o (state_at N present wanted j) g (movable_at N M present movable j o e).listed);
    others_stay = λ j o e i n. rw (moved_next N M j o e present) (moved_other N o (state_at N present wanted j) i n);
    good = λ j. all_good N (take j M) present given.joined.present_good;
    stopping_points = λ n l. before_moved N P n present ∙ sym (reached_stage n l);
  }
    where
      radial : (j : ℕ) → ¬ Between P j → Between P j ⊎ Tree (feeder N) (LiveIn N (state_at N present wanted j)) → Tree (feeder N) (LiveIn N (state_at N present wanted j))
      radial j n (inl b) = absurd (n b)
      radial j n (inr t) = t

pub point4 : Point4
point4 N present wanted e = plannable_resumable N present wanted (accepted_plannable N present wanted e)
