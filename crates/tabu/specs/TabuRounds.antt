-- The rounds of the tabu search: where the code stands, the rounds that are left lead to the definition's answer.
use Rattle.std.specs.Prelude.{◌≡◌, refl, Bool, true, false, cond, [], ◌∷◌, ◌++◌, ℕ, ◌+◌, ◌≤◌, ◌<◌, Float, length}
use Rattle.std.proofs.Common.{sym, ◌∙◌, add-one}
use Rattle.std.specs.Prelude.{Option, None, Some}
use native.Mathlib.Omega.{arith}
use Rattle.std.specs.Float.Ieee.{lt}
use Rattle.states.specs.declared.configuration.NetworkConfiguration.{NetworkConfiguration}
use Rattle.network.specs.declared.topology.PowerNetwork.{PowerNetwork}
use Rattle.network.specs.Records.{Network, records_of}
use Rattle.states.specs.Configuration.{configuration_of}
use Rattle.states.specs.Live.{base_state}
use Rattle.feeders.specs.Feeder.{radial_in}
use Rattle.states.specs.Switches.{State}
use Rattle.tabu.specs.declared.tabu.Candidate.{Candidate}
use Rattle.tabu.specs.declared.tabu.TabuSearch.{TabuSearch}
use Rattle.searches.specs.Given.{Base}
use Rattle.searches.specs.FromBase.{FromBase, from_base, toggled_from_base}
use Rattle.numbers.specs.IfSome.{IfSome}
use Rattle.searches.specs.RoundLaws.{until_keeps, Left, left_all, held_ended, held_none, held_less}
use Rattle.tabu.specs.Tabu.{Move, Tabu, best_move, last_seven, after_move, next, tabu_start, tabu}
use Rattle.tabu.specs.TabuLaws.{MoveFrom, best_move_moves}
use Rattle.tabu.specs.TabuValues.{as_candidate, candidate_of, tabu_of, Stands}
use Rattle.tabu.specs.TabuListLaws.{seven_short}

-- ---- a round
choice_held : (b : Bool) (s t : State) → cond b (configuration_of s) (configuration_of t) ≡ configuration_of (cond b s t)
choice_held true s t = refl
choice_held false s t = refl

module _ (N : Network) (x : Tabu) (found : Option Move) (y : TabuSearch) (step : Option Candidate) (e : y ≡ tabu_of N x) (q : step ≡ candidate_of found) where
  -- "No candidate ends it"
  abbrev stopped : TabuSearch
  stopped = record { configuration = y.configuration; radial = y.radial; loss = y.loss; best = y.best; best_loss = y.best_loss; barred = y.barred; ended = true }

  pub after_none : step ≡ None → stopped ≡ tabu_of N (after_move x found)
  unfolding tabu_of after_move candidate_of
  after_none f = go found q
    where
      go : (found : Option Move) → step ≡ candidate_of found → stopped ≡ tabu_of N (after_move x found)
      go None q = rw e
      go (Some m) q = absurd (let no : None ≡ Some (as_candidate m) = sym f ∙ q in cc)

  module _ (w : IfSome (MoveFrom N x.state) found) (s : Candidate) (f : step ≡ Some s) where
    -- the state after the move, with an answer and its loss
    abbrev moved : NetworkConfiguration → Float → TabuSearch
    moved best loss =
        record { configuration = s.configuration; radial = true; loss = s.loss; best = best; best_loss = loss; barred = last_seven (y.barred ++ (s.moved ∷ [])); ended = false }

    chosen : (b : Bool) → lt s.loss y.best_loss ≡ b → moved (cond b s.configuration y.best) (cond b s.loss y.best_loss) ≡ tabu_of N (after_move x found)
    unfolding tabu_of after_move candidate_of
    chosen b t = go found q w
      where
        go : (found : Option Move) → step ≡ candidate_of found → IfSome (MoveFrom N x.state) found
            → moved (cond b s.configuration y.best) (cond b s.loss y.best_loss) ≡ tabu_of N (after_move x found)
        go None q w = absurd (let no : None ≡ Some s = sym q ∙ f in cc)
        go (Some m) q w =
            let is : Some s ≡ Some (as_candidate m) = sym f ∙ q in
            let same : s ≡ as_candidate m = cc in
            let t' : lt m.loss x.best_loss ≡ b = rw (same, e) at t in
            rw (same, e, w.toggle.radial, ← w.loses, t', choice_held b m.state x.best)

    pub after_better : lt s.loss y.best_loss ≡ true → moved s.configuration s.loss ≡ tabu_of N (after_move x found)
    after_better = chosen true

    pub after_worse : lt s.loss y.best_loss ≡ false → moved y.best y.best_loss ≡ tabu_of N (after_move x found)
    after_worse = chosen false

-- ---- what a round keeps
module _ (N : Network) (x : Tabu) where
  keeps : FromBase N x.state → length x.barred ≤ 7 → (found : Option Move) → IfSome (MoveFrom N x.state) found → FromBase N (after_move x found).state × (length (after_move x found).barred ≤ 7)
  unfolding after_move
  keeps h s None w = (h, s)
  keeps h s (Some m) w = (rw w.toggle.result (toggled_from_base N x.state h w.toggle.moved w.toggle.operates), seven_short _)

-- "The last 7 moved ids are barred": at most 7 are, however many rounds there are
pub seven_barred : (N : Network) → length (tabu N).barred ≤ 7
unfolding tabu
seven_barred N = (until_keeps (λ x. x.ended) (next N) (λ x. FromBase N x.state × (length x.barred ≤ 7)) (λ x e h. keeps N x h.0 h.1 (best_move N x) (best_move_moves N x)) N.iterations (tabu_start N) (from_base N, omega arith)).1

-- ---- the base
pub base_held : (n : PowerNetwork) (c : NetworkConfiguration) (radial : Bool) (loss : Float) → Base n c loss → radial ≡ radial_in (records_of n) (base_state (records_of n))
    → record { configuration = c; radial = radial; loss = loss; best = c; best_loss = loss; barred = []; ended = false } ≡ tabu_of (records_of n) (tabu_start (records_of n))
unfolding tabu_of
base_held n c radial loss b r = rw (r, b.0, b.1)

ended_held : (N : Network) (x : Tabu) → (tabu_of N x).ended ≡ x.ended
unfolding tabu_of
ended_held N x = refl

-- ---- after k rounds the code's y is where the search stands, and those that are left lead to the definition's answer
pub record Standing (n : PowerNetwork) (k : ℕ) (y : TabuSearch) : Type 0 where
  pub at : Tabu
  pub stands : Stands n y at
  pub left : Left (λ (x : Tabu). x.ended) (next (records_of n)) n.max_iterations (tabu (records_of n)) k at

module _ (n : PowerNetwork) (y : TabuSearch) where
  pub standing_base : y ≡ tabu_of (records_of n) (tabu_start (records_of n)) → Standing n 0 y
  unfolding tabu records_of
  standing_base e =
      record {
        at = tabu_start (records_of n);
        stands = record { held_by = e; from_base = from_base (records_of n); short = omega arith };
        left = left_all _ _ _ _ (tabu_start (records_of n)) refl;
      }

  module _ (k : ℕ) (w : Standing n k y) where
    pub standing_ended : y.ended ≡ true → y ≡ tabu_of (records_of n) (tabu (records_of n))
    standing_ended e = held_ended _ _ _ _ k w.at w.left (tabu_of (records_of n)) (λ z. z.ended) (ended_held (records_of n)) y w.stands.held_by e

    pub standing_done : (k < n.max_iterations → ⊥) → y ≡ tabu_of (records_of n) (tabu (records_of n))
    standing_done d = held_none _ _ _ _ k w.at w.left (tabu_of (records_of n)) (λ z. z.ended) (ended_held (records_of n)) y w.stands.held_by (omega arith)

    pub standing_next : k < n.max_iterations → y.ended ≡ false → (step : Option Candidate) → ((x : Tabu) → Stands n y x → step ≡ candidate_of (best_move (records_of n) x)) → (r : TabuSearch)
        → ((N : Network) (x : Tabu) (found : Option Move) → y ≡ tabu_of N x → IfSome (MoveFrom N x.state) found → step ≡ candidate_of found → r ≡ tabu_of N (after_move x found))
        → Standing n (k + 1) r
    standing_next more e step s r h =
        let N = records_of n in
        let x = w.at in
        let moves = best_move_moves N x in
        let kept = keeps N x w.stands.from_base w.stands.short (best_move N x) moves in
        record {
          at = next N x;
          stands = record { held_by = h N x (best_move N x) w.stands.held_by moves (s x w.stands); from_base = kept.0; short = kept.1 };
          left = rw (add-one k) (held_less _ _ _ _ k x w.left (tabu_of N) (λ z. z.ended) (ended_held N) y w.stands.held_by more e);
        }
