-- A switch more in a round of the tabu search, as the code sees it: it is locked, or its toggle is not radial, or the toggle is a candidate.
use Rattle.std.specs.Prelude.{◌≡◌, Bool, not, ◌&&◌, ◌||◌, List, ℕ, ◌+◌, ◌≤◌, ◌<◌, eqb, Float, length, get_or, set}
use Rattle.std.proofs.Math.Path.{refl, sym, ap}
use Rattle.std.proofs.Common.{◌∙◌, ap₂, arith}
use Rattle.std.proofs.Math.Bool.{true, false, cond, and-false}
use Rattle.std.specs.Prelude.{Option, None, Some}
use Rattle.std.specs.Float.Ieee.{lt}
use Rattle.std.proofs.lemmas.Bool.{not-true, not-false}
use Rattle.network.specs.declared.topology.PowerNetwork.{PowerNetwork}
use Rattle.network.specs.declared.switch.Switch.{Switch}
use Rattle.network.specs.Inside.{Inside}
use Rattle.network.specs.Records.{Network, no_switch, records_of}
use Rattle.network.specs.ReadLaws.{past_branch}
use Rattle.network.specs.Answers.{accepted}
use Rattle.network.specs.Check.{check_records}
use Rattle.numbers.specs.Choose.{among}
use Rattle.network.specs.InsideLaws.{check_inside}
use Rattle.states.specs.Configuration.{configuration_of}
use Rattle.states.specs.Live.{live, SameLive}
use Rattle.numbers.specs.Tests.{both}
use Rattle.numbers.specs.UpTo.{up_to, up_to_more, table}
use Rattle.feeders.specs.Feeder.{radial_in}
use Rattle.feeders.specs.FeederRows.{live_flags}
use Rattle.losses.specs.Loss.{loss_in}
use Rattle.states.specs.OpenCounts.{open_count}
use Rattle.states.specs.Switches.{State, operable, size, switch, toggled}
use Rattle.tabu.specs.declared.tabu.Candidate.{Candidate}
use Rattle.tabu.specs.declared.tabu.TabuSearch.{TabuSearch}
use Rattle.searches.specs.States.{state_of}
use Rattle.searches.specs.Given.{Held}
use Rattle.states.specs.Listed.{switches_listed, few_switches}
use Rattle.searches.specs.StateLaws.{byte_at, flags_listed, state_held, held, toggled_held}
use Rattle.searches.specs.SwitchReads.{switch_is, status_read, count_read}
use Rattle.searches.specs.LiveBranches.{same_radial, same_loss}
use Rattle.searches.specs.LiveFlags.{flags_toggled}
use Rattle.searches.specs.Rounds.{lesser_by}
use Rattle.tabu.specs.Toggles.{decides, decides_open, undecided_same, toggled_radial}
use Rattle.tabu.specs.Tabu.{Move, Tabu, move_of, allowed, lesser, seeing}
use Rattle.tabu.specs.TabuValues.{as_candidate, candidate_of, lesser_candidate, seen, toggled_in, tabu_of, Stands}

-- ---- two candidates
-- "the least loss wins, the earlier on a tie"
lesser_held : (b : Option Move) (m : Move) → lesser_candidate (candidate_of b) (as_candidate m) ≡ candidate_of (lesser b m)
unfolding candidate_of lesser_by
lesser_held None m = refl
lesser_held (Some k) m = go (lt m.loss k.loss)
  where
    go : (t : Bool) → cond t (Some (as_candidate m)) (Some (as_candidate k)) ≡ candidate_of (cond t (Some m) (Some k))
    go true = refl
    go false = refl

-- one that is barred is passed over
seen_held : (y : TabuSearch) (b : Option Move) (m : Move) → seen y (candidate_of b) (as_candidate m) ≡ candidate_of (cond (not (among m.moved y.barred) || lt m.loss y.best_loss) (lesser b m) b)
seen_held y b m = go (not (among m.moved y.barred) || lt m.loss y.best_loss)
  where
    go : (t : Bool) → cond t (lesser_candidate (candidate_of b) (as_candidate m)) (candidate_of b) ≡ candidate_of (cond t (lesser b m) b)
    go true = lesser_held b m
    go false = refl

-- one switch more
pub seen_more : (N : Network) (x : Tabu) (i : ℕ) (r : Option Candidate) → r ≡ candidate_of (seeing N x (up_to (seeing N x) None i) i)
    → r ≡ candidate_of (up_to (seeing N x) None (i + 1))
seen_more N x i r e = e ∙ ap candidate_of (sym (up_to_more (seeing N x) None i))

-- ---- where the search stands
module _ (n : PowerNetwork) (y : TabuSearch) (x : Tabu) (w : Stands n y x) where
  barred_is : y.barred ≡ x.barred
  unfolding tabu_of
  barred_is = ap (λ z. z.barred) w.held_by

  pub barred_held : length y.barred ≤ 7
  barred_held = rw barred_is w.short

  module _ (ok : check_records (records_of n) ≡ accepted tt) (i : ℕ) (below : i < n.switch_count) (sw : Switch) (here : sw ≡ get_or n.switches i no_switch) where
    abbrev N : Network
    N = records_of n

    abbrev t : State
    t = toggled x.state i

    few : n.switch_count ≤ 512
    few = few_switches n ok

    inside : Inside N
    inside = (check_inside N).0 ok

    listed_switch : i < size N
    listed_switch = omega (arith, switches_listed n)

    long : length x.state ≡ n.switch_count
    long = w.from_base.good.long ∙ switches_listed n

    configuration_is : y.configuration ≡ configuration_of x.state
    unfolding tabu_of
    configuration_is = ap (λ z. z.configuration) w.held_by

    radial_is : y.radial ≡ radial_in N x.state
    unfolding tabu_of
    radial_is = ap (λ z. z.radial) w.held_by

    state_is : state_of n y.configuration ≡ x.state
    state_is = rw configuration_is (state_held n x.state long few)

    configuration_held : Held n y.configuration
    configuration_held = rw configuration_is (held n x.state long few)

    toggled_is : toggled_in y.configuration i ≡ configuration_of t
    toggled_is = toggled_held n y.configuration i below configuration_held few ∙ ap (λ s. configuration_of (toggled s i)) state_is

    own : switch N i ≡ sw
    own = switch_is n ok i below sw here

    -- what the code tells from the status of its branch and the number of open switches on it
    pub decides_read : length n.branches ≡ 512 → (counts : List ℕ) → counts ≡ table (open_count N y.configuration.switches) 512 → (on : ℕ) → on ≡ sw.branch_idx
        → ((get_or n.branches on past_branch).status && eqb (get_or counts on 0) (get_or y.configuration.switches i 0)) ≡ decides N x.state i
    unfolding decides
    decides_read sized counts e on p =
        rw (
          ← status_read n ok i below sw here sized on p,
          ← count_read n ok i below sw here y.configuration counts e on p,
          ← byte_at n y.configuration i below,
          state_is,
        )

    module _ (decided : Bool) (told : decided ≡ decides N x.state i) where
      undecided : decided ≡ false → SameLive N x.state t
      undecided f = undecided_same N inside x.state w.from_base.good i listed_switch (sym told ∙ f)

      -- ---- the best after it
      module _ (b : Option Move) (best : Option Candidate) (q : best ≡ candidate_of b) where
        abbrev Best : Option Candidate → Type 0
        Best r = r ≡ candidate_of (seeing N x b i)

        see_locked : sw.can_operate ≡ false → Best best
        unfolding allowed
        see_locked f =
            let locked : operable N i ≡ false = ap (λ v. v.can_operate) own ∙ f in
            rw locked q

        pub see_not_radial : radial_in N t ≡ false → Best best
        unfolding allowed
        see_not_radial f = rw (f, and-false) q

        -- from a radial state
        pub see_decided : y.radial ≡ true → (sw.can_operate && not decided) ≡ false → Best best
        see_decided r f = go sw.can_operate refl f
          where
            kept : decided ≡ true → Best best
            kept e = see_not_radial (toggled_radial N inside x.state w.from_base.good i listed_switch (sym radial_is ∙ r) ∙ ap not (sym told ∙ e))

            go : (can : Bool) → sw.can_operate ≡ can → (can && not decided) ≡ false → Best best
            go true o f = kept (not-false decided f)
            go false o f = see_locked o

        -- from another
        pub see_undecided : y.radial ≡ false → (sw.can_operate && decided) ≡ false → Best best
        see_undecided r f = go sw.can_operate refl f
          where
            go : (can : Bool) → sw.can_operate ≡ can → (can && decided) ≡ false → Best best
            go true o f = see_not_radial (sym (same_radial N x.state t (undecided f)) ∙ sym radial_is ∙ r)
            go false o f = see_locked o

        -- ---- the toggle is a candidate
        module _ (r : Option Candidate) where
          abbrev After : Float → Type 0
          After loss = r ≡ seen y best (record { configuration = toggled_in y.configuration i; loss = loss; moved = sw.id })

          see_move : sw.can_operate ≡ true → (loss : Float) → radial_in N t ≡ true → loss ≡ loss_in N t → After loss → Best r
          unfolding allowed tabu_of
          see_move o loss v e h =
              let can : operable N i ≡ true = ap (λ u. u.can_operate) own ∙ o in
              let best-is : y.best_loss ≡ x.best_loss = ap (λ z. z.best_loss) w.held_by in
              let held : record { configuration = toggled_in y.configuration i; loss = loss; moved = sw.id } ≡ as_candidate (move_of N x i) = rw (toggled_is, e, own) in
              h ∙ ap₂ (seen y) q held ∙ seen_held y b (move_of N x i) ∙ rw (barred_is, best-is, can, v)

          -- from a radial state, where no branch becomes live or dead
          pub see_idle : y.radial ≡ true → (sw.can_operate && not decided) ≡ true → After y.loss → Best r
          unfolding tabu_of
          see_idle v f =
              let p = both sw.can_operate (not decided) f in
              let same = undecided (not-true decided p.1) in
              see_move p.0 y.loss (sym (same_radial N x.state t same) ∙ sym radial_is ∙ v) (ap (λ z. z.loss) w.held_by ∙ same_loss N x.state t same)

          -- from another, where it is radial
          pub see_turning : (sw.can_operate && decided) ≡ true → radial_in N t ≡ true → (loss : Float) → loss ≡ loss_in N t → After loss → Best r
          see_turning f v loss d = see_move (both sw.can_operate decided f).0 loss v d

      -- the live branches after the toggle of a switch that decides
      pub toggled_flags : (sw.can_operate && decided) ≡ true → (flags : List Bool) → flags ≡ table (live N y.configuration.switches) 512 → (on : ℕ) → on ≡ sw.branch_idx
          → set flags on (eqb (get_or y.configuration.switches i 0) 1) ≡ live_flags N t
      toggled_flags f flags e on p =
          rw (
            e,
            flags_listed n y.configuration configuration_held few,
            ← byte_at n y.configuration i below,
            state_is,
            p,
            ← own,
            ← decides_open N inside x.state w.from_base.good i listed_switch (sym told ∙ (both sw.can_operate decided f).1),
          )
          (flags_toggled N inside x.state w.from_base.good.long i listed_switch)
