-- What the planner's acceptance means: a network inside the limits, good states, both radial, and operable switches where they must move.
-- From the law of the record check, from that of radiality, and from what the tests of refusals 10 to 12 look at.
use Rattle.std.specs.Prelude.{◌≡◌, refl, ◌⊎◌, ◌↔◌, ◌≢◌, Bool, ◌&&◌, ◌||◌, ℕ, ◌<◌, eqb}
use Rattle.std.proofs.Common.{inl, inr, eq-eqb, ne_eqb}
use Rattle.std.proofs.Math.Bool.{true, false, not, true≢false, false≢true}
use mathlib.Core.List.Memᴰ
use mathlib.Core.List.{List, [], ◌∷◌, cons≢nil}
use Rattle.std.proofs.Math.ListN.{length}
use Rattle.std.proofs.lemmas.Bool.{not-true}
use Rattle.numbers.specs.Choose.{those}
use Rattle.numbers.specs.ChooseLaws.{in_those, of_those}
use Rattle.numbers.specs.Tests.{both, which, clash}
use Rattle.network.specs.Records.{Network, no_switch}
use Rattle.network.specs.Answers.{accepted}
use Rattle.network.specs.Check.{check_records}
use Rattle.network.specs.Limits.{switch_id}
use Rattle.network.specs.AnswerLaws.{then_iff, no_refusal}
use Rattle.network.specs.InsideLaws.{check_inside}
use Rattle.network.specs.Positions.{on_a_branch, index_own}
use Rattle.network.specs.Inside.{Inside}
use Rattle.states.specs.Live.{live}
use Rattle.states.specs.Listed.{state_accepted}
use Rattle.states.specs.Switches.{State, byte, branch_of, operable, GoodState}
use Rattle.feeders.specs.Feeder.{feeder, radial_in}
use Rattle.feeders.specs.FeederLaws.{feeder_sound, feeder_small, radial_in_tree}
use Rattle.feeders.specs.StateCallLaws.{radial_accepted}
use Rattle.feeders.specs.Supply.{check_network}
use Rattle.feeders.specs.SupplyLaws.{network_records}
use Rattle.changes.specs.Change.{differing, locked_difference, locked_differences, check_locked, refuse_locked, check_plan}
use Rattle.plan.specs.Claim.{Tested}
use Rattle.plan.specs.Plannable.{Regular, Free, Joined, Plannable}

module _ (N : Network) (inside : Inside N) where
  inside_regular : Regular N
  inside_regular = record {
    ends = feeder_sound N inside;
    few = feeder_small N inside;
    placed = λ o. unfold feeder in rw o.here at (on_a_branch N inside _ o.listed);
    resolved = λ i l. index_own switch_id N.switches inside.switch_ids i no_switch l;
  }

module _ (N : Network) where
  module _ (present wanted : State) where
    abbrev locked : ℕ → Bool
    locked = locked_difference N present wanted

    pub differs : (k : ℕ) → (differing N present wanted k ≡ true) ↔ (live N present k ≢ live N wanted k)
    unfolding differing
    differs k = go (live N present k) (live N wanted k)
      where
        go : (a b : Bool) → (((a && not b) || (b && not a)) ≡ true) ↔ (a ≢ b)
        go true true = (λ e. absurd (false≢true e), λ n. absurd (n refl))
        go true false = (λ e. true≢false, λ n. refl)
        go false true = (λ e. false≢true, λ n. refl)
        go false false = (λ e. absurd (false≢true e), λ n. absurd (n refl))

    none_locked : (l : List ℕ) → (refuse_locked N l ≡ accepted tt) ↔ (l ≡ [])
    none_locked [] = (λ e. refl, λ e. refl)
    none_locked (i ∷ l) = (λ e. no_refusal e, λ e. absurd (cons≢nil e))

    locked_accepted : (check_locked N present wanted ≡ accepted tt) ↔ Free N present wanted
    unfolding check_locked locked_differences locked_difference
    locked_accepted = (λ e i l n d. fore ((none_locked _).0 e) i l n d (which (operable N i)), λ h. (none_locked _).1 (back h _ refl))
      where
        fore : those locked (length N.switches) ≡ [] → (i : ℕ) → i < length N.switches → byte present i ≢ byte wanted i → live N present (branch_of N i) ≢ live N wanted (branch_of N i)
            → (operable N i ≡ true) ⊎ (operable N i ≡ false) → operable N i ≡ true
        fore e i l n d (inl o) = o
        fore e i l n d (inr o) =
            absurd (Memᴰ.not-nil (rw e at (in_those locked (length N.switches) i l (rw (ne_eqb (byte present i) (byte wanted i) n, (differs (branch_of N i)).1 d, o)))))

        back : Free N present wanted → (l : List ℕ) → those locked (length N.switches) ≡ l → l ≡ []
        back h [] e = refl
        back h (i ∷ l) e =
            let (b, t) = of_those locked (length N.switches) i (rw e (Memᴰ.head refl)) in
            let p = both (not (eqb (byte present i) (byte wanted i))) _ t in
            let q = both (differing N present wanted (branch_of N i)) _ p.1 in
            clash (h i b (λ z. clash (eq-eqb _ _ z) (not-true _ p.0)) ((differs (branch_of N i)).0 q.0)) (not-true _ q.1)

    -- the planner accepts exactly where its conditions hold, one after the other
    pub plan_accepted : (check_plan N present wanted ≡ accepted tt)
        ↔ ((check_network N ≡ accepted tt) × GoodState N present × GoodState N wanted × (radial_in N present ≡ true) × (radial_in N wanted ≡ true) × Free N present wanted)
    unfolding check_plan
    plan_accepted = (
      λ e.
          let (n, e₁) = (then_iff _ _).0 e in
          let (p, e₂) = (then_iff _ _).0 e₁ in
          let (w, e₃) = (then_iff _ _).0 e₂ in
          let (r, e₄) = (then_iff _ _).0 e₃ in
          let (v, e₅) = (then_iff _ _).0 e₄ in
          (n, (state_accepted N present 0).0 p, (state_accepted N wanted 1).0 w, (radial_accepted N present 0).0 r, (radial_accepted N wanted 1).0 v, locked_accepted.0 e₅),
      λ (n, p, w, r, v, f).
          (then_iff _ _).1 (
            n,
            (then_iff _ _).1 (
              (state_accepted N present 0).1 p,
              (then_iff _ _).1 (
                (state_accepted N wanted 1).1 w,
                (then_iff _ _).1 ((radial_accepted N present 0).1 r, (then_iff _ _).1 ((radial_accepted N wanted 1).1 v, locked_accepted.1 f)),
              ),
            ),
          ),
    )

-- states that have passed 11 are joined by pairs
radial_joined : (N : Network) (present wanted : State) → check_records N ≡ accepted tt → GoodState N present → GoodState N wanted → radial_in N present ≡ true → radial_in N wanted ≡ true
    → Joined N present wanted
radial_joined N present wanted n p w r v = record {
  regular = inside_regular N ((check_inside N).0 n);
  present_good = p;
  wanted_good = w;
  present_tree = (radial_in_tree N n present).0 r;
  wanted_tree = (radial_in_tree N n wanted).0 v;
}

pub tested_joined : (N : Network) (present wanted : State) → Tested N present wanted → Joined N present wanted
tested_joined N present wanted t = radial_joined N present wanted (network_records N t.network)
    ((state_accepted N present 0).0 t.present_state) ((state_accepted N wanted 1).0 t.wanted_state)
    ((radial_accepted N present 0).0 t.present_radial) ((radial_accepted N wanted 1).0 t.wanted_radial)

pub accepted_tested : (N : Network) (present wanted : State) → check_plan N present wanted ≡ accepted tt → Tested N present wanted
accepted_tested N present wanted e =
    let told = (plan_accepted N present wanted).0 e in
    record {
      network = told.0;
      present_state = (state_accepted N present 0).1 told.1;
      wanted_state = (state_accepted N wanted 1).1 told.2;
      present_radial = (radial_accepted N present 0).1 told.3;
      wanted_radial = (radial_accepted N wanted 1).1 told.4;
    }

-- what the planner accepts a plan can be made for
pub accepted_plannable : (N : Network) (present wanted : State) → check_plan N present wanted ≡ accepted tt → Plannable N present wanted
accepted_plannable N present wanted e =
    let (a, p, w, r, v, f) = (plan_accepted N present wanted).0 e in
    let n = network_records N a in
    record { joined = radial_joined N present wanted n p w r v; free = f }
