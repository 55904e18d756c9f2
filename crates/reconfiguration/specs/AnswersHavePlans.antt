-- Document 01: "Planned from a radial base to a search's answer, only refusal 13 can come". The exchange and the tabu search move operable switches only. The
-- exhaustive search may close locked ties, but from a radial base a radial state with only ties closed has the base's live branches.
use Rattle.std.specs.Prelude.{◌≡◌, true, cond, List, ◌++◌, ℕ, ltb, length, drop}
use Rattle.network.specs.Records.{Network}
use Rattle.network.specs.declared.switch.ReconfigAlgorithm.{ReconfigAlgorithm}
use Rattle.network.specs.declared.switch.ReconfigAlgorithm.TheVariants.{BranchExchange, TabuSearch, Exhaustive}
use Rattle.network.specs.Answers.{accepted, refused}
use Rattle.network.specs.Inside.{Inside}
use Rattle.network.specs.InsideLaws.{check_inside}
use Rattle.states.specs.Live.{base_state}
use Rattle.states.specs.Switches.{State, branch_of, GoodState}
use Rattle.printing.specs.CallLaws.{call_passed}
use Rattle.feeders.specs.Feeder.{radial_in}
use Rattle.feeders.specs.Supply.{check_network}
use Rattle.feeders.specs.SupplyLaws.{network_records}
use Rattle.changes.specs.Change.{check_plan}
use Rattle.plan.specs.Plan.{plan, plan_text, planned}
use Rattle.plan.specs.Claim.{SwitchingPlan}
use Rattle.plan.specs.Plannable.{Free}
use Rattle.plan.specs.Accepted.{plan_accepted}
use Rattle.plan.specs.Proof.{demand3}
use Rattle.states.specs.BaseLaws.{base_good}
use Rattle.searches.specs.LiveBranches.{radial_part_same}
use Rattle.searches.specs.Results.{SoundBest}
use Rattle.exchange.specs.Exchange.{exchange_best}
use Rattle.exchange.specs.ExchangeLaws.{exchange_from_base, exchange_sound}
use Rattle.tabu.specs.Tabu.{tabu_best}
use Rattle.tabu.specs.TabuLaws.{tabu_from_base, tabu_sound}
use Rattle.exhaustive.specs.Exhaustive.{exhaustive_best}
use Rattle.exhaustive.specs.ExhaustiveLaws.{exhaustive_closes, exhaustive_sound}
use Rattle.reconfiguration.specs.Solve.{best_by, best}

-- ---- of the answer of any search, whichever the head asks for. For `exhaustive_solve` on a network with another method, N is that network with method 02
-- (`Exhaustive.as_exhaustive`)
module _ (N : Network) where
  -- it has one byte 00 or 01 for each switch, and from a radial base it is radial
  pub search_sound : (a : ReconfigAlgorithm) → SoundBest N (best_by a N)
  unfolding best_by
  search_sound BranchExchange = exchange_sound N
  search_sound TabuSearch = tabu_sound N
  search_sound Exhaustive = exhaustive_sound N

  module _ (r : radial_in N (base_state N) ≡ true) where
    -- from a radial base the switches that a plan moves are operable
    search_free : (a : ReconfigAlgorithm) → Inside N → Free N (base_state N) (best_by a N).state
    unfolding best_by exchange_best tabu_best exhaustive_best
    search_free BranchExchange inside = λ i l n d. (exchange_from_base N).moved i n
    search_free TabuSearch inside = λ i l n d. (tabu_from_base N).moved i n
    search_free Exhaustive inside = λ i l n d. let h = exhaustive_closes N in absurd (d (radial_part_same N inside (base_state N) _ r (h.radial r) h.more (branch_of N i)))

-- planned for a search's answer from a radial base, no refusal comes before 13
pub search_plan_accepted : (N : Network) (a : ReconfigAlgorithm) → check_network N ≡ accepted tt → radial_in N (base_state N) ≡ true
    → check_plan N (base_state N) (best_by a N).state ≡ accepted tt
search_plan_accepted N a ok r =
    let sound = search_sound N a in
    (plan_accepted N (base_state N) (best_by a N).state).1 (ok, base_good N, sound.good, r, sound.radial r, search_free N r a ((check_inside N).0 (network_records N ok)))

-- so a search's answer from a radial base has a plan, and all of demand 3 holds of it
pub search_has_plan : (N : Network) (a : ReconfigAlgorithm) → check_network N ≡ accepted tt → radial_in N (base_state N) ≡ true
    → SwitchingPlan N (base_state N) (best_by a N).state
search_has_plan N a ok r = demand3 N (base_state N) (best_by a N).state (search_plan_accepted N a ok r)

-- the planner's call for it: 13 where the lent slice is shorter than the plan's lines, else the plan
abbrev pub Only13 : Network → State → Type 0
Only13 N wanted =
    (out : List ℕ) → let moves = plan N (base_state N) wanted in
    planned N (base_state N) wanted out
    ≡ cond (ltb (length out) (length (plan_text moves))) (record { answer = refused 13 0; out = out }) (record { answer = accepted (length moves); out = plan_text moves ++ drop (length (plan_text moves)) out })

pub only_13 : (N : Network) (a : ReconfigAlgorithm) → check_network N ≡ accepted tt → radial_in N (base_state N) ≡ true → Only13 N (best_by a N).state
unfolding planned
only_13 N a ok r out = let moves = plan N (base_state N) (best_by a N).state in call_passed (length moves) (plan_text moves) out (search_plan_accepted N a ok r)

-- ---- of `solve`'s answer, that of the search that the head asks for
module _ (N : Network) where
  pub best_sound : SoundBest N (best N)
  unfolding best
  best_sound = search_sound N N.algorithm

  -- it has one byte 00 or 01 for each switch
  pub best_good : GoodState N (best N).state
  best_good = best_sound.good

  -- the three laws above, of it
  module _ (ok : check_network N ≡ accepted tt) (r : radial_in N (base_state N) ≡ true) where
    pub solve_plan_accepted : check_plan N (base_state N) (best N).state ≡ accepted tt
    unfolding best
    solve_plan_accepted = search_plan_accepted N N.algorithm ok r

    pub solve_has_plan : SwitchingPlan N (base_state N) (best N).state
    unfolding best
    solve_has_plan = search_has_plan N N.algorithm ok r

    pub solve_only_13 : Only13 N (best N).state
    unfolding best
    solve_only_13 = only_13 N N.algorithm ok r
