-- A new text and a stored one, line by line: they are refused alike, unless the new text is refused with 17, at a line before any that the stored text is refused for.
use Rattle.std.specs.Prelude.{◌≡◌, ◌≢◌, ◌||◌, length, drop}
use Rattle.std.proofs.Math.Path.{refl, sym, ap}
use Rattle.std.proofs.Common.{◌∙◌, subst, true≢false, le_of_eq, arith, lit<, leb-false, eq-eqb}
use Rattle.std.proofs.Math.Bool.{Bool, true, false, not}
use mathlib.Core.List.{List, [], ◌∷◌, ◌++◌, map}
use Prim.Native.Nat.{ℕ, zero, suc, ◌+◌, ◌≤◌, ◌<◌}
use Rattle.numbers.specs.Choose.{among}
use Rattle.network.specs.declared.bus.Bus.{Bus}
use Rattle.network.specs.declared.branch.Branch.{Branch}
use Rattle.network.specs.declared.switch.Switch.{Switch}
use Rattle.network.specs.Answers.{accepted, refused, ◌and_then◌, Fault, ◌if◌, judge, Judgement}
use Rattle.network.specs.AnswerLaws.{no_refusal, judge_iff, then_iff}
use Rattle.network.specs.Records.{Network}
use Rattle.network.specs.Limits.{Head, ok_r, is_own_loop, bus_id}
use Rattle.network.specs.Faults.{head_faults, bus_faults, branch_faults, switch_faults}
use Rattle.network.specs.Inside.{Each}
use Rattle.states.specs.Live.{base_state}
use Rattle.own_loops.specs.OwnLoopLaws.{placed_same}
use Rattle.feeders.specs.Feeder.{radial_in}
use Rattle.feeders.specs.Supply.{records_alone, supply_faults}
use Rattle.lines.specs.Lines.{Line, is_long, is_miswritten, line_faults}
use Rattle.lines.specs.JudgeLaws.{line_passed}
use Rattle.record_lines.specs.Kinds.{head, bus, branch, switch, supply, is_frame, fields_of, head_from, bus_from, branch_from, switch_from, supply_from, bus_line_faults, branch_bytes, branch_line_faults, switch_line_faults, supply_bytes}
use Rattle.frames.specs.Text.{at_most_one}
use Rattle.frames.specs.Conditions.{LineConditions, line_conditions, ranked, kind_conditions, surplus_conditions, buses_of, branches_of, switches_of, body_conditions, conditions, judge_lines}
use Rattle.frames.specs.ConditionLaws.{OfKinds, all_each, AnyLine, any_lines}
use Rattle.frames.specs.FirstFault.{run_append}

-- ---- a refusal's place is that of its line
judge_place : (fs : List Fault) (p n q : ℕ) → judge fs p ≡ refused n q → q ≡ p
unfolding judge
judge_place [] p n q e = no_refusal (sym e)
judge_place ((m if true) ∷ fs) p n q e = cc
judge_place ((m if false) ∷ fs) p n q e = judge_place fs p n q e

lines_place : (p : ℕ) (cs : List LineConditions) (n q : ℕ) → judge_lines p cs ≡ refused n q → p ≤ q
unfolding judge_lines ◌and_then◌
lines_place p [] n q e = no_refusal (sym e)
lines_place p (c ∷ cs) n q e = go (judge (ranked c) p) refl (lines_place (suc p) cs n q) e
  where
    go : (v : Judgement) → judge (ranked c) p ≡ v → (judge_lines (suc p) cs ≡ refused n q → suc p ≤ q) → (v and_then judge_lines (suc p) cs) ≡ refused n q → p ≤ q
    go (accepted u) f ih g = let h = ih g in omega arith
    go (refused m r) f ih g = le_of_eq (sym (judge_place (ranked c) p n q (f ∙ g)))

-- a last condition, and the others
judge_last : (fs : List Fault) (n : ℕ) (b : Bool) (p : ℕ) → judge (fs ++ ((n if b) ∷ [])) p ≡ (judge (fs ++ ((n if false) ∷ [])) p and_then judge ((n if b) ∷ []) p)
unfolding judge ◌and_then◌
judge_last [] n b p = refl
judge_last ((m if true) ∷ fs) n b p = refl
judge_last ((m if false) ∷ fs) n b p = judge_last fs n b p

-- ---- the branch lines of both
-- of n lines from this place on: judged alike, and in a text that passes every branch is clean; or 17 at one of them, before any line that the stored text is refused for
data Compared (place n : ℕ) (Clean : Type 0) (new stored : Judgement) : Type 0 where
  alike : new ≡ stored → (new ≡ accepted tt → Clean) → Compared place n Clean new stored
  own_loop : (q : ℕ) → q < place + n → new ≡ refused 17 q → ((m r : ℕ) → stored ≡ refused m r → q < r) → Compared place n Clean new stored

module _ (buses : List Bus) where
  branch_lines : Bool → List Branch → ℕ → List Line → List LineConditions
  branch_lines stored before n ls = kind_conditions branch branch_from (λ before. branch_line_faults stored buses) before n ls

  abbrev made : Line → Branch
  made l = branch_from (fields_of branch l)

  abbrev of : Bool → Line → LineConditions
  of stored l = line_conditions (is_frame branch l) l (branch_line_faults stored buses (fields_of branch l))

  -- 17 stands behind all that a stored text's line may meet
  own_last : (l : Line) (p : ℕ) → judge (ranked (of false l)) p ≡ (judge (ranked (of true l)) p and_then judge ((17 if is_own_loop (made l)) ∷ []) p)
  unfolding branch_faults
  own_last l p =
      let f = fields_of branch l in
      let listed : ℕ → Bool = λ id. among id (map bus_id buses) in
      let shared = (2 if is_long l) ∷ (1 if is_miswritten l) ∷ (2 if not (is_frame branch l))
      ∷ (branch_bytes f ++ ((5 if not (ok_r (made l).r)) ∷ (6 if (not (listed (made l).from_bus) || not (listed (made l).to_bus))) ∷ [])) in
      judge_last shared 17 (is_own_loop (made l)) p

  -- every branch goes from one bus to another, and no line is missing
  Clean : ℕ → List Line → Type 0
  Clean n ls = Each (λ b. b.from_bus ≢ b.to_bus) (branches_of n ls) × (length (branches_of n ls) ≡ n)

  branches_compared : (n : ℕ) (before : List Branch) (p : ℕ) (ls : List Line)
      → Compared p n (Clean n ls) (judge_lines p (branch_lines false before n ls)) (judge_lines p (branch_lines true before n ls))
  unfolding branch_lines kind_conditions judge_lines judge ◌and_then◌ branches_of Clean
  branches_compared zero before p ls = alike refl (λ e. (tt, refl))
  branches_compared (suc n) before p [] = alike refl (λ e. no_refusal e)
  branches_compared (suc n) before p (l ∷ ls) =
      rw (own_last l p) (go (judge (ranked (of true l)) p) (is_own_loop (made l)) refl (branches_compared n (before ++ (made l ∷ [])) (suc p) ls))
    where
      rest : Bool → List LineConditions
      rest stored = branch_lines stored (before ++ (made l ∷ [])) n ls

      go : (v : Judgement) (own : Bool) → is_own_loop (made l) ≡ own → Compared (suc p) n (Clean n ls) (judge_lines (suc p) (rest false)) (judge_lines (suc p) (rest true))
          → Compared p (suc n) (Clean (suc n) (l ∷ ls)) ((v and_then judge ((17 if own) ∷ []) p) and_then judge_lines (suc p) (rest false)) (v and_then judge_lines (suc p) (rest true))
      go (refused m q) own o c = alike refl (λ e. no_refusal e)
      go (accepted u) true o c = own_loop p (omega arith) refl (λ m r e. lines_place (suc p) (rest true) m r e)
      go (accepted u) false o (alike e clean) =
          alike e (λ a. let k = clean a in ((λ q. true≢false (sym (eq-eqb _ _ q) ∙ o), k.0), ap suc k.1))
      go (accepted u) false o (own_loop q b e later) = own_loop q (omega arith) e later

-- ---- the switch lines: where none is refused each switch is on a branch
switches_placed : (h : Head) (n : ℕ) (before : List Switch) (p : ℕ) (ls : List Line)
    → judge_lines p (kind_conditions switch switch_from (switch_line_faults h) before n ls) ≡ accepted tt → Each (λ s. s.branch_idx < h.branches) (switches_of n ls)
unfolding kind_conditions judge_lines switches_of line_faults switch_faults judge
switches_placed h zero before p ls e = tt
switches_placed h (suc n) before p [] e = let z : refused 2 p ≡ accepted tt = ((then_iff _ _).0 e).0 in no_refusal z
switches_placed h (suc n) before p (l ∷ ls) e =
    let t = (then_iff _ _).0 e in
    let fields = switch_line_faults h before (fields_of switch l) in
    let none = (judge_iff fields p).0 (line_passed (is_frame switch l) l fields p t.0).3 in
    (leb-false h.branches _ none.1.0, switches_placed h n (before ++ (switch_from (fields_of switch l) ∷ [])) (suc p) ls t.1)

-- the base of what is left is the base
supply_same : (buses : List Bus) (branches : List Branch) (switches : List Switch) → Each (λ b. b.from_bus ≢ b.to_bus) branches
    → Each (λ s. s.branch_idx < length branches) switches → supply_faults false buses branches switches ≡ supply_faults true buses branches switches
unfolding supply_faults
supply_same buses branches switches clean placed =
    let faults : Network → ℕ → List Fault = λ N id. (14 if not (among id (map bus_id buses))) ∷ (15 if not (radial_in N (base_state N))) ∷ [] in
    ap faults (sym (placed_same (records_alone buses branches switches) placed clean))

-- ---- whole texts
pub data Related (new stored : Judgement) : Type 0 where
  alike : new ≡ stored → Related new stored
  own_loop : (q : ℕ) → new ≡ refused 17 q → ((m r : ℕ) → stored ≡ refused m r → q < r) → Related new stored

-- behind lines that are judged alike
related_then : (v new stored : Judgement) → Related new stored → Related (v and_then new) (v and_then stored)
unfolding ◌and_then◌
related_then (accepted u) new stored r = r
related_then (refused n p) new stored r = alike refl

-- lines that are compared, and behind them lines that are judged alike where they are clean
compared_then : (p n : ℕ) (Clean : Type 0) (new stored more-new more-stored : Judgement) → Compared p n Clean new stored → (Clean → more-new ≡ more-stored)
    → ((m r : ℕ) → more-stored ≡ refused m r → p + n ≤ r) → Related (new and_then more-new) (stored and_then more-stored)
unfolding ◌and_then◌
compared_then p n Clean new stored more-new more-stored (alike e clean) same behind = rw (← e) (go new clean)
  where
    go : (v : Judgement) → (v ≡ accepted tt → Clean) → Related (v and_then more-new) (v and_then more-stored)
    go (accepted u) c = alike (same (c refl))
    go (refused m r) c = alike refl
compared_then p n Clean new stored more-new more-stored (own_loop q b e later) same behind = rw e (own_loop q refl (go stored later))
  where
    go : (v : Judgement) → ((m r : ℕ) → v ≡ refused m r → q < r) → (m r : ℕ) → (v and_then more-stored) ≡ refused m r → q < r
    go (accepted u) l m r f = let k = behind m r f in omega arith
    go (refused n' r') l m r f = l m r f

module _ (h : Head) (ls : List Line) where
  abbrev buses : List Bus
  buses = buses_of h.buses ls

  abbrev behind_buses : List Line
  behind_buses = drop h.buses ls

  abbrev branches : List Branch
  branches = branches_of h.branches behind_buses

  abbrev behind_branches : List Line
  behind_branches = drop h.branches behind_buses

  abbrev switches : List Switch
  switches = switches_of h.switches behind_branches

  abbrev behind_switches : List Line
  behind_switches = drop h.switches behind_branches

  -- the place of the first switch line
  abbrev place : ℕ
  place = 2 + h.buses + h.branches

  -- the lines from the supply's on
  supply_on : (ℕ → List Fault) → List LineConditions
  supply_on faults =
      let n = at_most_one behind_switches in
      kind_conditions supply supply_from (λ before f. supply_bytes f ++ faults (supply_from f)) [] n behind_switches ++ surplus_conditions (drop n behind_switches)

  switch_lines : List LineConditions
  switch_lines = kind_conditions switch switch_from (switch_line_faults h) [] h.switches behind_branches

  switches_on : Bool → List LineConditions
  switches_on stored = switch_lines ++ supply_on (supply_faults stored buses branches switches)

  body_parts : (stored : Bool) → judge_lines 2 (body_conditions stored h ls)
      ≡ (judge_lines 2 (kind_conditions bus bus_from bus_line_faults [] h.buses ls)
      and_then (judge_lines (2 + h.buses) (branch_lines buses stored [] h.branches behind_buses) and_then judge_lines place (switches_on stored)))
  unfolding body_conditions branch_lines switch_lines supply_on switches_on
  body_parts stored =
      run_append bus bus_from bus_line_faults h.buses [] 2 ls _
      ∙ ap (λ x. judge_lines 2 (kind_conditions bus bus_from bus_line_faults [] h.buses ls) and_then x)
      (run_append branch branch_from (λ before. branch_line_faults stored buses) h.branches [] (2 + h.buses) behind_buses _)

  -- behind clean branches all lines are judged alike
  clean_alike : Clean buses h.branches behind_buses → judge_lines place (switches_on false) ≡ judge_lines place (switches_on true)
  unfolding switch_lines switches_on Clean ◌and_then◌
  clean_alike clean = switch_part false ∙ go (judge_lines place switch_lines) refl ∙ sym (switch_part true)
    where
      later : Bool → Judgement
      later stored = judge_lines (place + h.switches) (supply_on (supply_faults stored buses branches switches))

      switch_part : (stored : Bool) → judge_lines place (switches_on stored) ≡ (judge_lines place switch_lines and_then later stored)
      switch_part stored = run_append switch switch_from (switch_line_faults h) h.switches [] place behind_branches _

      go : (v : Judgement) → judge_lines place switch_lines ≡ v → (v and_then later false) ≡ (v and_then later true)
      go (refused m r) e = refl
      go (accepted u) e =
          let placed = switches_placed h h.switches [] place behind_branches e in
          let on = subst (λ (m : ℕ). Each (λ s. s.branch_idx < m) switches) (sym clean.1) placed in
          ap (λ (w : ℕ → List Fault). accepted tt and_then judge_lines (place + h.switches) (supply_on w)) (supply_same buses branches switches clean.0 on)

  body_related : Related (judge_lines 2 (body_conditions false h ls)) (judge_lines 2 (body_conditions true h ls))
  body_related =
      rw (body_parts false, body_parts true)
      (related_then _ _ _ (compared_then (2 + h.buses) h.branches _ _ _ _ _ (branches_compared buses h.branches [] (2 + h.buses) behind_buses) clean_alike (lines_place place (switches_on true))))

pub text_related : (ls : List Line) → Related (judge_lines 1 (conditions false ls)) (judge_lines 1 (conditions true ls))
unfolding conditions judge_lines
text_related [] = alike refl
text_related (l ∷ ls) = related_then _ _ _ (body_related (head_from (fields_of head l)) ls)

-- ---- a stored text's line never meets 17
-- no condition with this number is met
abbrev Never : ℕ → List Fault → Type 0
Never k [] = Unit {0}
Never k ((n if b) ∷ fs) = (b ≡ true → n ≢ k) × Never k fs

never_judged : (k : ℕ) (fs : List Fault) (p n q : ℕ) → Never k fs → judge fs p ≡ refused n q → n ≢ k
unfolding judge
never_judged k [] p n q h e = no_refusal (sym e)
never_judged k ((m if true) ∷ fs) p n q h e = let same : m ≡ n = cc in λ f. h.0 refl (same ∙ f)
never_judged k ((m if false) ∷ fs) p n q h e = never_judged k fs p n q h.1 e

not_17 : (n : ℕ) → n < 17 → (b : Bool) → b ≡ true → n ≢ 17
not_17 n h b t e = omega arith

abbrev NoOwnLoop : LineConditions → Type 0
NoOwnLoop c = Never 17 (ranked c)

stored_kinds : OfKinds true AnyLine NoOwnLoop
unfolding head_faults bus_faults branch_faults switch_faults supply_faults
stored_kinds = record {
  of_missing = (not_17 2 (lit< tt) _, (not_17 2 (lit< tt) _, tt));
  of_surplus = λ l q. (not_17 2 (lit< tt) _, (not_17 1 (lit< tt) _, (not_17 2 (lit< tt) _, tt)));
  of_head = λ l q. (not_17 2 (lit< tt) _, (not_17 1 (lit< tt) _, (not_17 2 (lit< tt) _, (not_17 3 (lit< tt) _, (not_17 3 (lit< tt) _, (not_17 4 (lit< tt) _, (not_17 5 (lit< tt) _, tt)))))));
  of_bus = λ before l q. (not_17 2 (lit< tt) _, (not_17 1 (lit< tt) _, (not_17 2 (lit< tt) _, (not_17 5 (lit< tt) _, (not_17 7 (lit< tt) _, tt)))));
  of_branch = λ buses l q. (not_17 2 (lit< tt) _, (not_17 1 (lit< tt) _, (not_17 2 (lit< tt) _, (not_17 3 (lit< tt) _, (not_17 5 (lit< tt) _, (not_17 6 (lit< tt) _, (λ e. absurd (true≢false (sym e)), tt)))))));
  of_switch = λ h before l q. (not_17 2 (lit< tt) _, (not_17 1 (lit< tt) _, (not_17 2 (lit< tt) _, (not_17 3 (lit< tt) _, (not_17 6 (lit< tt) _, (not_17 7 (lit< tt) _, (not_17 8 (lit< tt) _, (not_17 9 (lit< tt) _, tt))))))));
  of_supply = λ buses branches switches l q. (not_17 2 (lit< tt) _, (not_17 1 (lit< tt) _, (not_17 2 (lit< tt) _, (not_17 14 (lit< tt) _, (not_17 15 (lit< tt) _, tt)))));
}

lines_never : (p : ℕ) (cs : List LineConditions) (n q : ℕ) → Each NoOwnLoop cs → judge_lines p cs ≡ refused n q → n ≢ 17
unfolding judge_lines ◌and_then◌
lines_never p [] n q h e = no_refusal (sym e)
lines_never p (c ∷ cs) n q h e = go (judge (ranked c) p) refl (lines_never (suc p) cs n q h.1) e
  where
    go : (v : Judgement) → judge (ranked c) p ≡ v → (judge_lines (suc p) cs ≡ refused n q → n ≢ 17) → (v and_then judge_lines (suc p) cs) ≡ refused n q → n ≢ 17
    go (accepted u) f ih g = ih g
    go (refused m r) f ih g = never_judged 17 (ranked c) p n q h.0 (f ∙ g)

pub stored_never : (ls : List Line) (n q : ℕ) → judge_lines 1 (conditions true ls) ≡ refused n q → n ≢ 17
stored_never ls n q = lines_never 1 (conditions true ls) n q (all_each true AnyLine NoOwnLoop stored_kinds ls (any_lines ls))
