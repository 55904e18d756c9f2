-- Inside a line the lower number wins: behind the condition on lines over 36 characters, which comes first, each line's conditions stand by rising number.
use Rattle.std.specs.Prelude.{◌≡◌, Bool, true, false, List, [], ◌∷◌, ℕ, ◌≤◌}
use Rattle.std.proofs.Common.{sym, le_of_eq, arith, lit≤}
use Rattle.network.specs.Answers.{Fault, ◌if◌, judge}
use Rattle.network.specs.AnswerLaws.{no_refusal}
use Rattle.network.specs.Faults.{head_faults, bus_faults, branch_faults, switch_faults}
use Rattle.network.specs.Inside.{Each}
use Rattle.lines.specs.Lines.{cut}
use Rattle.feeders.specs.Supply.{supply_faults}
use Rattle.frames.specs.Conditions.{conditions, met, LowestWins, LineConditions}
use Rattle.frames.specs.ConditionLaws.{OfKinds, all_each, AnyLine, any_lines}

-- ---- conditions by rising number
abbrev Rising : List Fault → Type 0
Rising [] = Unit {0}
Rising ((n if b) ∷ []) = Unit {0}
Rising ((n if b) ∷ (m if c) ∷ fs) = (n ≤ m) × Rising ((m if c) ∷ fs)

tail_rising : (n : ℕ) (b : Bool) (fs : List Fault) → Rising ((n if b) ∷ fs) → Rising fs
tail_rising n b [] r = tt
tail_rising n b ((m if c) ∷ fs) r = r.1

above : (k n : ℕ) (b : Bool) (fs : List Fault) → k ≤ n → Rising ((n if b) ∷ fs) → Each (λ m. k ≤ m) (met fs)
unfolding met
above k n b [] h r = tt
above k n b ((m if true) ∷ fs) h r = let l = r.0 in let g : k ≤ m = omega arith in (g, above k m true fs g r.1)
above k n b ((m if false) ∷ fs) h r = let l = r.0 in above k m false fs (omega arith) r.1

rising_lowest : (fs : List Fault) → Rising fs → LowestWins fs
unfolding judge met
rising_lowest [] r n p e = no_refusal (sym e)
rising_lowest ((m if true) ∷ fs) r n p e = let q : m ≡ n = cc in (le_of_eq (sym q), above n m true fs (le_of_eq (sym q)) r)
rising_lowest ((m if false) ∷ fs) r n p e = rising_lowest fs (tail_rising m false fs r) n p e

-- ---- behind the condition on lines over 36 characters
abbrev InOrder : LineConditions → Type 0
InOrder c = Rising c.others

-- each kind's conditions, of a stored text and of another
in_order : (stored : Bool) → OfKinds stored AnyLine InOrder
unfolding head_faults bus_faults branch_faults switch_faults supply_faults
in_order stored = record {
  of_missing = tt;
  of_surplus = λ l q. (lit≤ tt, tt);
  of_head = λ l q. (lit≤ tt, (lit≤ tt, (lit≤ tt, (lit≤ tt, (lit≤ tt, tt)))));
  of_bus = λ before l q. (lit≤ tt, (lit≤ tt, (lit≤ tt, tt)));
  -- 17 comes last: a branch line earns nothing higher
  of_branch = λ buses l q. (lit≤ tt, (lit≤ tt, (lit≤ tt, (lit≤ tt, (lit≤ tt, tt)))));
  of_switch = λ h before l q. (lit≤ tt, (lit≤ tt, (lit≤ tt, (lit≤ tt, (lit≤ tt, (lit≤ tt, tt))))));
  of_supply = λ buses branches switches l q. (lit≤ tt, (lit≤ tt, (lit≤ tt, tt)));
}

each_lowest : (cs : List LineConditions) → Each InOrder cs → Each (λ c. LowestWins c.others) cs
each_lowest [] h = tt
each_lowest (c ∷ cs) h = (rising_lowest c.others h.0, each_lowest cs h.1)

pub lowest_wins : (stored : Bool) (t : List ℕ) → Each (λ c. LowestWins c.others) (conditions stored (cut t))
lowest_wins stored t = each_lowest (conditions stored (cut t)) (all_each stored AnyLine InOrder (in_order stored) (cut t) (any_lines (cut t)))
