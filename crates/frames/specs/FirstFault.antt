-- The reader refuses by the first line that has a condition met, and accepts where there is none: reader and rule go through the same lines, kind by kind.
use Rattle.std.specs.Prelude.{◌≡◌, Bool, false, take}
use Rattle.std.proofs.Math.Path.{refl, ap}
use Rattle.std.proofs.Common.{sym, ◌∙◌}
use mathlib.Core.List.{List, [], ◌∷◌, ◌++◌, map}
use Prim.Native.Nat.{ℕ, zero, suc, ◌+◌}
use native.Mathlib.Omega.{arith}
use Rattle.std.proofs.Math.ListN.{drop}
use Rattle.network.specs.declared.bus.Bus.{Bus}
use Rattle.network.specs.declared.branch.Branch.{Branch}
use Rattle.network.specs.declared.switch.Switch.{Switch}
use Rattle.network.specs.Answers.{Answer, accepted, refused, ◌and_then◌, Fault, judge, Judgement}
use Rattle.network.specs.AnswerLaws.{then_assoc}
use Rattle.network.specs.Records.{Network}
use Rattle.network.specs.Limits.{Head}
use Rattle.lines.specs.Hex.{Fields}
use Rattle.lines.specs.Lines.{Line, cut, line_faults}
use Rattle.lines.specs.Frames.{Frame}
use Rattle.record_lines.specs.Kinds.{head, bus, branch, switch, supply, is_frame, fields_of, head_from, bus_from, branch_from, switch_from, supply_from, head_line_faults, bus_line_faults, branch_line_faults, switch_line_faults, read_one, without}
use Rattle.frames.specs.Text.{follow, ◌>>=◌, pure, read_run, read_end, at_most_one, supply_line_faults, read_lines, read_as}
use Rattle.record_lines.specs.JudgementLaws.{without_then}
use Rattle.frames.specs.ReaderLaws.{go_on, network, behind_supply, behind_switches, behind_branches, behind_buses, behind_head, lines_read}
use Rattle.frames.specs.Conditions.{kind_conditions, surplus_conditions, buses_of, branches_of, switches_of, body_conditions, conditions, judge_lines, judgement_of, LineConditions}

pub judgement_then : {A : Type 0} (v : Judgement) (a : A) → judgement_of (v and_then accepted a) ≡ v
unfolding judgement_of ◌and_then◌
judgement_then (accepted u) a = refl
judgement_then (refused n p) a = refl

module _ {A : Type 0} (F : Frame) (make : Fields F.widths → A) (faults : List A → Fields F.widths → List Fault) where
  abbrev made : Line → A
  made l = make (fields_of F l)

  run_judged : (n : ℕ) (before : List A) (p : ℕ) (ls : List Line)
      → read_run F make faults before n p ls ≡ (judge_lines p (kind_conditions F make faults before n ls) and_then accepted (map made (take n ls), drop n ls))
  unfolding read_run read_one line_faults kind_conditions judge_lines judge ◌and_then◌ follow pure
  run_judged zero before p ls = refl
  run_judged (suc n) before p [] = refl
  run_judged (suc n) before p (l ∷ ls) =
      let c : List Fault = line_faults (is_frame F l) l ++ faults before (fields_of F l) in
      let v : Judgement = judge_lines (suc p) (kind_conditions F make faults (before ++ (made l ∷ [])) n ls) in
      go_on (judge c p) (made l, ls) (λ a. read_run F make faults (before ++ (a ∷ [])) n (suc p) >>= λ rest. pure (a ∷ rest)) refl
      ∙ ap (λ x. judge c p and_then x) (go_on v (map made (take n ls), drop n ls) (λ rest. pure (made l ∷ rest)) (run_judged n (before ++ (made l ∷ [])) (suc p) ls))
      ∙ then_assoc (judge c p) v (accepted (made l ∷ map made (take n ls), drop n ls))

  pub run_append : (n : ℕ) (before : List A) (p : ℕ) (ls : List Line) (rest : List LineConditions)
      → judge_lines p (kind_conditions F make faults before n ls ++ rest) ≡ (judge_lines p (kind_conditions F make faults before n ls) and_then judge_lines (p + n) rest)
  unfolding line_faults kind_conditions judge_lines judge ◌and_then◌
  run_append zero before p ls rest = ap (λ (q : ℕ). judge_lines q rest) (omega arith)
  run_append (suc n) before p [] rest = refl
  run_append (suc n) before p (l ∷ ls) rest =
      let c : List Fault = line_faults (is_frame F l) l ++ faults before (fields_of F l) in
      let v : Judgement = judge_lines (suc p) (kind_conditions F make faults (before ++ (made l ∷ [])) n ls) in
      let e : suc p + n ≡ p + suc n = omega arith in
      ap (λ x. judge c p and_then x) (run_append n (before ++ (made l ∷ [])) (suc p) ls rest ∙ ap (λ (q : ℕ). v and_then judge_lines q rest) e)
      ∙ then_assoc (judge c p) v (judge_lines (p + suc n) rest)

end_judged : (p : ℕ) (ls : List Line) → read_end p ls ≡ (judge_lines p (surplus_conditions ls) and_then accepted (tt {0}, drop 1 ls))
unfolding read_end line_faults surplus_conditions judge_lines ◌and_then◌
end_judged p [] = refl
end_judged p (l ∷ ls) = then_assoc (judge (line_faults false l) p) (accepted tt) (accepted (tt {0}, ls))

-- without a supply line nothing is left, and the place counts nowhere
behind_supply_lem : (p : ℕ) (ls : List Line) → let rest = surplus_conditions (drop (at_most_one ls) ls) in judge_lines (p + at_most_one ls) rest ≡ judge_lines (p + 1) rest
unfolding at_most_one surplus_conditions judge_lines
behind_supply_lem p [] = refl
behind_supply_lem p (l ∷ ls) = refl

body_judged : (stored : Bool) (h : Head) (ls : List Line) → (r : Network × List Line) × (behind_head stored h ls ≡ (judge_lines 2 (body_conditions stored h ls) and_then accepted r))
unfolding behind_head behind_buses behind_branches behind_switches behind_supply body_conditions buses_of branches_of switches_of pure
body_judged stored h ls =
    let l₁ : List Line = drop h.buses ls in
    let l₂ : List Line = drop h.branches l₁ in
    let l₃ : List Line = drop h.switches l₂ in
    let buses : List Bus = buses_of h.buses ls in
    let branches : List Branch = map (λ l. branch_from (fields_of branch l)) (take h.branches l₁) in
    let switches : List Switch = map (λ l. switch_from (fields_of switch l)) (take h.switches l₂) in
    let n : ℕ = at_most_one l₃ in
    let l₄ : List Line = drop n l₃ in
    let ids : List ℕ = map (λ l. supply_from (fields_of supply l)) (take n l₃) in
    let N : Network = network h buses branches switches ids in
    let end : Answer (Network × List Line) = accepted (N, drop 1 l₄) in
    let p₂ : ℕ = 2 + h.buses in
    let p₃ : ℕ = p₂ + h.branches in
    let p₄ : ℕ = p₃ + h.switches in
    let c₁ : List LineConditions = kind_conditions bus bus_from bus_line_faults [] h.buses ls in
    let c₂ : List LineConditions = kind_conditions branch branch_from (λ before. branch_line_faults stored buses) [] h.branches l₁ in
    let c₃ : List LineConditions = kind_conditions switch switch_from (switch_line_faults h) [] h.switches l₂ in
    let p₅ : ℕ = p₄ + 1 in
    let f₄ : List ℕ → Fields supply.widths → List Fault = λ before. supply_line_faults stored buses branches switches in
    let c₄ : List LineConditions = kind_conditions supply supply_from f₄ [] n l₃ in
    let c₅ : List LineConditions = surplus_conditions l₄ in
    let v₁ : Judgement = judge_lines 2 c₁ in
    let v₂ : Judgement = judge_lines p₂ c₂ in
    let v₃ : Judgement = judge_lines p₃ c₃ in
    let v₄ : Judgement = judge_lines p₄ c₄ in
    let v₅ : Judgement = judge_lines p₅ c₅ in
    let read : behind_head stored h ls ≡ (v₁ and_then (v₂ and_then (v₃ and_then (v₄ and_then (v₅ and_then end))))) =
    go_on v₁ (buses, l₁) (behind_buses stored h) (run_judged bus bus_from bus_line_faults h.buses [] 2 ls)
    ∙ ap (λ x. v₁ and_then x) (go_on v₂ (branches, l₂) (behind_branches stored h buses) (run_judged branch branch_from (λ before. branch_line_faults stored buses) h.branches [] p₂ l₁)
    ∙ ap (λ x. v₂ and_then x) (go_on v₃ (switches, l₃) (behind_switches stored h buses branches) (run_judged switch switch_from (switch_line_faults h) h.switches [] p₃ l₂)
    ∙ ap (λ x. v₃ and_then x) (go_on v₄ (ids, l₄) (behind_supply h buses branches switches) (run_judged supply supply_from f₄ n [] p₄ l₃)
    ∙ ap (λ x. v₄ and_then x) (go_on v₅ (tt {0}, drop 1 l₄) _ (end_judged p₅ l₄))))) in
    let judged : judge_lines 2 (body_conditions stored h ls) ≡ (v₁ and_then (v₂ and_then (v₃ and_then (v₄ and_then v₅)))) =
    run_append bus bus_from bus_line_faults h.buses [] 2 ls (c₂ ++ (c₃ ++ (c₄ ++ c₅)))
    ∙ ap (λ x. v₁ and_then x) (run_append branch branch_from (λ before. branch_line_faults stored buses) h.branches [] p₂ l₁ (c₃ ++ (c₄ ++ c₅))
    ∙ ap (λ x. v₂ and_then x) (run_append switch switch_from (switch_line_faults h) h.switches [] p₃ l₂ (c₄ ++ c₅)
    ∙ ap (λ x. v₃ and_then x) (run_append supply supply_from f₄ n [] p₄ l₃ c₅ ∙ ap (λ x. v₄ and_then x) (behind_supply_lem p₄ l₃)))) in (
      (N, drop 1 l₄),
      read
          ∙ ap (λ x. v₁ and_then (v₂ and_then (v₃ and_then x))) (then_assoc v₄ v₅ end)
          ∙ ap (λ x. v₁ and_then (v₂ and_then x)) (then_assoc v₃ (v₄ and_then v₅) end)
          ∙ ap (λ x. v₁ and_then x) (then_assoc v₂ (v₃ and_then (v₄ and_then v₅)) end)
          ∙ then_assoc v₁ (v₂ and_then (v₃ and_then (v₄ and_then v₅))) end
          ∙ ap (λ x. x and_then end) (sym judged),
    )

lines_judged : (stored : Bool) (ls : List Line) → judgement_of (without (read_lines stored ls)) ≡ judge_lines 1 (conditions stored ls)
unfolding read_lines read_one line_faults conditions judge_lines judge follow without judgement_of ◌and_then◌
lines_judged stored [] = refl
lines_judged stored (l ∷ ls) =
    let h : Head = head_from (fields_of head l) in
    let v : Judgement = judge (line_faults (is_frame head l) l ++ head_line_faults (fields_of head l)) 1 in
    let b = body_judged stored h ls in
    let w : Judgement = judge_lines 2 (body_conditions stored h ls) in
    ap (λ x. judgement_of (without x)) (lines_read stored (l ∷ ls) ∙ go_on v (h, ls) (behind_head stored) refl ∙ ap (λ x. v and_then x) b.1 ∙ then_assoc v w (accepted b.0))
    ∙ ap judgement_of (without_then (v and_then w) b.0.0 b.0.1)
    ∙ judgement_then (v and_then w) b.0.0

pub first_fault : (stored : Bool) (t : List ℕ) → judgement_of (read_as stored t) ≡ judge_lines 1 (conditions stored (cut t))
unfolding read_as
first_fault stored t = lines_judged stored (cut t)
