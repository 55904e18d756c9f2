-- Laws of readers: one that goes on after a judgement, and the lines behind the head.
use Rattle.std.specs.Prelude.{◌≡◌, refl, Bool, List, [], ◌∷◌, ℕ, ◌+◌}
use Rattle.std.proofs.Common.{sym, ap, ◌∙◌}
use Rattle.network.specs.Answers.{Answer, accepted, refused, ◌and_then◌, Judgement}
use Rattle.network.specs.declared.bus.Bus.{Bus}
use Rattle.network.specs.declared.branch.Branch.{Branch}
use Rattle.network.specs.declared.switch.Switch.{Switch}
use Rattle.network.specs.AnswerLaws.{no_refusal, same_value, then_nothing}
use Rattle.network.specs.Records.{Network}
use Rattle.network.specs.Limits.{Head}
use Rattle.lines.specs.Lines.{Line}
use Rattle.lines.specs.FirstLine.{judge_end}
use Rattle.record_lines.specs.Kinds.{head, bus, branch, switch, head_from, bus_from, branch_from, switch_from, head_line_faults, bus_line_faults, branch_line_faults, switch_line_faults, Reader, read_one, without}
use Rattle.record_lines.specs.JudgementLaws.{without_then}
use Rattle.frames.specs.Text.{follow, ◌>>=◌, pure, read_run, read_end, as_option, supply_place, read_supply, read_lines}

-- ---- a reader that goes on after a verdict
follow_then : {A B : Type 0} (v : Judgement) (r : A × List Line) (f : A → Reader B) → follow (v and_then accepted r) f ≡ (v and_then f r.0 r.1)
unfolding follow ◌and_then◌
follow_then (accepted u) r f = refl
follow_then (refused n p) r f = refl

pub go_on : {A B : Type 0} {x : Answer (A × List Line)} (v : Judgement) (r : A × List Line) (f : A → Reader B)
    → x ≡ (v and_then accepted r) → follow x f ≡ (v and_then f r.0 r.1)
go_on v r f e = ap (λ y. follow y f) e ∙ follow_then v r f

-- a reader that accepts went on from what its first part accepts
pub follow_accepted : {A B C : Type 0} (x : Answer (A × List Line)) (f : A → Reader B) {r : B × List Line}
    → follow x f ≡ accepted r → ((q : A × List Line) → x ≡ accepted q → f q.0 q.1 ≡ accepted r → C) → C
unfolding follow
follow_accepted (accepted q) f e k = k q refl e
follow_accepted (refused n p) f e k = no_refusal e

-- that no line is left is judged as it is read
pub end_judged : (p : ℕ) (ls : List Line) → judge_end p ls ≡ without (read_end p ls)
unfolding judge_end read_end without
end_judged p [] = refl
end_judged p (l ∷ ls) = sym (without_then _ tt ls ∙ then_nothing _)

pub without_accepted : {A C : Type 0} (x : Answer (A × List Line)) {a : A} → without x ≡ accepted a → ((r : A × List Line) → x ≡ accepted r → r.0 ≡ a → C) → C
unfolding without
without_accepted (accepted r) e k = k r refl (same_value e)
without_accepted (refused n p) e k = no_refusal e

-- ---- the lines behind the head
abbrev pub network : Head → List Bus → List Branch → List Switch → List ℕ → Network
network h buses branches switches ids =
    record { base = h.base; algorithm = h.algorithm; iterations = h.iterations; buses = buses; branches = branches; switches = switches; supply = as_option ids }

unfoldable pub behind_supply : Head → List Bus → List Branch → List Switch → List ℕ → Reader Network
behind_supply h buses branches switches ids =
    do
      _ ← read_end (supply_place h + 1)
      pure (network h buses branches switches ids)

unfoldable pub behind_switches : Bool → Head → List Bus → List Branch → List Switch → Reader Network
behind_switches stored h buses branches switches = read_supply stored buses branches switches (supply_place h) >>= behind_supply h buses branches switches

unfoldable pub behind_branches : Bool → Head → List Bus → List Branch → Reader Network
behind_branches stored h buses branches = read_run switch switch_from (switch_line_faults h) [] h.switches (2 + h.buses + h.branches) >>= behind_switches stored h buses branches

unfoldable pub behind_buses : Bool → Head → List Bus → Reader Network
behind_buses stored h buses = read_run branch branch_from (λ before. branch_line_faults stored buses) [] h.branches (2 + h.buses) >>= behind_branches stored h buses

unfoldable pub behind_head : Bool → Head → Reader Network
behind_head stored h = read_run bus bus_from bus_line_faults [] h.buses 2 >>= behind_buses stored h

pub lines_read : (stored : Bool) (ls : List Line) → read_lines stored ls ≡ follow (read_one head head_from head_line_faults 1 ls) (behind_head stored)
unfolding read_lines behind_head behind_buses behind_branches behind_switches behind_supply
lines_read stored ls = refl
