-- Reading a text in two passes, the lines first and then the check of their records, is reading it line by line: `split`. Line after line of a kind
-- (`run_split`), since a line's own conditions come before its record's; then kind after kind, since the records collected have the counts of the head as
-- far as the pass came.
use Rattle.std.specs.Prelude.{◌≡◌, Bool}
use Rattle.std.proofs.Math.Path.{refl, sym, ap, ap₂}
use Rattle.std.proofs.Common.{◌∙◌, add-zero, le_of_eq, length-append}
use mathlib.Core.List.{List, [], ◌∷◌, ◌++◌, append_assoc}
use Prim.Native.Nat.{ℕ, zero, suc, ◌+◌, ◌≤◌}
use native.Mathlib.Omega.{arith}
use Rattle.std.proofs.Math.ListN.{length}
use Rattle.numbers.specs.UpTo.{up_to}
use Rattle.network.specs.declared.bus.Bus.{Bus}
use Rattle.network.specs.declared.branch.Branch.{Branch}
use Rattle.network.specs.declared.switch.Switch.{Switch}
use Rattle.network.specs.Answers.{Answer, accepted, refused, ◌and_then◌, Fault, judge, Judgement}
use Rattle.network.specs.Records.{Network}
use Rattle.network.specs.Limits.{Head, ok_base}
use Rattle.network.specs.Faults.{head_faults, bus_faults, branch_faults, switch_faults}
use Rattle.network.specs.AnswerLaws.{judge_iff, no_refusal, then_assoc}
use Rattle.network.specs.InsideLaws.{HeadInside, head_iff}
use Rattle.network.specs.Check as check
use Rattle.network.specs.Check.{check_run, check_lines}
use Rattle.lines.specs.Hex.{Fields}
use Rattle.lines.specs.Lines.{Line, cut, line_faults}
use Rattle.lines.specs.Frames.{Frame}
use Rattle.record_lines.specs.Kinds.{head, bus, branch, switch, supply, is_frame, fields_of, head_from, bus_from, branch_from, switch_from, supply_from, head_line_faults, bus_line_faults, branch_line_faults, switch_line_faults, Reader, read_one, without, bus_bytes, branch_bytes, switch_bytes, supply_bytes}
use Rattle.feeders.specs.Supply.{supply_faults, supplies, check_supply_line, check_as}
use Rattle.frames.specs.Text.{follow, ◌>>=◌, pure, read_run, read_end, at_most_one, as_option, supply_place, read_supply, read_as}
use Rattle.lines.specs.JudgeLaws.{judge_append}
use Rattle.frames.specs.ReaderLaws.{go_on, network, behind_supply, behind_switches, behind_branches, behind_buses, behind_head, lines_read}
use Rattle.frames.specs.ReadLaws.{head_passed, regroup, one_supply}
use Rattle.frames.specs.Passes.{Pass, going, halted, pass_one, pass_on, pass_step, pass_run, onward, after, pass_buses, pass_branches, pass_switches, pass_supply, collect, settle, after_head, read_twice}

-- ---- a pass from its first line on
abbrev behind : {A : Type 0} → A → Pass A → Pass A
behind a pass = record { records = a ∷ pass.records; left = pass.left; stopped = pass.stopped }

unfoldable begun : {A : Type 0} → Answer (A × List Line) → List Line → (List Line → Pass A) → Pass A
begun (accepted r) ls more = behind r.0 (more r.1)
begun (refused n p) ls more = halted [] ls n p

on_behind : {A : Type 0} (a : A) (records : List A) (left : List Line) (stopped : Judgement) (next : Answer (A × List Line))
    → pass_on (a ∷ records) left stopped next ≡ behind a (pass_on records left stopped next)
unfolding pass_on pass_one
on_behind a records left (accepted u) (accepted r) = refl
on_behind a records left (accepted u) (refused n p) = refl
on_behind a records left (refused n p) next = refl

one_begun : {A : Type 0} (ls : List Line) (x : Answer (A × List Line)) → pass_one [] ls x ≡ begun x ls (going [])
unfolding pass_one begun
one_begun ls (accepted r) = refl
one_begun ls (refused n p) = refl

module _ {A : Type 0} (F : Frame) (make : Fields F.widths → A) (bytes : Fields F.widths → List Fault) where
  step_begun : (q : ℕ) (x : Answer (A × List Line)) (ls : List Line) (more : List Line → Pass A)
      → pass_step F make bytes q (begun x ls more) ≡ begun x ls (λ rest. pass_step F make bytes q (more rest))
  unfolding pass_step begun pass_on
  step_begun q (accepted r) ls more =
      let p = more r.1 in
      on_behind r.0 p.records p.left p.stopped (read_one F make bytes q p.left)
  step_begun q (refused n p) ls more = refl

  pass_first : (n place : ℕ) (ls : List Line) → pass_run F make bytes (suc n) place ls ≡ begun (read_one F make bytes place ls) ls (pass_run F make bytes n (suc place))
  unfolding pass_run up_to pass_step pass_on
  pass_first zero place ls = rw (add-zero place) (one_begun ls (read_one F make bytes place ls))
  pass_first (suc n) place ls =
      let q : place + suc n ≡ suc place + n = omega arith in
      ap (pass_step F make bytes (place + suc n)) (pass_first n place ls)
      ∙ step_begun (place + suc n) (read_one F make bytes place ls) ls (pass_run F make bytes n (suc place))
      ∙ ap (λ (k : ℕ). begun (read_one F make bytes place ls) ls (λ rest. pass_step F make bytes k (pass_run F make bytes n (suc place) rest))) q

  -- ---- a kind's lines: the pass, then the check
  module _ (own : List A → A → List Fault) where
    one_split : (before : List A) (place : ℕ) (ls : List Line)
        → read_one F make (λ f. bytes f ++ own before (make f)) place ls
        ≡ follow (read_one F make bytes place ls) (λ a rest. judge (own before a) place and_then accepted (a, rest))
    unfolding read_one follow
    one_split before place [] = refl
    one_split before place (l ∷ ls) =
        let f = fields_of F l in
        let a = make f in
        let v = judge (line_faults (is_frame F l) l ++ bytes f) place in
        let w = judge (own before a) place in
        ap (λ x. judge x place and_then accepted (a, ls)) (sym (append_assoc (line_faults (is_frame F l) l) (bytes f) (own before a)))
        ∙ ap (λ x. x and_then accepted (a, ls)) (judge_append (line_faults (is_frame F l) l ++ bytes f) (own before a) place)
        ∙ sym (then_assoc v w (accepted (a, ls)))
        ∙ sym (go_on v (a, ls) (λ b rest. judge (own before b) place and_then accepted (b, rest)) refl)

    -- what a pass leaves to say
    checked : List A → ℕ → Pass A → Answer (List A × List Line)
    checked before place pass = check_run own before place pass.records and_then (pass.stopped and_then accepted (pass.records, pass.left))

    checked_behind : (before : List A) (place : ℕ) (a : A) (pass : Pass A)
        → (judge (own before a) place and_then follow (checked (before ++ (a ∷ [])) (suc place) pass) (λ rest. pure (a ∷ rest))) ≡ checked before place (behind a pass)
    unfolding checked check_run pure
    checked_behind before place a pass =
        let v = judge (own before a) place in
        let w = check_run own (before ++ (a ∷ [])) (suc place) pass.records in
        let s = pass.stopped in
        let r : List A × List Line = (pass.records, pass.left) in
        ap (λ x. v and_then x) (go_on (w and_then s) r (λ rest. pure (a ∷ rest)) (then_assoc w s (accepted r)) ∙ sym (then_assoc w s (accepted (a ∷ pass.records, pass.left))))
        ∙ then_assoc v w (s and_then accepted (a ∷ pass.records, pass.left))

    whole : List A → Fields F.widths → List Fault
    whole before f = bytes f ++ own before (make f)

    run_split : (n : ℕ) (before : List A) (place : ℕ) (ls : List Line) → read_run F make whole before n place ls ≡ checked before place (pass_run F make bytes n place ls)
    unfolding read_run pure checked check_run pass_run up_to ◌and_then◌ whole follow begun
    run_split zero before place ls = refl
    run_split (suc n) before place ls =
        ap (λ x. follow x rest_of) (one_split before place ls)
        ∙ go (read_one F make bytes place ls) (λ r. run_split n (before ++ (r.0 ∷ [])) (suc place) r.1)
        ∙ ap (checked before place) (sym (pass_first n place ls))
      where
        rest_of : A → Reader (List A)
        rest_of a = read_run F make whole (before ++ (a ∷ [])) n (suc place) >>= λ rest. pure (a ∷ rest)

        Later : A × List Line → Type 0
        Later r = read_run F make whole (before ++ (r.0 ∷ [])) n (suc place) r.1 ≡ checked (before ++ (r.0 ∷ [])) (suc place) (pass_run F make bytes n (suc place) r.1)

        go : (x : Answer (A × List Line)) → ((r : A × List Line) → Later r)
            → follow (follow x (λ a rest. judge (own before a) place and_then accepted (a, rest))) rest_of ≡ checked before place (begun x ls (pass_run F make bytes n (suc place)))
        go (accepted r) ih =
            let v = judge (own before r.0) place in
            go_on v r rest_of refl
            ∙ ap (λ x. v and_then follow x (λ rest. pure (r.0 ∷ rest))) (ih r)
            ∙ checked_behind before place r.0 (pass_run F make bytes n (suc place) r.1)
        go (refused m q) ih = refl

-- ---- how many records a pass over n lines has
record Counted {A : Type 0} (n : ℕ) (pass : Pass A) : Type 0 where
  within : length pass.records ≤ n
  full : pass.stopped ≡ accepted tt → length pass.records ≡ n

on_counted : {A : Type 0} (n : ℕ) (records : List A) (left : List Line) (stopped : Judgement) (next : Answer (A × List Line))
    → Counted n (record { records = records; left = left; stopped = stopped }) → Counted (suc n) (pass_on records left stopped next)
unfolding pass_on pass_one
on_counted n records left (accepted u) (accepted r) c =
    let l = length-append records (r.0 ∷ []) in
    let e = c.full refl in
    record { within = omega arith; full = λ _. omega arith }
on_counted n records left (accepted u) (refused m q) c = record { within = let w = c.within in omega arith; full = λ e. no_refusal e }
on_counted n records left (refused m q) next c = record { within = let w = c.within in omega arith; full = λ e. no_refusal e }

pass_counted : {A : Type 0} (F : Frame) (make : Fields F.widths → A) (bytes : Fields F.widths → List Fault) (n place : ℕ) (ls : List Line)
    → Counted n (pass_run F make bytes n place ls)
unfolding pass_run up_to pass_step
pass_counted F make bytes zero place ls = record { within = omega arith; full = λ _. refl }
pass_counted F make bytes (suc n) place ls =
    let p = pass_run F make bytes n place ls in
    on_counted n p.records p.left p.stopped (read_one F make bytes (place + n) p.left) (pass_counted F make bytes n place ls)

-- ---- the head that counts the records collected
fewer : (h k : Head) → k.buses ≤ h.buses → k.branches ≤ h.branches → k.switches ≤ h.switches → k.base ≡ h.base → k.iterations ≡ h.iterations
    → HeadInside h → judge (head_faults k) 1 ≡ accepted tt
fewer h k b r s x i e =
    let c = e.counts in
    let e₀ = e.iterations in
    (judge_iff (head_faults k) 1).1 ((head_iff k).1 (record { iterations = omega arith; counts = (omega (arith, c.0), omega (arith, c.1), omega (arith, c.2)); base = ap ok_base x ∙ e.base }))

-- what a switch's conditions read of the head
switch_same : (h k : Head) → h.branches ≡ k.branches → h.algorithm ≡ k.algorithm → switch_faults h ≡ switch_faults k
unfolding switch_faults
switch_same h k b a =
    λ i before s. switch_faults (record { buses = h.buses; branches = b i; switches = h.switches; base = h.base; algorithm = a i; iterations = h.iterations }) before s

-- ---- kind after kind
then_without : {A : Type 0} (v : Judgement) (x : Answer (A × List Line)) → without (v and_then x) ≡ (v and_then without x)
unfolding without ◌and_then◌
then_without (accepted u) x = refl
then_without (refused n p) x = refl

-- after the lines of a kind: their records' conditions, the line at which the pass stopped, then the rest
pass_then : {A B : Type 0} (x : Answer (List A × List Line)) (v : Judgement) (pass : Pass A) (f : List A → Reader B)
    → x ≡ (v and_then (pass.stopped and_then accepted (pass.records, pass.left)))
    → without (follow x f) ≡ (v and_then (pass.stopped and_then without (f pass.records pass.left)))
pass_then {A = A} x v pass f e =
    let s = pass.stopped in
    let r : List A × List Line = (pass.records, pass.left) in
    ap without (go_on (v and_then s) r f (e ∙ then_assoc v s (accepted r)))
    ∙ then_without (v and_then s) (f pass.records pass.left)
    ∙ sym (then_assoc v s (without (f pass.records pass.left)))

end_then : (x : Answer (Unit {0} × List Line)) (N : Network) → without (follow x (λ u. pure N)) ≡ (without x and_then accepted N)
unfolding without follow pure ◌and_then◌
end_then (accepted r) N = refl
end_then (refused n p) N = refl

module _ (stored : Bool) (h : Head) (inside : HeadInside h) where
  bus_check : List Bus → Judgement
  bus_check buses = check_run bus_faults [] 2 buses

  branch_check : List Bus → List Branch → Judgement
  branch_check buses branches = check_run (λ before. branch_faults stored buses) [] (2 + h.buses) branches

  switch_check : List Switch → Judgement
  switch_check switches = check_run (switch_faults h) [] (2 + h.buses + h.branches) switches

  supply_check : List Bus → List Branch → List Switch → List ℕ → Judgement
  supply_check buses branches switches ids = check_run (λ before. supply_faults stored buses branches switches) [] (supply_place h) ids

  -- the records collected, checked with their own counts
  settled : (buses : List Bus) (branches : List Branch) (switches : List Switch) (ids : List ℕ) (v₂ v₃ v₄ stopped : Judgement)
      → length buses ≤ h.buses → length branches ≤ h.branches → length switches ≤ h.switches
      → check_run (λ before. branch_faults stored buses) [] (2 + length buses) branches ≡ v₂
      → check_run (switch_faults (check.head_of (network h buses branches switches ids))) [] (2 + length buses + length branches) switches ≡ v₃
      → check_run (λ before. supply_faults stored buses branches switches) [] (2 + length buses + length branches + length switches) (supplies (as_option ids)) ≡ v₄
      → settle stored (record { network = network h buses branches switches ids; stopped = stopped })
      ≡ (bus_check buses and_then (v₂ and_then (v₃ and_then (v₄ and_then (stopped and_then accepted (network h buses branches switches ids))))))
  unfolding check_as check_supply_line check_lines ◌and_then◌ check.head_of bus_check
  settled buses branches switches ids v₂ v₃ v₄ stopped b r s e₂ e₃ e₄ =
      let N = network h buses branches switches ids in
      rw (fewer h (check.head_of N) b r s refl refl inside, e₂, e₃, e₄) (sym (regroup (bus_check buses) v₂ v₃ v₄ (stopped and_then accepted N)))

  -- counts that are the head's put the records at the head's places
  branch_places : (buses : List Bus) (branches : List Branch) → length buses ≡ h.buses → check_run (λ before. branch_faults stored buses) [] (2 + length buses) branches ≡ branch_check buses branches
  unfolding branch_check
  branch_places buses branches b = ap (λ (n : ℕ). check_run (λ before. branch_faults stored buses) [] (2 + n) branches) b

  switch_places : (buses : List Bus) (branches : List Branch) (switches : List Switch) (ids : List ℕ) → length buses ≡ h.buses → length branches ≡ h.branches
      → check_run (switch_faults (check.head_of (network h buses branches switches ids))) [] (2 + length buses + length branches) switches ≡ switch_check switches
  unfolding switch_check check.head_of
  switch_places buses branches switches ids b r =
      ap₂ (λ (f : List Switch → Switch → List Fault) (n : ℕ). check_run f [] n switches) (switch_same (check.head_of (network h buses branches switches ids)) h r refl) (ap₂ (λ (m n : ℕ). 2 + m + n) b r)

  supply_places : (buses : List Bus) (branches : List Branch) (switches : List Switch) (ids : List ℕ) → length buses ≡ h.buses → length branches ≡ h.branches → length switches ≡ h.switches
      → supplies (as_option ids) ≡ ids
      → check_run (λ before. supply_faults stored buses branches switches) [] (2 + length buses + length branches + length switches) (supplies (as_option ids)) ≡ supply_check buses branches switches ids
  unfolding supply_check
  supply_places buses branches switches ids b r s one =
      let place : 2 + length buses + length branches + length switches ≡ supply_place h = omega arith in
      ap₂ (λ (n : ℕ) (l : List ℕ). check_run (λ before. supply_faults stored buses branches switches) [] n l) place one

  -- the records with what stands behind the pass over the supply's line
  abbrev finished : Network → Pass ℕ → Answer Network
  finished N pass = settle stored (record { network = N; stopped = pass.stopped and_then without (read_end (supply_place h + 1) pass.left) })

  from_supply : (buses : List Bus) (branches : List Branch) (switches : List Switch) (pass : Pass ℕ) → length buses ≡ h.buses → length branches ≡ h.branches
      → length switches ≡ h.switches → supplies (as_option pass.records) ≡ pass.records
      → let behind = pass.stopped and_then without (behind_supply h buses branches switches pass.records pass.left) in
      (bus_check buses and_then (branch_check buses branches and_then (switch_check switches and_then (supply_check buses branches switches pass.records and_then behind))))
      ≡ finished (network h buses branches switches pass.records) pass
  unfolding behind_supply
  from_supply buses branches switches pass b r s one =
      let N = network h buses branches switches pass.records in
      let e = read_end (supply_place h + 1) pass.left in
      let v₁ = bus_check buses in
      let v₂ = branch_check buses branches in
      let v₃ = switch_check switches in
      let v₄ = supply_check buses branches switches pass.records in
      ap (λ x. v₁ and_then (v₂ and_then (v₃ and_then (v₄ and_then x)))) (ap (λ x. pass.stopped and_then x) (end_then e N) ∙ then_assoc pass.stopped (without e) (accepted N))
      ∙ sym (settled buses branches switches pass.records v₂ v₃ v₄ (pass.stopped and_then without e) (le_of_eq b) (le_of_eq r) (le_of_eq s)
      (branch_places buses branches b) (switch_places buses branches switches pass.records b r) (supply_places buses branches switches pass.records b r s one))

  from_switches : (buses : List Bus) (branches : List Branch) (switches : List Switch) (left : List Line) (stopped : Judgement) → length buses ≡ h.buses
      → length branches ≡ h.branches → Counted h.switches (record { records = switches; left = left; stopped = stopped })
      → (bus_check buses and_then (branch_check buses branches and_then (switch_check switches and_then (stopped and_then without (behind_switches stored h buses branches switches left)))))
      ≡ (let z = onward left stopped (pass_supply (supply_place h)) in finished (network h buses branches switches z.records) z)
  unfolding onward ◌and_then◌ behind_switches supply_check check_run as_option whole checked
  from_switches buses branches switches left (accepted u) b r c =
      let p = supply_place h in
      let z = pass_supply p left in
      let read = pass_then (read_supply stored buses branches switches p left) (supply_check buses branches switches z.records) z (behind_supply h buses branches switches)
      (run_split supply supply_from supply_bytes (λ before. supply_faults stored buses branches switches) (at_most_one left) [] p left) in
      ap (λ x. bus_check buses and_then (branch_check buses branches and_then (switch_check switches and_then x))) read
      ∙ from_supply buses branches switches z b r (c.full refl) (one_supply left z.records (pass_counted supply supply_from supply_bytes (at_most_one left) p left).within)
  from_switches buses branches switches left (refused n p) b r c =
      sym (settled buses branches switches [] (branch_check buses branches) (switch_check switches) (accepted tt) (refused n p) (le_of_eq b) (le_of_eq r) c.within
      (branch_places buses branches b) (switch_places buses branches switches [] b r) refl)

  from_branches : (buses : List Bus) (branches : List Branch) (left : List Line) (stopped : Judgement) → length buses ≡ h.buses
      → Counted h.branches (record { records = branches; left = left; stopped = stopped })
      → (bus_check buses and_then (branch_check buses branches and_then (stopped and_then without (behind_branches stored h buses branches left))))
      ≡ (let s = onward left stopped (pass_switches h) in
      let z = after s (pass_supply (supply_place h)) in
      finished (network h buses branches s.records z.records) z)
  unfolding onward ◌and_then◌ behind_branches branch_check switch_check check_run as_option whole checked
  from_branches buses branches left (accepted u) b c =
      let s = pass_switches h left in
      let read = pass_then (read_run switch switch_from (switch_line_faults h) [] h.switches (2 + h.buses + h.branches) left) (switch_check s.records) s (behind_switches stored h buses branches)
      (run_split switch switch_from switch_bytes (switch_faults h) h.switches [] (2 + h.buses + h.branches) left) in
      ap (λ x. bus_check buses and_then (branch_check buses branches and_then x)) read
      ∙ from_switches buses branches s.records s.left s.stopped b (c.full refl) (pass_counted switch switch_from switch_bytes h.switches (2 + h.buses + h.branches) left)
  from_branches buses branches left (refused n p) b c =
      sym (settled buses branches [] [] (branch_check buses branches) (accepted tt) (accepted tt) (refused n p) (le_of_eq b) c.within (omega arith) (branch_places buses branches b) refl refl)

  from_buses : (buses : List Bus) (left : List Line) (stopped : Judgement) → Counted h.buses (record { records = buses; left = left; stopped = stopped })
      → (bus_check buses and_then (stopped and_then without (behind_buses stored h buses left)))
      ≡ (let r = onward left stopped (pass_branches h) in
      let s = after r (pass_switches h) in
      let z = after s (pass_supply (supply_place h)) in
      finished (network h buses r.records s.records z.records) z)
  unfolding onward ◌and_then◌ behind_buses branch_check check_run as_option whole checked
  from_buses buses left (accepted u) c =
      let r = pass_branches h left in
      let read = pass_then (read_run branch branch_from (λ before. branch_line_faults stored buses) [] h.branches (2 + h.buses) left) (branch_check buses r.records) r (behind_branches stored h buses)
      (run_split branch branch_from branch_bytes (λ before. branch_faults stored buses) h.branches [] (2 + h.buses) left) in
      ap (λ x. bus_check buses and_then x) read
      ∙ from_branches buses r.records r.left r.stopped (c.full refl) (pass_counted branch branch_from branch_bytes h.branches (2 + h.buses) left)
  from_buses buses left (refused n p) c = sym (settled buses [] [] [] (accepted tt) (accepted tt) (accepted tt) (refused n p) c.within (omega arith) (omega arith) refl refl refl)

  body_split : (ls : List Line) → without (behind_head stored h ls) ≡ settle stored (collect h ls)
  unfolding behind_head collect ◌and_then◌ bus_check check_run whole checked
  body_split ls =
      let b = pass_buses h ls in
      pass_then (read_run bus bus_from bus_line_faults [] h.buses 2 ls) (bus_check b.records) b (behind_buses stored h) (run_split bus bus_from bus_bytes bus_faults h.buses [] 2 ls)
      ∙ from_buses b.records b.left b.stopped (pass_counted bus bus_from bus_bytes h.buses 2 ls)

pub split : (stored : Bool) (t : List ℕ) → read_as stored t ≡ read_twice stored t
unfolding read_as read_twice without follow after_head
split stored t = ap without (lines_read stored (cut t)) ∙ go (read_one head head_from head_line_faults 1 (cut t)) refl
  where
    go : (x : Answer (Head × List Line)) → read_one head head_from head_line_faults 1 (cut t) ≡ x → without (follow x (behind_head stored)) ≡ after_head stored x
    go (accepted r) e = body_split stored r.0 (head_passed (cut t) r e) r.1
    go (refused n p) e = refl
