-- The reader against the check of records and the text of a network: what is written is judged as the records are (`read_written`), and what is
-- accepted was written so (`accepted_written`). Both go line by line, from the laws of a line's characters and of a record's fields.
use Rattle.std.specs.Prelude.{◌≡◌, Bool, false, not, length}
use Rattle.std.proofs.Math.Path.{refl, ap, subst}
use Rattle.std.proofs.Common.{sym, ap₂, ◌∙◌, le_of_eq, arith}
use Rattle.std.proofs.lemmas.Bool.{false≢true, not-false}
use mathlib.Core.List.{List, [], ◌∷◌, ◌++◌, map, flat_map, append-nil, append_assoc}
use Rattle.std.specs.Prelude.{Option, None, Some}
use Prim.Native.Nat.{ℕ, zero, suc, ◌+◌, ◌≤◌}
use Rattle.network.specs.declared.bus.Bus.{Bus}
use Rattle.network.specs.declared.branch.Branch.{Branch}
use Rattle.network.specs.declared.switch.Switch.{Switch}
use Rattle.network.specs.Answers.{Answer, accepted, ◌and_then◌, Fault, judge, Judgement}
use Rattle.network.specs.Records.{Network}
use Rattle.network.specs.Limits.{Head, ok_load, ok_r}
use Rattle.network.specs.Faults.{head_faults, bus_faults, branch_faults, switch_faults}
use Rattle.network.specs.AnswerLaws.{judge_iff, no_refusal, then_assoc, same_value}
use Rattle.network.specs.InsideLaws.{HeadInside, head_iff}
use Rattle.network.specs.Check as check
use Rattle.network.specs.Check.{check_run, check_lines}
use Rattle.network.specs.Inside.{Each}
use Rattle.feeders.specs.Supply.{supply_faults, supplies, check_supply_line, check_as}
use Rattle.network.specs.EachLaws.{each_append}
use Rattle.lines.specs.Hex.{Fields}
use Rattle.lines.specs.Lines.{Line, cut, line_faults}
use Rattle.lines.specs.Frames.{frame_text}
use Rattle.record_lines.specs.Kinds.{is_frame, fields_of, head, supply, head_from, supply_from, head_line_faults, read_one, without}
use Rattle.frames.specs.Text.{follow, ◌>>=◌, pure, read_run, read_end, at_most_one, as_option, supply_line_faults, supply_place, read_lines, read_as}
use Rattle.frames.specs.Acceptable.{text_of, Writable}
use Rattle.lines.specs.JudgeLaws.{judge_passed, judge_append, line_passed}
use Rattle.record_lines.specs.JudgementLaws.{then_accepted, without_then}
use Rattle.frames.specs.ReaderLaws.{go_on, follow_accepted, without_accepted, network, behind_supply, behind_switches, behind_branches, behind_buses, behind_head, lines_read}
use Rattle.lines.specs.CutLaws.{joined, joined_cut, cut_joined, DigitLine, digit_lines}
use Rattle.frames.specs.LineLaws.{line_of, line_digits, fields_line, line_clear, line_kept}
use Rattle.frames.specs.RecordLaws.{Kind, head_kind, bus_kind, branch_kind, switch_kind, supply_kind}

-- the line of a record
unfoldable record_line : {A : Type 0} → Kind A → A → Line
record_line K a = line_of K.frame (K.fields a)

module _ {A : Type 0} (K : Kind A) (own : List A → A → List Fault) (ranged : (before : List A) (a : A) (p : ℕ) → judge (own before a) p ≡ accepted tt → K.Ranged a) where
  -- all conditions on a line's fields
  abbrev whole : List A → Fields K.frame.widths → List Fault
  whole before f = K.bytes f ++ own before (K.make f)

  -- ---- one line
  one_written : (before : List A) (p : ℕ) (a : A) → K.Room a → (ls : List Line)
      → read_one K.frame K.make (whole before) p (record_line K a ∷ ls) ≡ (judge (own before a) p and_then accepted (a, ls))
  unfolding read_one record_line ◌and_then◌
  one_written before p a h ls =
      let F = K.frame in
      let f = K.fields a in
      let fit = K.fit a h in
      rw (fields_line F K.sound f fit, line_clear F K.sound f fit (whole before f) p, judge_append (K.bytes f) (own before (K.make f)) p, K.meant a p, K.made a h)

  one_kept : (before : List A) (p : ℕ) (ls : List Line) (r : A × List Line) → read_one K.frame K.make (whole before) p ls ≡ accepted r
      → (ls ≡ record_line K r.0 ∷ r.1) × K.Room r.0 × (judge (own before r.0) p ≡ accepted tt)
  unfolding read_one record_line
  one_kept before p [] r e = no_refusal e
  one_kept before p (l ∷ ls) r e =
      let F = K.frame in
      let f = fields_of F l in
      let a = K.make f in
      let t = then_accepted (judge (line_faults (is_frame F l) l ++ whole before f) p) (accepted (a, ls)) e in
      let k = line_kept F K.sound l (whole before f) p t.0 in
      let j = then_accepted (judge (K.bytes f) p) (judge (own before a) p) (sym (judge_append (K.bytes f) (own before a) p) ∙ k.2) in
      let same = K.kept f p k.1 j.0 (ranged before a p j.1) in
      subst (λ (q : A × List Line). (l ∷ ls ≡ record_line K q.0 ∷ q.1) × K.Room q.0 × (judge (own before q.0) p ≡ accepted tt))
      (same_value t.1)
      (ap (λ (x : Line). x ∷ ls) (k.0 ∙ ap (line_of F) (sym same)), K.room f k.1, j.1)

  -- ---- a run of lines
  run_written : (before xs : List A) (p : ℕ) (ls : List Line) → Each K.Room xs
      → read_run K.frame K.make whole before (length xs) p (map (record_line K) xs ++ ls) ≡ (check_run own before p xs and_then accepted (xs, ls))
  unfolding read_run check_run pure ◌and_then◌
  run_written before [] p ls h = refl
  run_written before (a ∷ rest) p ls h =
      let lines : List Line = map (record_line K) rest ++ ls in
      let v = judge (own before a) p in
      let w = check_run own (before ++ (a ∷ [])) (suc p) rest in
      go_on v (a, lines) _ (one_written before p a h.0 lines)
      ∙ ap (λ b. v and_then b) (go_on w (rest, ls) _ (run_written (before ++ (a ∷ [])) rest (suc p) ls h.1))
      ∙ then_assoc v w (accepted (a ∷ rest, ls))

  record Kept (n : ℕ) (before : List A) (p : ℕ) (ls : List Line) (r : List A × List Line) : Type 0 where
    lines : ls ≡ map (record_line K) r.0 ++ r.1
    rooms : Each K.Room r.0
    clear : check_run own before p r.0 ≡ accepted tt
    many : length r.0 ≡ n

  run_kept : (n : ℕ) (before : List A) (p : ℕ) (ls : List Line) (r : List A × List Line) → read_run K.frame K.make whole before n p ls ≡ accepted r → Kept n before p ls r
  unfolding read_run check_run pure ◌and_then◌
  run_kept zero before p ls r e = subst (Kept zero before p ls) (same_value e) (record { lines = refl; rooms = tt; clear = refl; many = refl })
  run_kept (suc n) before p ls r e =
      follow_accepted (read_one K.frame K.make (whole before) p ls) (λ a. read_run K.frame K.make whole (before ++ (a ∷ [])) n (suc p) >>= λ rest. pure (a ∷ rest)) e λ q e₁ k₁.
      follow_accepted (read_run K.frame K.make whole (before ++ (q.0 ∷ [])) n (suc p) q.1) (λ rest. pure (q.0 ∷ rest)) k₁ λ t e₂ k₂.
      let one = one_kept before p ls q e₁ in
      let more = run_kept n (before ++ (q.0 ∷ [])) (suc p) q.1 t e₂ in
      subst (Kept (suc n) before p ls) (same_value k₂)
      (record {
        lines = one.0 ∙ ap (λ (x : List Line). record_line K q.0 ∷ x) more.lines;
        rooms = (one.1, more.rooms);
        clear = rw one.2 more.clear;
        many = ap suc more.many;
      })

-- ---- a record that meets no condition has its float in its range
head_ranged : (before : List Head) (h : Head) (p : ℕ) → judge (head_faults h) p ≡ accepted tt → head_kind.Ranged h
head_ranged before h p e = ((head_iff h).0 ((judge_iff (head_faults h) p).0 e)).base

bus_ranged : (before : List Bus) (b : Bus) (p : ℕ) → judge (bus_faults before b) p ≡ accepted tt → bus_kind.Ranged b
unfolding bus_faults
bus_ranged before b p e = not-false _ (judge_passed 5 (not (ok_load b.pd.0)) _ p e).0

branch_ranged : (stored : Bool) (buses : List Bus) (before : List Branch) (b : Branch) (p : ℕ) → judge (branch_faults stored buses b) p ≡ accepted tt → branch_kind.Ranged b
unfolding branch_faults
branch_ranged stored buses before b p e = not-false _ (judge_passed 5 (not (ok_r b.r)) _ p e).0

switch_ranged : (h : Head) (before : List Switch) (s : Switch) (p : ℕ) → judge (switch_faults h before s) p ≡ accepted tt → switch_kind.Ranged s
switch_ranged h before s p e = tt

supply_ranged : (stored : Bool) (buses : List Bus) (branches : List Branch) (switches : List Switch) (before : List ℕ) (id p : ℕ) → judge (supply_faults stored buses branches switches id) p ≡ accepted tt
    → supply_kind.Ranged id
supply_ranged stored buses branches switches before id p e = tt

-- a head that the reader accepts is inside the limits
pub head_passed : (ls : List Line) (r : Head × List Line) → read_one head head_from head_line_faults 1 ls ≡ accepted r → HeadInside r.0
head_passed ls r e = (head_iff r.0).0 ((judge_iff (head_faults r.0) 1).0 (one_kept head_kind (λ before. head_faults) head_ranged [] 1 ls r e).2)

-- the tests of the records, that of the supply, and what stands behind them
pub regroup : {A : Type 0} (a b c d : Judgement) (x : Answer A) → (a and_then (b and_then (c and_then (d and_then x)))) ≡ (((a and_then (b and_then c)) and_then d) and_then x)
regroup a b c d x =
    ap (λ y. a and_then y) (then_assoc b c (d and_then x)) ∙ then_assoc a (b and_then c) (d and_then x) ∙ then_assoc (a and_then (b and_then c)) d x

-- ---- a run of at most one line is a supply, or none
pub one_supply : (ls : List Line) (ids : List ℕ) → length ids ≤ at_most_one ls → supplies (as_option ids) ≡ ids
unfolding at_most_one as_option
one_supply ls [] h = refl
one_supply ls (id ∷ []) h = refl
one_supply [] (id ∷ id' ∷ ids) h = absurd (omega arith)
one_supply (l ∷ ls) (id ∷ id' ∷ ids) h = absurd (omega arith)

first_supply : (z : Option ℕ) → as_option (supplies z) ≡ z
unfolding as_option
first_supply None = refl
first_supply (Some id) = refl

lines_left : (z : Option ℕ) → at_most_one (map (record_line supply_kind) (supplies z)) ≡ length (supplies z)
unfolding at_most_one
lines_left None = refl
lines_left (Some id) = refl

-- ---- the lines of a network
lines_of : Network → List Line
lines_of N =
    record_line head_kind (check.head_of N)
    ∷ (map (record_line bus_kind) N.buses ++ (map (record_line branch_kind) N.branches ++ (map (record_line switch_kind) N.switches ++ map (record_line supply_kind) (supplies N.supply))))

lines_written : (stored : Bool) (N : Network) → Writable N → read_lines stored (lines_of N) ≡ (check_as stored N and_then accepted (N, []))
unfolding lines_of check_as check_supply_line check_lines check.head_of behind_head behind_buses behind_branches behind_switches behind_supply read_end follow pure
lines_written stored N w =
    let h : Head = check.head_of N in
    let z-lines : List Line = map (record_line supply_kind) (supplies N.supply) in
    let s-lines : List Line = map (record_line switch_kind) N.switches ++ z-lines in
    let r-lines : List Line = map (record_line branch_kind) N.branches ++ s-lines in
    let b-lines : List Line = map (record_line bus_kind) N.buses ++ r-lines in
    let p₂ : ℕ = 2 + h.buses in
    let p₃ : ℕ = p₂ + h.branches in
    let p₄ : ℕ = p₃ + h.switches in
    let v₀ : Judgement = judge (head_faults h) 1 in
    let v₁ : Judgement = check_run bus_faults [] 2 N.buses in
    let v₂ : Judgement = check_run (λ before. branch_faults stored N.buses) [] p₂ N.branches in
    let v₃ : Judgement = check_run (switch_faults h) [] p₃ N.switches in
    let v₄ : Judgement = check_run (λ before. supply_faults stored N.buses N.branches N.switches) [] p₄ (supplies N.supply) in
    let end : Answer (Network × List Line) = accepted (N, []) in
    let same : network h N.buses N.branches N.switches (supplies N.supply) ≡ N = λ i. record {
      base = N.base;
      algorithm = N.algorithm;
      iterations = N.iterations;
      buses = N.buses;
      branches = N.branches;
      switches = N.switches;
      supply = first_supply N.supply i;
    } in
    let f₄ : List ℕ → ℕ → List Fault = λ before. supply_faults stored N.buses N.branches N.switches in
    let run : ℕ → List Line → Answer (List ℕ × List Line) = λ n. read_run supply supply_from (λ before. supply_line_faults stored N.buses N.branches N.switches) [] n p₄ in
    let supply_read = ap₂ run (lines_left N.supply) (sym (append-nil z-lines))
    ∙ run_written supply_kind f₄ (supply_ranged stored N.buses N.branches N.switches) [] (supplies N.supply) p₄ [] w.supply_room in
    lines_read stored (lines_of N)
    ∙ go_on v₀ (h, b-lines) (behind_head stored) (one_written head_kind (λ before. head_faults) head_ranged [] 1 h w.head_room b-lines)
    ∙ ap (λ x. v₀ and_then x) (go_on v₁ (N.buses, r-lines) (behind_buses stored h) (run_written bus_kind bus_faults bus_ranged [] N.buses 2 r-lines w.bus_room)
    ∙ ap (λ x. v₁ and_then x) (go_on v₂ (N.branches, s-lines) (behind_branches stored h N.buses) (run_written branch_kind (λ before. branch_faults stored N.buses) (branch_ranged stored N.buses) [] N.branches p₂ s-lines w.branch_room)
    ∙ ap (λ x. v₂ and_then x) (go_on v₃ (N.switches, z-lines) (behind_switches stored h N.buses N.branches) (run_written switch_kind (switch_faults h) (switch_ranged h) [] N.switches p₃ z-lines w.switch_room)
    ∙ ap (λ x. v₃ and_then x) (go_on v₄ (supplies N.supply, []) (behind_supply h N.buses N.branches N.switches) supply_read
    ∙ ap (λ (M : Network). v₄ and_then accepted (M, [])) same))))
    ∙ ap (λ z. v₀ and_then (v₁ and_then z)) (then_assoc v₂ v₃ (v₄ and_then end)) ∙ regroup v₀ v₁ (v₂ and_then v₃) v₄ end

-- what the reader has found once it accepts: a head and a network whose lines are all there are
record Found (stored : Bool) (h : Head) (N : Network) (ls : List Line) : Type 0 where
  lines : ls ≡ record_line head_kind h ∷ (map (record_line bus_kind) N.buses ++ (map (record_line branch_kind) N.branches ++ (map (record_line switch_kind) N.switches ++ map (record_line supply_kind) (supplies N.supply))))
  head_room : head_kind.Room h
  bus_room : Each bus_kind.Room N.buses
  branch_room : Each branch_kind.Room N.branches
  switch_room : Each switch_kind.Room N.switches
  supply_room : Each supply_kind.Room (supplies N.supply)
  head_clear : judge (head_faults h) 1 ≡ accepted tt
  buses_clear : check_run bus_faults [] 2 N.buses ≡ accepted tt
  branches_clear : check_run (λ before. branch_faults stored N.buses) [] (2 + h.buses) N.branches ≡ accepted tt
  switches_clear : check_run (switch_faults h) [] (2 + h.buses + h.branches) N.switches ≡ accepted tt
  supply_clear : check_run (λ before. supply_faults stored N.buses N.branches N.switches) [] (supply_place h) (supplies N.supply) ≡ accepted tt

end_kept : (p : ℕ) (ls : List Line) (r : Unit {0} × List Line) → read_end p ls ≡ accepted r → ls ≡ []
unfolding read_end line_faults
end_kept p [] r e = refl
end_kept p (l ∷ ls) r e =
    let t = then_accepted (judge (line_faults false l) p) (accepted (tt, ls)) e in
    absurd (false≢true (line_passed false l [] p t.0).2)

found : (stored : Bool) (h : Head) (N : Network) (n : ℕ) (l₀ l₁ l₂ l₃ l₄ l₅ : List Line)
    → (l₀ ≡ record_line head_kind h ∷ l₁) × head_kind.Room h × (judge (head_faults h) 1 ≡ accepted tt)
    → Kept bus_kind bus_faults bus_ranged h.buses [] 2 l₁ (N.buses, l₂)
    → Kept branch_kind (λ before. branch_faults stored N.buses) (branch_ranged stored N.buses) h.branches [] (2 + h.buses) l₂ (N.branches, l₃)
    → Kept switch_kind (switch_faults h) (switch_ranged h) h.switches [] (2 + h.buses + h.branches) l₃ (N.switches, l₄)
    → Kept supply_kind (λ before. supply_faults stored N.buses N.branches N.switches) (supply_ranged stored N.buses N.branches N.switches) n [] (supply_place h) l₄ (supplies N.supply, l₅)
    → l₅ ≡ [] → Found stored h N l₀
found stored h N n l₀ l₁ l₂ l₃ l₄ l₅ one buses branches switches ids left =
    let z-lines : l₄ ≡ map (record_line supply_kind) (supplies N.supply) = ids.lines ∙ ap (λ (x : List Line). map (record_line supply_kind) (supplies N.supply) ++ x) left ∙ append-nil _ in
    let s-lines = switches.lines ∙ ap (λ (x : List Line). map (record_line switch_kind) N.switches ++ x) z-lines in
    let r-lines = branches.lines ∙ ap (λ (x : List Line). map (record_line branch_kind) N.branches ++ x) s-lines in
    record {
      lines = one.0 ∙ ap (λ (x : List Line). record_line head_kind h ∷ x) (buses.lines ∙ ap (λ (x : List Line). map (record_line bus_kind) N.buses ++ x) r-lines);
      head_room = one.1;
      bus_room = buses.rooms;
      branch_room = branches.rooms;
      switch_room = switches.rooms;
      supply_room = ids.rooms;
      head_clear = one.2;
      buses_clear = buses.clear;
      branches_clear = branches.clear;
      switches_clear = switches.clear;
      supply_clear = ids.clear;
    }

lines_found : (stored : Bool) (ls : List Line) (r : Network × List Line) → read_lines stored ls ≡ accepted r → (h : Head) × (h ≡ check.head_of r.0) × Found stored h r.0 ls
unfolding behind_head behind_buses behind_branches behind_switches behind_supply check.head_of pure
lines_found stored ls r e =
    follow_accepted (read_one head head_from head_line_faults 1 ls) (behind_head stored) (sym (lines_read stored ls) ∙ e) λ a e₀ k₀.
    follow_accepted _ (behind_buses stored a.0) k₀ λ b e₁ k₁.
    follow_accepted _ (behind_branches stored a.0 b.0) k₁ λ c e₂ k₂.
    follow_accepted _ (behind_switches stored a.0 b.0 c.0) k₂ λ d e₃ k₃.
    follow_accepted _ (behind_supply a.0 b.0 c.0 d.0) k₃ λ g e₄ k₄.
    follow_accepted _ _ k₄ λ f e₅ k₅.
    let h : Head = a.0 in
    let N : Network = network h b.0 c.0 d.0 g.0 in
    let one = one_kept head_kind (λ before. head_faults) head_ranged [] 1 ls a e₀ in
    let buses = run_kept bus_kind bus_faults bus_ranged h.buses [] 2 a.1 b e₁ in
    let branches = run_kept branch_kind (λ before. branch_faults stored b.0) (branch_ranged stored b.0) h.branches [] (2 + h.buses) b.1 c e₂ in
    let switches = run_kept switch_kind (switch_faults h) (switch_ranged h) h.switches [] (2 + h.buses + h.branches) c.1 d e₃ in
    let p : ℕ = 2 + h.buses + h.branches + h.switches in
    let ids = run_kept supply_kind (λ before. supply_faults stored b.0 c.0 d.0) (supply_ranged stored b.0 c.0 d.0) (at_most_one d.1) [] p d.1 g e₄ in
    let supply-kept = subst (λ (l : List ℕ). Kept supply_kind (λ before. supply_faults stored b.0 c.0 d.0) (supply_ranged stored b.0 c.0 d.0) (at_most_one d.1) [] p d.1 (l, g.1))
    (sym (one_supply d.1 g.0 (le_of_eq ids.many))) ids in
    let left = end_kept (supply_place h + 1) g.1 f e₅ in
    let counts : check.head_of N ≡ h = λ i. record { buses = buses.many i; branches = branches.many i; switches = switches.many i; base = h.base; algorithm = h.algorithm; iterations = h.iterations } in
    subst (λ (q : Network × List Line). (k : Head) × (k ≡ check.head_of q.0) × Found stored k q.0 ls) (same_value k₅)
    (h, sym counts, found stored h N (at_most_one d.1) ls a.1 b.1 c.1 d.1 g.1 one buses branches switches supply-kept left)

lines_kept : (stored : Bool) (ls : List Line) (r : Network × List Line) → read_lines stored ls ≡ accepted r → (ls ≡ lines_of r.0) × Writable r.0 × (check_as stored r.0 ≡ accepted tt)
unfolding lines_of check_as check_supply_line check_lines ◌and_then◌
lines_kept stored ls r e =
    let t = lines_found stored ls r e in
    let f : Found stored (check.head_of r.0) r.0 ls = subst (λ h. Found stored h r.0 ls) t.1 t.2 in (
      f.lines,
      record { head_room = f.head_room; bus_room = f.bus_room; branch_room = f.branch_room; switch_room = f.switch_room; supply_room = f.supply_room },
      rw (f.head_clear, f.buses_clear, f.branches_clear, f.switches_clear, f.supply_clear),
    )

-- ---- the text of a network is that of its lines
joined_append : (ls ms : List Line) → joined (ls ++ ms) ≡ joined ls ++ joined ms
unfolding joined
joined_append [] ms = refl
joined_append (l ∷ ls) ms = rw (joined_append ls ms) (simp append_assoc)

joined_records : {A : Type 0} (K : Kind A) (xs : List A) → joined (map (record_line K) xs) ≡ flat_map (λ a. frame_text K.frame (K.fields a)) xs
unfolding joined record_line line_of frame_text flat_map
joined_records K [] = refl
joined_records K (a ∷ rest) = rw (joined_records K rest) (simp append_assoc)

joined_lines : (N : Network) → joined (lines_of N) ≡ text_of N
unfolding lines_of text_of joined record_line line_of frame_text
joined_lines N =
    let b-lines : List Line = map (record_line bus_kind) N.buses in
    let r-lines : List Line = map (record_line branch_kind) N.branches in
    let s-lines : List Line = map (record_line switch_kind) N.switches in
    let z-lines : List Line = map (record_line supply_kind) (supplies N.supply) in
    rw (joined_append b-lines (r-lines ++ (s-lines ++ z-lines)), joined_append r-lines (s-lines ++ z-lines), joined_append s-lines z-lines)
    (rw (joined_records bus_kind N.buses, joined_records branch_kind N.branches, joined_records switch_kind N.switches, joined_records supply_kind (supplies N.supply))
    (sym (append_assoc (line_of head (head_kind.fields (check.head_of N))).chars (10 ∷ []) _)))

lines_digits : {A : Type 0} (K : Kind A) (xs : List A) → Each K.Room xs → Each DigitLine (map (record_line K) xs)
unfolding record_line
lines_digits K [] h = tt
lines_digits K (x ∷ xs) h = (line_digits K.frame K.sound (K.fields x) (K.fit x h.0), lines_digits K xs h.1)

all_digits : (N : Network) → Writable N → Each DigitLine (lines_of N)
unfolding lines_of record_line
all_digits N w =
    let z-digits = lines_digits supply_kind (supplies N.supply) w.supply_room in
    let s-digits = each_append DigitLine (map (record_line switch_kind) N.switches) _ (lines_digits switch_kind N.switches w.switch_room) z-digits in
    let r-digits = each_append DigitLine (map (record_line branch_kind) N.branches) _ (lines_digits branch_kind N.branches w.branch_room) s-digits in
    let b-digits = each_append DigitLine (map (record_line bus_kind) N.buses) _ (lines_digits bus_kind N.buses w.bus_room) r-digits in
    (line_digits head head_kind.sound _ (head_kind.fit (check.head_of N) w.head_room), b-digits)

-- ---- the laws
-- what is written is judged as the records are
pub read_written : (stored : Bool) (N : Network) → Writable N → read_as stored (text_of N) ≡ (check_as stored N and_then accepted N)
unfolding read_as
read_written stored N w =
    ap (λ t. without (read_lines stored (cut t))) (sym (joined_lines N))
    ∙ ap (λ x. without (read_lines stored x)) (cut_joined (lines_of N) (digit_lines (lines_of N) (all_digits N w)))
    ∙ ap without (lines_written stored N w)
    ∙ without_then (check_as stored N) N []

-- what is accepted was written so
pub accepted_written : (stored : Bool) (t : List ℕ) (N : Network) → read_as stored t ≡ accepted N → (t ≡ text_of N) × Writable N × (check_as stored N ≡ accepted tt)
unfolding read_as
accepted_written stored t N e =
    without_accepted (read_lines stored (cut t)) e λ r e₁ same.
    let k = lines_kept stored (cut t) r e₁ in
    subst (λ (M : Network). (t ≡ text_of M) × Writable M × (check_as stored M ≡ accepted tt)) same
    (sym (joined_cut t) ∙ ap joined k.0 ∙ joined_lines r.0, k.1, k.2)
