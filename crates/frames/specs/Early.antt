-- A text's first `deciding_length` bytes decide: the longest acceptable text has `longest_text`, and the line after that shows its fault in `deciding_line`.
use Rattle.std.specs.Prelude.{◌≡◌, refl, Bool, true, false, cond, List, [], ◌∷◌, ◌++◌, eqb, take}
use Rattle.std.proofs.Common.{sym, ◌∙◌, lt-ltb}
use Rattle.std.proofs.Math.Path.{ap}
use Prim.Native.Nat.{ℕ, zero, suc, ◌+◌, ◌*◌, ◌≤◌, suc-le-suc}
use native.Mathlib.Omega.{arith}
use Rattle.std.proofs.Math.ListN.{length}
use Rattle.network.specs.declared.bus.Bus.{Bus}
use Rattle.network.specs.declared.branch.Branch.{Branch}
use Rattle.network.specs.declared.switch.Switch.{Switch}
use Rattle.network.specs.Answers.{Answer, accepted, refused, ◌and_then◌, Fault, judge, Judgement}
use Rattle.lines.specs.Hex.{Fields, total}
use Rattle.lines.specs.Lines.{Line, put, cut, line_faults}
use Rattle.lines.specs.Frames.{Frame, layout}
use Rattle.record_lines.specs.Kinds.{head, bus, branch, switch, supply, is_frame, fields_of, head_from, bus_from, branch_from, switch_from, supply_from, head_line_faults, bus_line_faults, branch_line_faults, switch_line_faults, Reader, read_one, without}
use Rattle.frames.specs.Text.{follow, pure, read_run, read_end, at_most_one, supply_line_faults, supply_place, read_supply, read_lines, read_as}
use Rattle.frames.specs.Lengths.{line_length, longest_text, deciding_line, deciding_length}
use Rattle.frames.specs.LineLaws.{Sound, head_sound, bus_sound, branch_sound, switch_sound, supply_sound, line_kept, line_long}
use Rattle.frames.specs.ReadLaws.{head_passed}

-- the lines of a text (left) and those of its first n bytes (right)
data Same : ℕ → List Line → List Line → Type 0 where
  equal : {n : ℕ} {ls : List Line} → Same n ls ls
  next : {n : ℕ} {l : Line} {ls ms : List Line} (k : ℕ) → n ≡ k + suc (length l.chars) → Same k ls ms → Same n (l ∷ ls) (l ∷ ms)
  long : {n : ℕ} {l m : Line} {ls ms : List Line} → n ≤ length l.chars → n ≤ length m.chars → Same n (l ∷ ls) (m ∷ ms)
  out : {n : ℕ} {ls ms : List Line} → n ≡ 0 → Same n ls ms

one : (n : ℕ) → n ≡ 0 → (m : ℕ) → suc n ≤ suc m
one n e m = omega arith

put_out : (n : ℕ) (c : ℕ) (ls ms : List Line) → n ≡ 0 → Same (suc n) (put c ls) (put c ms)
unfolding put
put_out n c [] [] e = equal
put_out n c [] (m ∷ ms) e = long (one n e 0) (one n e (length m.chars))
put_out n c (l ∷ ls) [] e = long (one n e (length l.chars)) (one n e 0)
put_out n c (l ∷ ls) (m ∷ ms) e = long (one n e (length l.chars)) (one n e (length m.chars))

put_same : {n : ℕ} {ls ms : List Line} (c : ℕ) → Same n ls ms → Same (suc n) (put c ls) (put c ms)
unfolding put
put_same c equal = equal
put_same c (next {n = n} {l = l} k e s) = let f : suc n ≡ k + suc (suc (length l.chars)) = omega arith in next k f s
put_same c (long p q) = long (suc-le-suc p) (suc-le-suc q)
put_same c (out {n = n} {ls = ls} {ms = ms} e) = put_out n c ls ms e

cut_take : (n : ℕ) (t : List ℕ) → Same n (cut t) (cut (take n t))
unfolding cut
cut_take zero t = out refl
cut_take (suc n) [] = equal
cut_take (suc n) (c ∷ t) = go (eqb c 10) (cut_take n t)
  where
    go : (b : Bool) → Same n (cut t) (cut (take n t))
        → Same (suc n) (cond b (record { chars = []; ended = true } ∷ cut t) (put c (cut t))) (cond b (record { chars = []; ended = true } ∷ cut (take n t)) (put c (cut (take n t))))
    go true s = let f : suc n ≡ n + 1 = omega arith in next n f s
    go false s = put_same c s

-- answers that agree, with at least k bytes' lines the same after what was read
data Alike {A : Type 0} (k : ℕ) : Answer (A × List Line) → Answer (A × List Line) → Type 0 where
  both_refused : {m p : ℕ} → Alike k (refused m p) (refused m p)
  both_accepted : {a : A} {ls ms : List Line} (n : ℕ) → k ≤ n → Same n ls ms → Alike k (accepted (a, ls)) (accepted (a, ms))

alike_refl : {A : Type 0} (k n : ℕ) → k ≤ n → (x : Answer (A × List Line)) → Alike k x x
alike_refl k n h (accepted r) = both_accepted n h equal
alike_refl k n h (refused m p) = both_refused

without_alike : {A : Type 0} {k : ℕ} {x y : Answer (A × List Line)} → Alike k x y → without x ≡ without y
unfolding without
without_alike both_refused = refl
without_alike (both_accepted n h s) = refl

follow_alike : {A B : Type 0} (k j : ℕ) (x y : Answer (A × List Line)) (f : A → Reader B) → Alike k x y
    → ((a : A) (n : ℕ) (ls ms : List Line) → x ≡ accepted (a, ls) → k ≤ n → Same n ls ms → Alike j (f a ls) (f a ms)) → Alike j (follow x f) (follow y f)
unfolding follow
follow_alike k j x y f both_refused g = both_refused
follow_alike k j x y f (both_accepted {a = a} {ls = ls} {ms = ms} n h t) g = g a n ls ms refl h t

-- a line over 36 characters
long_refused : {A : Type 0} (b : Bool) (l : Line) (fs : List Fault) (p n : ℕ) (x : Answer A) → deciding_line ≤ n → n ≤ length l.chars → (judge (line_faults b l ++ fs) p and_then x) ≡ refused 2 p
unfolding judge line_faults ◌and_then◌
long_refused b l fs p n x h k = rw (lt-ltb 36 (length l.chars) (omega arith))

both_long : {A : Type 0} (k p : ℕ) (x y : Answer (A × List Line)) → x ≡ refused 2 p → y ≡ refused 2 p → Alike k x y
both_long k p x y e f = rw (e, f) both_refused

then_alike : {A : Type 0} (v : Judgement) (k j : ℕ) (a : A) (ls ms : List Line) → (v ≡ accepted tt → k ≤ j) → Same j ls ms
    → Alike k (v and_then accepted (a, ls)) (v and_then accepted (a, ms))
unfolding ◌and_then◌
then_alike (accepted u) k j a ls ms h t = both_accepted j (h refl) t
then_alike (refused m p) k j a ls ms h t = both_refused

module _ {A : Type 0} (F : Frame) (s : Sound F) (make : Fields F.widths → A) where
  one_same : (faults : Fields F.widths → List Fault) (p k n : ℕ) (ls ms : List Line) → deciding_line ≤ n → suc (total (layout F)) + k ≤ n → Same n ls ms
      → Alike k (read_one F make faults p ls) (read_one F make faults p ms)
  unfolding read_one
  one_same faults p k n ls ms h₁ h₂ equal = alike_refl k n (omega arith) (read_one F make faults p ls)
  one_same faults p k n ls ms h₁ h₂ (next {l = l} {ls = ls'} {ms = ms'} j e t) =
      then_alike (judge (line_faults (is_frame F l) l ++ faults (fields_of F l)) p) k j (make (fields_of F l)) ls' ms' room t
    where
      room : judge (line_faults (is_frame F l) l ++ faults (fields_of F l)) p ≡ accepted tt → k ≤ j
      room q =
          let size : length l.chars ≡ total (layout F) = ap (λ (x : Line). length x.chars) (line_kept F s l (faults (fields_of F l)) p q).0 ∙ line_long F s (fields_of F l) in
          omega arith
  one_same faults p k n ls ms h₁ h₂ (long {l = l} {m = m} a b) =
      both_long k p _ _ (long_refused (is_frame F l) l (faults (fields_of F l)) p n _ h₁ a) (long_refused (is_frame F m) m (faults (fields_of F m)) p n _ h₁ b)
  one_same faults p k n ls ms h₁ h₂ (out e) = absurd (omega arith)

  run_same : (faults : List A → Fields F.widths → List Fault) (before : List A) (m p k n : ℕ) (ls ms : List Line) → deciding_line ≤ k → m * suc (total (layout F)) + k ≤ n → Same n ls ms
      → Alike k (read_run F make faults before m p ls) (read_run F make faults before m p ms)
  unfolding read_run pure
  run_same faults before zero p k n ls ms h₁ h₂ t = both_accepted n (omega arith) t
  run_same faults before (suc m) p k n ls ms h₁ h₂ t =
      follow_alike (m * suc (total (layout F)) + k) k _ _ _ (one_same (faults before) p (m * suc (total (layout F)) + k) n ls ms (omega arith) (omega arith) t)
      λ a n₁ ls₁ ms₁ e₁ g₁ t₁. follow_alike k k _ _ _ (run_same faults (before ++ (a ∷ [])) m (suc p) k n₁ ls₁ ms₁ h₁ g₁ t₁)
      λ rest n₂ ls₂ ms₂ e₂ g₂ t₂. both_accepted n₂ g₂ t₂

-- a line is left in both, or in neither
left_same : (n : ℕ) (ls ms : List Line) → deciding_line ≤ n → Same n ls ms → (at_most_one ms ≡ at_most_one ls) × (at_most_one ls ≤ 1)
unfolding at_most_one
left_same n [] ms h equal = (refl, omega arith)
left_same n (l ∷ ls) ms h equal = (refl, omega arith)
left_same n ls ms h (next k e t) = (refl, omega arith)
left_same n ls ms h (long a b) = (refl, omega arith)
left_same n ls ms h (out e) = absurd (omega arith)

supply_same : (stored : Bool) (buses : List Bus) (branches : List Branch) (switches : List Switch) (p n : ℕ) (ls ms : List Line) → line_length supply + deciding_line ≤ n → Same n ls ms
    → Alike deciding_line (read_supply stored buses branches switches p ls) (read_supply stored buses branches switches p ms)
supply_same stored buses branches switches p n ls ms h t =
    let a = left_same n ls ms (omega arith) t in
    let few = a.1 in
    rw a.0 (run_same supply supply_sound supply_from (λ before. supply_line_faults stored buses branches switches) [] (at_most_one ls) p deciding_line n ls ms (omega arith) (omega arith) t)

end_same : (p n : ℕ) (ls ms : List Line) → deciding_line ≤ n → Same n ls ms → Alike 0 (read_end p ls) (read_end p ms)
unfolding read_end line_faults
end_same p n ls ms h equal = alike_refl 0 n (omega arith) (read_end p ls)
end_same p n ls ms h (next {l = l} {ls = ls'} {ms = ms'} j e t) = then_alike (judge (line_faults false l) p) 0 j (tt {0}) ls' ms' (λ q. omega arith) t
end_same p n ls ms h (long {l = l} {m = m} a b) = both_long 0 p _ _ (long_refused false l [] p n _ h a) (long_refused false m [] p n _ h b)
end_same p n ls ms h (out e) = absurd (omega arith)

lines_same : (stored : Bool) (n : ℕ) (ls ms : List Line) → deciding_length ≤ n → Same n ls ms → Alike 0 (read_lines stored ls) (read_lines stored ms)
unfolding read_lines pure
lines_same stored n ls ms h t =
    follow_alike longest_text 0 _ _ _ (one_same head head_sound head_from head_line_faults 1 longest_text n ls ms (omega arith) (omega arith) t)
    λ hd n₀ ls₀ ms₀ e₀ g₀ t₀.
    let c = (head_passed ls (hd, ls₀) e₀).counts in
    let behind-switches : ℕ = line_length supply + deciding_line in
    let behind-branches : ℕ = hd.switches * line_length switch + behind-switches in
    let behind-buses : ℕ = hd.branches * line_length branch + behind-branches in
    let room : hd.buses * line_length bus + behind-buses ≤ longest_text = omega (arith, c.0, c.1, c.2) in
    follow_alike behind-buses 0 _ _ _
    (run_same bus bus_sound bus_from bus_line_faults [] hd.buses 2 behind-buses n₀ ls₀ ms₀ (omega arith) (omega arith) t₀)
    λ buses n₁ ls₁ ms₁ e₁ g₁ t₁.
    follow_alike behind-branches 0 _ _ _
    (run_same branch branch_sound branch_from (λ before. branch_line_faults stored buses) [] hd.branches (2 + hd.buses) behind-branches n₁ ls₁ ms₁ (omega arith) (omega arith) t₁)
    λ branches n₂ ls₂ ms₂ e₂ g₂ t₂.
    follow_alike behind-switches 0 _ _ _
    (run_same switch switch_sound switch_from (switch_line_faults hd) [] hd.switches (2 + hd.buses + hd.branches) behind-switches n₂ ls₂ ms₂ (omega arith) (omega arith) t₂)
    λ switches n₃ ls₃ ms₃ e₃ g₃ t₃.
    follow_alike deciding_line 0 _ _ _ (supply_same stored buses branches switches (supply_place hd) n₃ ls₃ ms₃ g₃ t₃)
    λ ids n₄ ls₄ ms₄ e₄ g₄ t₄.
    follow_alike 0 0 _ _ _ (end_same (supply_place hd + 1) n₄ ls₄ ms₄ g₄ t₄)
    λ u n₅ ls₅ ms₅ e₅ g₅ t₅. both_accepted n₅ g₅ t₅

pub read_early : (stored : Bool) (n : ℕ) (t : List ℕ) → deciding_length ≤ n → read_as stored (take n t) ≡ read_as stored t
unfolding read_as
read_early stored n t h = sym (without_alike (lines_same stored n (cut t) (cut (take n t)) h (cut_take n t)))
