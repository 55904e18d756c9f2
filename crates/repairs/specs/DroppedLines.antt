-- The frames 87 position by position, as loops over the branches and over the switches write them: the line of one position, and those of all in their order. How the code writes them stands in
-- `proofs/Dropping`; no proof needs these laws today, and what they say of the definitions holds as before.
use Rattle.std.specs.Prelude.{◌≡◌, Bool, cond}
use Rattle.std.proofs.Math.Path.{refl, sym, ap}
use Rattle.std.proofs.Common.{◌∙◌}
use Rattle.std.proofs.Math.Bool.{true, false, not, not-not}
use mathlib.Core.List.{List, [], ◌∷◌, ◌++◌, flat_map, append-nil}
use Prim.Native.Nat.{ℕ, zero, suc, ◌+◌, ◌<◌}
use Rattle.std.proofs.Math.Nat.{add-zero}
use native.Mathlib.Omega.{arith}
use Rattle.std.proofs.Math.ListN.{length, get_or}
use Rattle.numbers.specs.UpTo.{table}
use Rattle.numbers.specs.TableLaws.{length_table}
use Rattle.network.specs.declared.switch.Switch.{Switch}
use Rattle.network.specs.declared.topology.PowerNetwork.{PowerNetwork}
use Rattle.network.specs.Answers.{accepted}
use Rattle.network.specs.Check.{check_records}
use Rattle.network.specs.Limits.{is_own_loop}
use Rattle.network.specs.ReadLaws.{past_branch, branch_read}
use Rattle.network.specs.Records.{no_branch, no_switch, records_of}
use Rattle.own_loops.specs.OwnLoops.{branch_reason, switch_reason, Dropped, proper_at, dropped_from, dropped_branches, dropped_switches}
use Rattle.states.specs.Listed.{buses_listed, branches_listed, branch_at, switch_listed}
use Rattle.slices.specs.Written.{written}
use Rattle.slices.specs.WrittenLaws.{written_room}
use Rattle.printing.specs.Printed.{dropped_text}
use Rattle.printing.specs.Lengths.{dropped_length}
use Rattle.printing.specs.LineTexts.{lines_more, length_dropped}
use Rattle.repairs.specs.Repairs.{dropped_lines_text}
use Rattle.repairs.specs.RepairValues.{line_if, branch_line, switch_line}

-- ---- the line of one
module _ (isDropped : Bool) (line reason : ℕ) (out : List ℕ) where
  pub line_written : isDropped ≡ true → {after : List ℕ} → after ≡ written (dropped_text line reason) out
      → (after ≡ written (line_if isDropped line reason) out) × (dropped_length ≡ length (line_if isDropped line reason))
  unfolding line_if
  line_written e w = rw e (w, sym (length_dropped line reason))

  pub line_none : isDropped ≡ false → (out ≡ written (line_if isDropped line reason) out) × (0 ≡ length (line_if isDropped line reason))
  unfolding line_if
  line_none e = rw e (sym (written_room [] out (omega arith)), refl)

-- ---- of a kind, by rising position
module _ {A : Type 0} (p : A → Bool) (reason : ℕ) where
  -- one more, if it is dropped
  more : Bool → ℕ → List Dropped
  more b line = cond b (record { line = line; reason = reason } ∷ []) []

  from_more : (line : ℕ) (l : List A) (a : A) → dropped_from p reason line (l ++ (a ∷ [])) ≡ dropped_from p reason line l ++ more (p a) (line + length l)
  unfolding dropped_from more
  from_more line [] a = rw add-zero
  from_more line (x ∷ l) a =
      let e : suc line + length l ≡ line + suc (length l) = omega arith in
      rw (from_more (suc line) l a, e) (go (p x))
    where
      later : List Dropped
      later = dropped_from p reason (suc line) l

      last : List Dropped
      last = more (p a) (line + suc (length l))

      go : (b : Bool) → cond b (record { line = line; reason = reason } ∷ (later ++ last)) (later ++ last) ≡ cond b (record { line = line; reason = reason } ∷ later) later ++ last
      go true = refl
      go false = refl

  text_more : (l : List Dropped) (b : Bool) (line : ℕ) → dropped_lines_text (l ++ more b line) ≡ dropped_lines_text l ++ line_if b line reason
  unfolding more line_if
  text_more l true line = lines_more _ l _
  text_more l false line = ap dropped_lines_text (append-nil l) ∙ sym (append-nil (dropped_lines_text l))

  by_position : (line : ℕ) (g : ℕ → A) (q : ℕ → Bool) (n : ℕ) → ((k : ℕ) → k < n → p (g k) ≡ q k)
      → dropped_lines_text (dropped_from p reason line (table g n)) ≡ flat_map (λ k. line_if (q k) (line + k) reason) (table (λ k. k) n)
  unfolding table dropped_from flat_map
  by_position line g q zero h = refl
  by_position line g q (suc n) h =
      ap dropped_lines_text (from_more line (table g n) (g n)) ∙ text_more (dropped_from p reason line (table g n)) (p (g n)) (line + length (table g n))
      ∙ rw (length_table g n, h n (omega arith), by_position line g q n (λ k l. h k (omega arith)))
      (sym (lines_more (λ k. line_if (q k) (line + k) reason) (table (λ k. k) n) n))

-- ---- of a value
module _ (n : PowerNetwork) where
  -- as the code reads them
  module _ (full : length n.branches ≡ 512) where
    pub branch_line_lem : (k : ℕ) → k < 512 → {isDropped : Bool} {line : ℕ} → isDropped ≡ is_own_loop (get_or n.branches k past_branch) → line ≡ 2 + n.bus_count + k
        → line_if isDropped line branch_reason ≡ branch_line n k
    branch_line_lem k h e f = rw (e, f, branch_read n.branches k full h)

    pub switch_line_lem : (i : ℕ) {on : ℕ} → on ≡ (get_or n.switches i no_switch).branch_idx → on < 512 → {isDropped : Bool} {line : ℕ}
        → isDropped ≡ is_own_loop (get_or n.branches on past_branch) → line ≡ 2 + n.bus_count + n.branch_count + i → line_if isDropped line switch_reason ≡ switch_line n i
    switch_line_lem i {on} o h e f = rw (e, f, branch_read n.branches on full h, o)

  pub branch_lines_lem : dropped_lines_text (dropped_branches (records_of n)) ≡ flat_map (branch_line n) (table (λ k. k) n.branch_count)
  branch_lines_lem =
      rw (buses_listed n)
      (unfold records_of in by_position is_own_loop branch_reason (2 + n.bus_count) (λ k. get_or n.branches k no_branch) (λ k. is_own_loop (get_or n.branches k no_branch)) n.branch_count (λ k h. refl))

  module _ (ok : check_records (records_of n) ≡ accepted tt) where
    -- a switch is on a listed branch
    gone : (i : ℕ) → i < n.switch_count
        → not (proper_at (records_of n).branches (get_or n.switches i no_switch).branch_idx) ≡ is_own_loop (get_or n.branches (get_or n.switches i no_switch).branch_idx no_branch)
    gone i h = not-not _ ∙ ap is_own_loop (branch_at n _ (switch_listed n ok i h))

    pub switch_lines_lem : dropped_lines_text (dropped_switches (records_of n)) ≡ flat_map (switch_line n) (table (λ i. i) n.switch_count)
    switch_lines_lem =
        rw (buses_listed n, branches_listed n)
        (unfold records_of in by_position
        (λ (s : Switch). not (proper_at (records_of n).branches s.branch_idx))
        switch_reason
        (2 + n.bus_count + n.branch_count)
        (λ i. get_or n.switches i no_switch)
        (λ i. is_own_loop (get_or n.branches (get_or n.switches i no_switch).branch_idx no_branch))
        n.switch_count
        gone)
