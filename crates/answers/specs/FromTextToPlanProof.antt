-- The main statement, proved: what the call writes is what is printed for the text (`text_printed`), and that is the text of its records (`network_printed`); its lines are
-- those of the result, of the operations and of the pairs (`network_lines`); each kind is read back as it was written, for the ids of a text's records have four digits
-- (`switch_short`) and a pair has at most two of a branch (`few_open`).
use Rattle.std.specs.Prelude.{◌≡◌, ◌≢◌, Bool, not, ℕ, zero, suc, ◌≤◌, ◌<◌, eqb, length, take, drop, Ok}
use Rattle.std.proofs.Math.Path.{refl, sym, ap, ap₂, subst}
use Rattle.std.proofs.Common.{◌∙◌, arith, lit<, eq-eqb}
use Rattle.std.proofs.Math.Bool.{true, false, cond}
use mathlib.Core.List.Memᴰ
use mathlib.Core.List.{List, [], ◌∷◌, ◌++◌, map, flat_map, append-nil, append_assoc, Memᴰ}
use Rattle.std.specs.Float.{binary64}
use Rattle.std.specs.Float.Ieee.{to_bits}
use Rattle.std.proofs.Math.ListN.{length-map}
use Rattle.std.proofs.Math.Seq.{take-append_seam, drop-append_seam}
use Rattle.std.proofs.lemmas.Bool.{not-true}
use Rattle.numbers.specs.Choose.{those}
use Rattle.numbers.specs.ChooseLaws.{in_those, of_those, those_long}
use Rattle.numbers.specs.Tests.{clash}
use Rattle.network.specs.Records.{Network, no_switch}
use Rattle.network.specs.Answers.{Answer, accepted, refused, answer_of}
use Rattle.network.specs.AnswerLaws.{no_refusal}
use Rattle.network.specs.Inside.{Each}
use Rattle.network.specs.InsideLaws.{check_inside}
use Rattle.network.specs.EachLaws.{each_anywhere, each_if, each_made, map_kept}
use Rattle.states.specs.Switches.{State, byte, size, switch, GoodState}
use Rattle.states.specs.OpenCounts.{open_at, open_count, two_open}
use Rattle.graph.specs.declared.form.Form.{Form}
use Rattle.graph.specs.declared.form.FormFields.{FormFields}
use Rattle.graph.specs.Form.{is_tree, islands_field, branch_field, fields_of}
use Rattle.lines.specs.Hex.{Fields}
use Rattle.lines.specs.Lines.{Line, cut}
use Rattle.frames.specs.Text.{read_text}
use Rattle.frames.specs.Conditions.{judgement_of}
use Rattle.frames.specs.Acceptable.{Short, SwitchRoom, Writable}
use Rattle.frames.specs.LineLaws.{line_of, cut_frame, cut_each, cut_frames}
use Rattle.frames.specs.Proof.{claim, passed}
use Rattle.printing.specs.declared.writer.SwitchAction.{SwitchAction}
use Rattle.printing.specs.declared.writer.SwitchAction.TheVariants.{Open, Close}
use Rattle.printing.specs.declared.writer.SwitchOperation.{SwitchOperation}
use Rattle.printing.specs.Printed.{answer, answer_fields, answer_text, form_frame, form_fields, form_text, operation, operation_fields, operation_text, pair_text}
use Rattle.printing.specs.CallLaws.{call_answered}
use Rattle.feeders.specs.Supply.{check_network}
use Rattle.feeders.specs.SupplyLaws.{network_records}
use Rattle.feeders.specs.Feeder.{radial_in}
use Rattle.feeders.specs.FeederLaws.{radial_in_tree, form_in_says, form_in_small}
use Rattle.plan.specs.Plan.{pairs, Moves, open_switches, id_of, moves_of, plan, plan_text}
use Rattle.states.specs.BaseLaws.{base_good}
use Rattle.searches.specs.Results.{Result, result_by}
use Rattle.reconfiguration.specs.Solve.{result}
use Rattle.reconfiguration.specs.AnswersHavePlans.{best_good, solve_has_plan}
use Rattle.operations.specs.Operations.{operation_to, operation_of, operations, operations_text}
use Rattle.operations.specs.OperationValues.{differs}
use Rattle.operations.specs.OperationLines.{by_position}
use Rattle.answers.specs.Printing.{result_text, result_lines, operation_lines, plan_lines, move_lines, network_text, printed_of, printed, answered_text}
use Rattle.answers.specs.ReadBack.{of_kind, read_form, forms_in, read_operation, operations_in, read_pair, pairs_in}
use Rattle.answers.specs.ReadBackLaws.{own_kind, other_kind, answer_kind, form_kind, operation_kind, form_kept, operation_kept, pair_line, pair_kind, cut_pair, Named, pair_kept}
use Rattle.answers.specs.Full.{always_printed}
use Rattle.answers.specs.FromTextToPlan.{Done, base, wanted, FromTextToPlan, MainStatement}

-- ---- what the call writes
network_printed : (text : List ℕ) (N : Network) → read_text text ≡ accepted N → printed text ≡ network_text N
unfolding printed
network_printed text N r = ap printed_of r

text_printed : (text out after : List ℕ) (n : ℕ) → record { answer = answer_of (Ok n); out = after } ≡ answered_text text out → take n after ≡ printed text
unfolding answered_text
text_printed text out after n e = let c = call_answered _ (length (printed text)) (printed text) out e in rw (c.1, c.2) (take-append_seam (printed text) _)

-- a text that is not refused has records
text_has_records : (text out after : List ℕ) (n : ℕ) → record { answer = answer_of (Ok n); out = after } ≡ answered_text text out → (N : Network) × (read_text text ≡ accepted N)
unfolding answered_text judgement_of
text_has_records text out after n e = go (read_text text) refl (call_answered _ _ (printed text) out e).0
  where
    go : (a : Answer Network) → read_text text ≡ a → judgement_of a ≡ accepted tt → (N : Network) × (read_text text ≡ accepted N)
    go (accepted N) r j = (N, r)
    go (refused number place) r j = no_refusal j

-- ---- the lines of a feeder's text
abbrev result_fields : Result → Fields answer.widths
result_fields r = answer_fields (is_tree r.form) (to_bits binary64 r.base_loss) (to_bits binary64 r.best_loss) (to_bits binary64 r.reduction) r.iterations r.converged

abbrev answer_line : Result → Line
answer_line r = line_of answer (result_fields r)

abbrev form_line : Form → Line
form_line f = line_of form_frame (form_fields f)

abbrev operation_line : SwitchOperation → Line
operation_line o = line_of operation (operation_fields o)

-- the 81 line, the 84 line, the 82 lines and the 86 lines
lines_text : Result → List SwitchOperation → List Moves → List ℕ
lines_text r os ms = result_lines r ++ (operations_text os ++ plan_text ms)

module _ (r : Result) (os : List SwitchOperation) (ms : List Moves) where
  abbrev lines86 : List Line
  lines86 = map pair_line ms ++ []

  abbrev lines82 : List Line
  lines82 = map operation_line os ++ lines86

  abbrev lines84 : List Line
  lines84 = map form_line (r.form ∷ []) ++ lines82

  lines_cut : cut (lines_text r os ms) ≡ map answer_line (r ∷ []) ++ lines84
  unfolding lines_text result_lines result_text answer_text form_text operations_text operation_text plan_text cut
  lines_cut =
      ap cut (append_assoc (result_text r) (form_text r.form) (operations_text os ++ plan_text ms))
      ∙ cut_frame answer (result_fields r) (form_text r.form ++ (operations_text os ++ plan_text ms))
      ∙ ap (λ (ls : List Line). answer_line r ∷ ls)
      (cut_frame form_frame (form_fields r.form) (operations_text os ++ plan_text ms)
      ∙ ap (λ (ls : List Line). form_line r.form ∷ ls)
      (cut_frames operation operation_fields os (plan_text ms)
      ∙ ap (λ (ls : List Line). map operation_line os ++ ls) (ap cut (sym (append-nil (plan_text ms))) ∙ cut_each (λ (m : Moves). pair_text m.closes m.opens) pair_line cut_pair ms [])))

  -- ---- read back
  pairs_back : Each Named ms → pairs_in (lines_text r os ms) ≡ ms
  unfolding pairs_in of_kind
  pairs_back named =
      ap (of_kind 0x86 read_pair) lines_cut
      ∙ other_kind 0x86 read_pair answer_line (λ x e. omega (arith, answer_kind (result_fields x))) (r ∷ []) lines84
      ∙ other_kind 0x86 read_pair form_line (λ f e. omega (arith, form_kind (form_fields f))) (r.form ∷ []) lines82
      ∙ other_kind 0x86 read_pair operation_line (λ o e. omega (arith, operation_kind (operation_fields o))) os lines86
      ∙ own_kind 0x86 read_pair pair_line pair_kind ms []
      ∙ append-nil _
      ∙ map_kept Named (λ m. read_pair (pair_line m).chars) pair_kept ms named

  form_back : Short (islands_field r.form) × Short (branch_field r.form) → forms_in (lines_text r os ms) ≡ fields_of r.form ∷ []
  unfolding forms_in of_kind
  form_back short =
      ap (of_kind 0x84 read_form) lines_cut
      ∙ other_kind 0x84 read_form answer_line (λ x e. omega (arith, answer_kind (result_fields x))) (r ∷ []) lines84
      ∙ own_kind 0x84 read_form form_line (λ f. form_kind (form_fields f)) (r.form ∷ []) lines82
      ∙ ap (λ (l : List FormFields). read_form (form_line r.form).chars ∷ l)
      (other_kind 0x84 read_form operation_line (λ o e. omega (arith, operation_kind (operation_fields o))) os lines86
      ∙ other_kind 0x84 read_form pair_line (λ m e. omega (arith, pair_kind m)) ms [])
      ∙ ap (λ (x : FormFields). x ∷ []) (form_kept r.form short)

  operations_back : Each (λ o. Short o.switch_id) os → operations_in (lines_text r os ms) ≡ os
  unfolding operations_in of_kind
  operations_back named =
      ap (of_kind 0x82 read_operation) lines_cut
      ∙ other_kind 0x82 read_operation answer_line (λ x e. omega (arith, answer_kind (result_fields x))) (r ∷ []) lines84
      ∙ other_kind 0x82 read_operation form_line (λ f e. omega (arith, form_kind (form_fields f))) (r.form ∷ []) lines82
      ∙ own_kind 0x82 read_operation operation_line (λ o. operation_kind (operation_fields o)) os lines86
      ∙ ap (λ (l : List SwitchOperation). map (λ o. read_operation (operation_line o).chars) os ++ l) (other_kind 0x82 read_operation pair_line (λ m e. omega (arith, pair_kind m)) ms [])
      ∙ append-nil _
      ∙ map_kept (λ o. Short o.switch_id) (λ o. read_operation (operation_line o).chars) operation_kept os named

-- ---- the operations by the positions of the switches
-- what is done to a switch that stands otherwise, by its two bytes
done_so : (before after : ℕ) → before ≤ 1 → after ≤ 1 → before ≢ after → Done (cond (eqb after 1) Open Close) before after
done_so zero zero b a d = absurd (d refl)
done_so zero (suc zero) b a d = (refl, refl)
done_so (suc zero) zero b a d = (refl, refl)
done_so (suc zero) (suc zero) b a d = absurd (d refl)
done_so zero (suc (suc n)) b a d = absurd (omega arith)
done_so (suc zero) (suc (suc n)) b a d = absurd (omega arith)
done_so (suc (suc n)) after b a d = absurd (omega arith)

done_only : (a : SwitchAction) (before after : ℕ) → Done a before after → (a ≡ cond (eqb after 1) Open Close) × (not (eqb before after) ≡ true)
done_only Open before after d = (rw d.1, rw (d.0, d.1))
done_only Close before after d = (rw d.1, rw (d.0, d.1))

module _ (N : Network) (from to : State) where
  abbrev moving : List ℕ
  moving = those (differs from to) (size N)

  -- an operation is in the list exactly for a switch that stands otherwise
  module _ (f : GoodState N from) (t : GoodState N to) (o : SwitchOperation) where
    moved_so : Memᴰ o (map (operation_of N to) moving) → (i : ℕ) × (i < size N) × (o.switch_id ≡ (switch N i).id) × Done o.action (byte from i) (byte to i)
    unfolding operation_to
    moved_so m =
        let (i, among, e) = Memᴰ.of_map (operation_of N to) moving m in
        let (l, d) = of_those (differs from to) (size N) i among in
        let done = done_so (byte from i) (byte to i) (f.bytes i l) (t.bytes i l) (λ q. clash (eq-eqb (byte from i) (byte to i) q) (not-true _ d)) in
        (i, l, ap (λ (x : SwitchOperation). x.switch_id) (sym e), subst (λ (x : SwitchOperation). Done x.action (byte from i) (byte to i)) e done)

    moved_if : (i : ℕ) × (i < size N) × (o.switch_id ≡ (switch N i).id) × Done o.action (byte from i) (byte to i) → Memᴰ o (map (operation_of N to) moving)
    unfolding operation_to
    moved_if (i, l, id, d) =
        let only = done_only o.action (byte from i) (byte to i) d in
        let same : o ≡ operation_of N to i = ap₂ (λ (x : ℕ) (a : SwitchAction). record { switch_id = x; action = a }) id only.0 in
        Memᴰ.cast same (Memᴰ.map (operation_of N to) (in_those (differs from to) (size N) i l only.1))

-- ---- of a feeder from a text
no_lines : plan_text [] ≡ []
unfolding plan_text flat_map
no_lines = refl

module _ (N : Network) where
  -- "only for a radial base"
  abbrev pairs_printed : List Moves
  pairs_printed = cond (radial_in N (base N)) (plan N (base N) (wanted N)) []

  network_lines : network_text N ≡ lines_text (result N) (operations N (base N) (wanted N)) pairs_printed
  unfolding network_text move_lines operation_lines plan_lines lines_text
  network_lines = ap (λ (x : List ℕ). result_lines (result N) ++ (operations_text (operations N (base N) (wanted N)) ++ x)) (go (radial_in N (base N)))
    where
      go : (b : Bool) → cond b (plan_text (plan N (base N) (wanted N))) [] ≡ plan_text (cond b (plan N (base N) (wanted N)) [])
      go true = refl
      go false = sym no_lines

  -- ids have four digits
  module _ (w : Writable N) where
    switch_short : (i : ℕ) → Short (switch N i).id
    switch_short i = (each_anywhere SwitchRoom N.switches no_switch w.switch_room (lit< tt, lit< tt) i).0

    -- and their numbers two: "A branch may have two switches"
    module _ (ok : check_network N ≡ accepted tt) where
      few_open : (s : State) (k : ℕ) → length (map (id_of N) (open_switches N s k)) < 256
      unfolding open_switches open_count
      few_open s k =
          let two = two_open N ((check_inside N).0 (network_records N ok)) s k in
          omega (arith, length-map (open_switches N s k) (id_of N), those_long (open_at N s k) (size N), two)

      pairs_named : Each Named (plan N (base N) (wanted N))
      unfolding plan
      pairs_named =
          each_made Named (moves_of N (base N) (wanted N))
          (λ q. (each_made Short (id_of N) switch_short (open_switches N (base N) q.closed), each_made Short (id_of N) switch_short (open_switches N (wanted N) q.opened), few_open (base N) q.closed, few_open (wanted N) q.opened))
          (pairs N (base N) (wanted N))

      pairs_read : pairs_in (network_text N) ≡ pairs_printed
      pairs_read =
          ap pairs_in network_lines
          ∙ pairs_back (result N) (operations N (base N) (wanted N)) pairs_printed (each_if Named (radial_in N (base N)) (plan N (base N) (wanted N)) pairs_named)

    operations_named : Each (λ o. Short o.switch_id) (operations N (base N) (wanted N))
    unfolding operation_to
    operations_named = rw (by_position N (base N) (wanted N)) (each_made (λ o. Short o.switch_id) (operation_of N (wanted N)) switch_short (moving N (base N) (wanted N)))

    operations_read : operations_in (network_text N) ≡ operations N (base N) (wanted N)
    operations_read = ap operations_in network_lines ∙ operations_back (result N) (operations N (base N) (wanted N)) pairs_printed operations_named

    form_read : check_network N ≡ accepted tt → forms_in (network_text N) ≡ fields_of (result N).form ∷ []
    unfolding result result_by
    form_read ok = ap forms_in network_lines ∙ form_back (result N) (operations N (base N) (wanted N)) pairs_printed (form_in_small N (network_records N ok) (wanted N))

    network_read : check_network N ≡ accepted tt → FromTextToPlan N (network_text N)
    network_read ok = record {
      pairs = λ r. pairs_read ok ∙ rw r;
      safe = solve_has_plan N ok;
      no_pairs = λ r. pairs_read ok ∙ rw r;
      radial = radial_in_tree N (network_records N ok) (base N);
      form = unfold result result_by in form_read ok;
      meaning = form_in_says N (network_records N ok) (wanted N);
      moves = operations_read;
      in_order = operations_read ∙ by_position N (base N) (wanted N);
      moved = λ o. rw (operations_read, by_position N (base N) (wanted N)) (moved_so N (base N) (wanted N) (base_good N) (best_good N) o, moved_if N (base N) (wanted N) (base_good N) (best_good N) o);
      whole = network_lines ∙ rw (pairs_read ok, operations_read) (unfold lines_text in refl);
    }

text_read : (text : List ℕ) (N : Network) → read_text text ≡ accepted N → FromTextToPlan N (printed text)
text_read text N r = subst (FromTextToPlan N) (sym (network_printed text N r)) (network_read N ((claim.accepted_texts text N).0 r).writable (passed text N r))

-- what lies behind the bytes that are written stays
text_kept : (text out after : List ℕ) (n : ℕ) → record { answer = answer_of (Ok n); out = after } ≡ answered_text text out → drop n after ≡ drop n out
unfolding answered_text
text_kept text out after n e = let c = call_answered _ (length (printed text)) (printed text) out e in rw (c.1, c.2) (drop-append_seam (printed text) _)

pub from_text_to_plan : MainStatement
from_text_to_plan = record {
  call = λ text out after n e.
      let (N, r) = text_has_records text out after n e in
      (N, r, subst (FromTextToPlan N) (sym (text_printed text out after n e)) (text_read text N r), text_kept text out after n e);
  answers = λ text out N r room. (_, _, sym (always_printed text N ((claim.accepted_texts text N).0 r) out room));
  program = text_read;
}
