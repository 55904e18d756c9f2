-- How long a repair is, what is left of a text that is read, and the text that is written first.
use Rattle.std.specs.Prelude.{◌≡◌, List, ◌++◌, ℕ, ◌+◌, ◌*◌, ◌-◌, ◌≤◌, ◌<◌, Result, Ok, Err}
use Rattle.std.proofs.Math.Path.{refl, sym, ap}
use Rattle.std.proofs.Common.{◌∙◌, arith}
use Rattle.std.proofs.Math.ListN.{length, length-append}
use Rattle.numbers.specs.KeepLaws.{keep_short}
use Rattle.network.specs.declared.error.Refusal.{Refusal}
use Rattle.network.specs.declared.topology.PowerNetwork.{PowerNetwork}
use Rattle.network.specs.Answers.{accepted, refused, answer_of}
use Rattle.network.specs.AnswerLaws.{same_value, no_refusal, refused_so, accepted_so}
use Rattle.network.specs.Inside.{Inside}
use Rattle.network.specs.InsideLaws.{check_inside}
use Rattle.network.specs.Records.{Network, records_of}
use Rattle.own_loops.specs.OwnLoops.{is_proper, without_own, Dropped, dropped_lines, value_without}
use Rattle.own_loops.specs.OwnLoopLaws.{left_short, left_inside, dropped_many, value_without_lem}
use Rattle.states.specs.Listed.{branches_listed, switches_listed, few_branches, few_switches}
use Rattle.feeders.specs.Supply.{supplies, check_network}
use Rattle.feeders.specs.SupplyLaws.{network_inside}
use Rattle.frames.specs.Text.{read_stored}
use Rattle.frames.specs.Acceptable.{text_of, Repairable}
use Rattle.frames.specs.Conditions.{judgement_of}
use Rattle.frames.specs.Lengths.{longest_text}
use Rattle.frames.specs.StoredProof.{stored_claim}
use Rattle.slices.specs.Written.{written}
use Rattle.printing.specs.Calls.{Call}
use Rattle.printing.specs.CallLaws.{call_refused, call_short, call_done, call_is}
use Rattle.printing.specs.Lengths.{dropped_length}
use Rattle.printing.specs.LineTexts.{length_lines, length_dropped}
use Rattle.texts.specs.PartLaws.{Begun, same_length}
use Rattle.texts.specs.Texts.{written_text}
use Rattle.texts.specs.TextLaws.{text_length, text_short}
use Rattle.repairs.specs.Repairs.{dropped_lines_text, repaired, printed_repair, repaired_text}
use Rattle.repairs.specs.RepairValues.{Left}

-- ---- how long a repair is
dropped_long : (l : List Dropped) → length (dropped_lines_text l) ≡ dropped_length * length l
dropped_long l = length_lines _ dropped_length (λ d. length_dropped d.line d.reason) l

module _ (N : Network) where
  same_buses : (without_own N).buses ≡ N.buses
  unfolding without_own
  same_buses = refl

  same_supply : (without_own N).supply ≡ N.supply
  unfolding without_own
  same_supply = refl

  pub fewer_branches : length (without_own N).branches ≤ length N.branches
  unfolding without_own
  fewer_branches = keep_short is_proper N.branches

  pub fewer_switches : length (without_own N).switches ≤ length N.switches
  unfolding without_own
  fewer_switches = left_short N.branches N.switches

  repaired_length : length (repaired N)
      ≡ length (text_of (without_own N)) + dropped_length * ((length N.branches - length (without_own N).branches) + (length N.switches - length (without_own N).switches))
  unfolding repaired
  repaired_length = length-append (text_of (without_own N)) (dropped_lines_text (dropped_lines N)) ∙ rw (dropped_long (dropped_lines N), dropped_many N)

  -- a dropped line has 29 or 13 bytes, its frame 87 has 9
  pub repaired_shorter : length (repaired N) ≤ length (text_of N)
  repaired_shorter =
      omega (arith, repaired_length, text_length N, text_length (without_own N), ap length same_buses, ap (λ z. length (supplies z)) same_supply, fewer_branches, fewer_switches)

  pub repaired_short : Inside N → length (repaired N) ≤ longest_text
  repaired_short inside = omega (arith, repaired_shorter, text_short N inside)

-- ---- of a text that is read
module _ (t : List ℕ) (N : Network) (e : read_stored t ≡ accepted N) where
  pub is_repairable : Repairable t N
  is_repairable = (stored_claim.read_texts t N).0 e

  pub left_accepted : check_network (without_own N) ≡ accepted tt
  left_accepted = let left = left_inside N is_repairable.inside in (network_inside (without_own N)).1 (left.0, left.1, is_repairable.supplied)

  pub read_passes : judgement_of (read_stored t) ≡ accepted tt
  unfolding judgement_of
  read_passes = rw e

  pub printed_so : printed_repair t ≡ repaired N
  unfolding printed_repair
  printed_so = rw e

-- ---- the call
module _ (t out : List ℕ) where
  pub text_refused : {number place : ℕ} → read_stored t ≡ refused number place → record { answer = refused number place; out = out } ≡ repaired_text t out
  unfolding repaired_text judgement_of
  text_refused e = call_refused (length (printed_repair t)) (printed_repair t) out (rw e)

  module _ (N : Network) (e : read_stored t ≡ accepted N) {needed : ℕ} (long : needed ≡ length (repaired N)) where
    pub repair_no_room : length out < needed → record { answer = refused 13 0; out = out } ≡ repaired_text t out
    unfolding repaired_text
    repair_no_room short = call_short (length (printed_repair t)) (printed_repair t) out (read_passes t N e) (ap length (printed_so t N e) ∙ sym long) short

    pub repair_done : needed ≤ length out → {after : List ℕ} → after ≡ written (repaired N) out → record { answer = accepted needed; out = after } ≡ repaired_text t out
    unfolding repaired_text
    repair_done room w = rw (printed_so t N e, long) (call_done (length (repaired N)) (repaired N) out (read_passes t N e) refl (omega arith) w)

-- ---- of its value
pub left_of : (t : List ℕ) (n : PowerNetwork) → read_stored t ≡ accepted (records_of n) → {left : PowerNetwork} → left ≡ value_without n → Left n left
left_of t n e l =
    let ok = (check_inside (records_of n)).1 (is_repairable t (records_of n) e).inside in
    record { read = ok; left_so = l; good = rw (l, value_without_lem n (few_branches n ok) (few_switches n ok)) (left_accepted t (records_of n) e) }

module _ (n left : PowerNetwork) (l : Left n left) where
  left_records : records_of left ≡ without_own (records_of n)
  left_records = ap records_of l.left_so ∙ value_without_lem n (few_branches n l.read) (few_switches n l.read)

  pub left_branches : left.branch_count ≤ n.branch_count
  left_branches = omega (arith, fewer_branches (records_of n), branches_listed n, branches_listed left, ap (λ N. length N.branches) left_records)

  pub left_switches : left.switch_count ≤ n.switch_count
  left_switches = omega (arith, fewer_switches (records_of n), switches_listed n, switches_listed left, ap (λ N. length N.switches) left_records)

  -- by the values' counts
  pub value_length : {text : ℕ} → text ≡ length (text_of (records_of left))
      → text + dropped_length * ((n.branch_count - left.branch_count) + (n.switch_count - left.switch_count)) ≡ length (repaired (records_of n))
  value_length e =
      let long = repaired_length (records_of n) in
      let text = ap (λ N. length (text_of N)) left_records in
      let branches = ap (λ N. length N.branches) left_records in
      let switches = ap (λ N. length N.switches) left_records in
      omega (arith, e, long, text, branches, switches, branches_listed n, branches_listed left, switches_listed n, switches_listed left)

  -- ---- the text that is left, then the frames 87
  in_two : text_of (records_of left) ++ dropped_lines_text (dropped_lines (records_of n)) ≡ repaired (records_of n)
  unfolding repaired
  in_two = rw left_records

  -- what `write_text` answers, and what it leaves in the slice
  module _ (out : List ℕ) {needed : ℕ} (long : needed ≡ length (repaired (records_of n))) (room : needed ≤ length out) where
    in_full : length (text_of (records_of left)) + length (dropped_lines_text (dropped_lines (records_of n))) ≤ length out
    in_full = omega (arith, long, room, ap length in_two, length-append (text_of (records_of left)) (dropped_lines_text (dropped_lines (records_of n))))

    module _ (v : Result ℕ Refusal) {after : List ℕ} (e : record { answer = answer_of v; out = after } ≡ written_text (records_of left) out) where
      its_call : ◌≡◌ {A = Call ℕ} (record { answer = answer_of v; out = after }) (record { answer = accepted (length (text_of (records_of left))); out = written (text_of (records_of left)) out })
      unfolding written_text
      its_call = call_is _ (text_of (records_of left)) out l.good (omega (arith, in_full)) e

      pub never_refused : {A : Type 0} {r : Refusal} → v ≡ Err r → A
      never_refused q = no_refusal (sym (refused_so q (ap (λ (c : Call ℕ). c.answer) its_call)))

      module _ {k at : ℕ} (was : v ≡ Ok k) (f : at ≡ k) where
        pub left_begun : Begun (text_of (records_of left)) out after at
        left_begun = record { so_far = ap (λ (c : Call ℕ). c.out) its_call; here = f ∙ same_value (sym (accepted_so was (ap (λ (c : Call ℕ). c.answer) its_call))) }

        pub lines_room : at + length (dropped_lines_text (dropped_lines (records_of n))) ≤ length after
        lines_room = omega (arith, in_full, left_begun.here, same_length left_begun)

  pub both_written : (out : List ℕ) {after : List ℕ} → after ≡ written (text_of (records_of left) ++ dropped_lines_text (dropped_lines (records_of n))) out → after ≡ written (repaired (records_of n)) out
  both_written out w = w ∙ ap (λ b. written b out) in_two
