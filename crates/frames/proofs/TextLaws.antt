-- A text is what its head line and the lines behind it make: a head that is refused, or the records collected, which decide before the line at which reading stopped.
use mathlib.Core.Path.{◌≡◌, sym, ap, ◌∙◌}
use Prim.Native.Nat.{ℕ, ◌≤◌, ◌<◌}
use mathlib.Core.Bool.{Bool}
use mathlib.Core.List.{List}
use lib.ListN.{length, drop}
use Rattle.network.specs.Answers.{accepted, refused, answer_of, valued, number_of, place_of, ◌and_then◌, Judgement}
use Rattle.network.specs.Records.{network_of, records_of}
use Rattle.network.specs.RecordLaws.{records_of_network}
use Rattle.record_lines.specs.declared.head.Head as Heads
use Rattle.record_lines.specs.LineAnswers.{head_of_code}
use Rattle.std.proofs.Common.{Result, Ok, Err}
use Rattle.std.specs.Result.{result_and}
use Rattle.network.specs.declared.error.Refusal.{Refusal}
use Rattle.network.specs.declared.topology.PowerNetwork.{PowerNetwork}
use Rattle.lines.specs.Lines.{cut}
use Rattle.feeders.specs.Supply.{check_as}
use Rattle.record_lines.specs.Kinds.{head, head_from, head_line_faults, read_one, without}
use Rattle.frames.specs.Text.{read_as}
use Rattle.frames.specs.Passes.{Collected, collect, after_head, read_twice}
use Rattle.frames.specs.ReadLaws.{head_passed}
use Rattle.frames.specs.Split.{split}
use Rattle.record_lines.specs.FramedLaws.{one_made, without_refused}
use Rattle.frames.specs.FrameReads.{IsCollected}

-- a value that holds records is the value of the records that it holds
pub holds_records : {c : Collected} {n : PowerNetwork} {v : Result (Unit {0}) Refusal} → IsCollected c n v → n ≡ network_of (records_of n)
holds_records {c} i = rw (i.network, records_of_network c.network)

-- one answer and then another
pub both_answered : (v w : Result (Unit {0}) Refusal) {a : Judgement} {u : Result (Unit {0}) Refusal} → answer_of v ≡ a → u ≡ result_and v w → answer_of u ≡ (a and_then answer_of w)
unfolding ◌and_then◌
both_answered (Ok x) w e q = rw (q, ← e)
both_answered (Err x) w e q = rw (q, ← e)

module _ (t : List ℕ) {v : Result Heads.Head Refusal} (e : valued head_of_code (answer_of v) ≡ without (read_one head head_from head_line_faults 1 (cut t))) where
  pub head_refuses : (stored : Bool) {x : Refusal} → v ≡ Err x → refused (number_of x) (place_of x) ≡ read_as stored t
  unfolding read_twice after_head
  head_refuses stored q = sym (split stored t ∙ ap (after_head stored) (without_refused _ (sym e ∙ ap (λ w. valued head_of_code (answer_of w)) q)))

  module _ {h : Heads.Head} (q : v ≡ Ok h) where
    read : (read_one head head_from head_line_faults 1 (cut t) ≡ accepted (head_of_code h, cut (drop 37 t))) × (36 < length t)
    read = one_made head head_from head_line_faults 1 t (sym e ∙ ap (λ w. valued head_of_code (answer_of w)) q)

    pub body_asks : (37 ≤ length t) × (h.buses ≤ 256) × (h.branches ≤ 512) × (h.switches ≤ 512)
    body_asks = let i = head_passed (cut t) _ read.0 in (read.1, i.counts.0, i.counts.1, i.counts.2)

    pub text_settled : (stored : Bool) {n : PowerNetwork} (w : Result (Unit {0}) Refusal) → IsCollected (collect (head_of_code h) (cut (drop 37 t))) n w
        → (check_as stored (records_of n) and_then answer_of w and_then accepted (records_of n)) ≡ read_as stored t
    unfolding read_twice after_head
    text_settled stored w i = rw (i.network, i.stopped, records_of_network) (sym (split stored t ∙ ap (after_head stored) read.0))
