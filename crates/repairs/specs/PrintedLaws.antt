-- What the program `repair` prints, by the call's answer: into a slice that has room for the longest text the call is refused by the text alone.
use Rattle.std.specs.Prelude.{◌≡◌, ◌⊎◌, List, ℕ, ◌≤◌, ◌<◌, take, drop}
use Rattle.std.proofs.Math.Path.{refl}
use Rattle.std.proofs.Common.{sym, ap, inl, inr, arith}
use Rattle.std.proofs.Math.ListN.{length, length-append}
use Rattle.std.proofs.Math.Seq.{take-append_seam}
use Rattle.network.specs.Answers.{Answer, accepted, refused}
use Rattle.network.specs.AnswerLaws.{no_refusal}
use Rattle.network.specs.Records.{Network}
use Rattle.frames.specs.Text.{read_stored}
use Rattle.frames.specs.Conditions.{judgement_of}
use Rattle.frames.specs.Lengths.{longest_text}
use Rattle.printing.specs.Calls.{Call}
use Rattle.printing.specs.CallLaws.{call_answered, call_refusals}
use Rattle.printing.specs.Printed.{refusal_text}
use Rattle.repairs.specs.Repairs.{printed_repair, repaired_text}
use Rattle.repairs.specs.RepairLaws.{repaired_short, is_repairable, printed_so}

module _ (t : List ℕ) where
  -- a text that is not refused has a repair of at most the longest text's bytes
  repair_fits : (a : Answer Network) → read_stored t ≡ a → judgement_of a ≡ accepted tt → length (printed_repair t) ≤ longest_text
  unfolding judgement_of
  repair_fits (accepted N) e ok = rw (printed_so t N e) (repaired_short N (is_repairable t N e).inside)
  repair_fits (refused n p) e ok = no_refusal ok

  refused_so : (a : Answer Network) → read_stored t ≡ a → (n p : ℕ) → judgement_of a ≡ refused n p → refusal_text n p ≡ printed_repair t
  unfolding judgement_of printed_repair
  refused_so (accepted N) e n p r = no_refusal (sym r)
  refused_so (refused m q) e n p r =
      let number : m ≡ n = cc in
      let place : q ≡ p = cc in
      rw (e, number, place)

  module _ (out : List ℕ) where
    pub printed_written : {count : ℕ} {after : List ℕ} → record { answer = accepted count; out = after } ≡ repaired_text t out → (count ≤ length after) × (take count after ≡ printed_repair t)
    unfolding repaired_text
    printed_written e =
        let (ok, long, bytes) = call_answered (judgement_of (read_stored t)) (length (printed_repair t)) (printed_repair t) out e in
        (rw bytes (omega (arith, long, length-append (printed_repair t) (drop (length (printed_repair t)) out))), rw (long, bytes) (take-append_seam (printed_repair t) (drop (length (printed_repair t)) out)))

    pub printed_refused : longest_text ≤ length out → {n p : ℕ} {after : List ℕ} → record { answer = refused n p; out = after } ≡ repaired_text t out → refusal_text n p ≡ printed_repair t
    unfolding repaired_text
    printed_refused room {n} {p} e = go (call_refusals (judgement_of (read_stored t)) (length (printed_repair t)) (printed_repair t) out (sym (ap (λ (c : Call ℕ). c.answer) e)))
      where
        go : (judgement_of (read_stored t) ≡ refused n p) ⊎ ((judgement_of (read_stored t) ≡ accepted tt) × (n ≡ 13) × (p ≡ 0) × (length out < length (printed_repair t))) → refusal_text n p ≡ printed_repair t
        go (inl r) = refused_so (read_stored t) refl n p r
        go (inr (ok, number, place, short)) = absurd (omega (arith, repair_fits (read_stored t) refl ok))
