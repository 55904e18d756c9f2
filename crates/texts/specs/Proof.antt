-- The claim about the text that is made of records: from what is proved of reading, and the cases of a call that is lent a slice.
use Rattle.std.proofs.Math.Path.{◌≡◌, refl, sym, ap}
use Rattle.std.proofs.Common.{◌∙◌, inl, inr, arith, lit<}
use Rattle.std.specs.Prelude.{◌⊎◌, List, ◌++◌, ℕ, ◌≤◌, ◌<◌, ◌^◌, Float, take, drop}
use Rattle.std.specs.Float.Ieee.{binary64, of_bits, is_nan}
use Rattle.std.specs.Float.Ieee.Bits.{of_bits-to_bits, to_bits-of_bits}
use Rattle.std.proofs.Math.ListN.{length}
use Rattle.std.proofs.Math.Seq.{take-append_seam}
use Rattle.network.specs.Answers.{accepted, refused, ◌and_then◌}
use Rattle.network.specs.AnswerLaws.{no_refusal, same_value}
use Rattle.network.specs.Records.{Network, records_of}
use Rattle.feeders.specs.Supply.{check_network}
use Rattle.frames.specs.Text.{read_text}
use Rattle.frames.specs.Acceptable.{bits_of, Held, text_of, Writable}
use Rattle.frames.specs.HandedOver.{typed_writable}
use Rattle.frames.specs.Proof as frames
use Rattle.frames.specs.TypedValues.{value_typed}
use Rattle.printing.specs.CallLaws.{call_refused, call_short, call_answered, call_refusals, in_full}
use Rattle.texts.specs.Lines.{IsNumber}
use Rattle.texts.specs.Texts.{written_text}
use Rattle.texts.specs.Claim.{Claim}

-- ---- reading
accepted_back : (N : Network) → check_network N ≡ accepted tt → Writable N → read_text (text_of N) ≡ accepted N
unfolding ◌and_then◌
accepted_back N ok room = (frames.claim).alike N room ∙ rw ok

only_text : (t : List ℕ) (N : Network) → read_text t ≡ accepted N → t ≡ text_of N
only_text t N e = (((frames.claim).accepted_texts t N).0 e).text

only_records : (N M : Network) → check_network N ≡ accepted tt → check_network M ≡ accepted tt → Writable N → Writable M → text_of N ≡ text_of M → N ≡ M
only_records N M ok ok' room room' same = same_value (sym (accepted_back N ok room) ∙ ap read_text same ∙ accepted_back M ok' room')

-- ---- the call
module _ (N : Network) (out : List ℕ) where
  text_in_full : check_network N ≡ accepted tt → length (text_of N) ≤ length out
      → written_text N out ≡ record { answer = accepted (length (text_of N)); out = text_of N ++ drop (length (text_of N)) out }
  unfolding written_text
  text_in_full ok room = in_full (length (text_of N)) (text_of N) out ok room

  text_short_slice : check_network N ≡ accepted tt → length out < length (text_of N) → written_text N out ≡ record { answer = refused 13 0; out = out }
  unfolding written_text
  text_short_slice ok short = sym (call_short (length (text_of N)) (text_of N) out ok refl short)

  records_refused : (number place : ℕ) → check_network N ≡ refused number place → written_text N out ≡ record { answer = refused number place; out = out }
  unfolding written_text
  records_refused number place e = sym (call_refused (length (text_of N)) (text_of N) out e)

  -- with its tests passed the call is refused by 13 or not at all
  refused_13 : check_network N ≡ accepted tt → (n p : ℕ) → (written_text N out).answer ≡ refused n p → (n ≡ 13) × (p ≡ 0) × (length out < length (text_of N))
  unfolding written_text
  refused_13 ok n p e = go (call_refusals (check_network N) (length (text_of N)) (text_of N) out e)
    where
      go : (check_network N ≡ refused n p) ⊎ ((check_network N ≡ accepted tt) × (n ≡ 13) × (p ≡ 0) × (length out < length (text_of N))) → (n ≡ 13) × (p ≡ 0) × (length out < length (text_of N))
      go (inl not) = no_refusal (sym not ∙ ok)
      go (inr (passed, number, place, short)) = (number, place, short)

  -- what it left at the front of the slice is the text
  front_back : Writable N → (after : List ℕ) (count : ℕ) → record { answer = accepted count; out = after } ≡ written_text N out → read_text (take count after) ≡ accepted N
  unfolding written_text
  front_back room after count e =
      let (ok, long, bytes) = call_answered (check_network N) (length (text_of N)) (text_of N) out e in
      rw (long, bytes, take-append_seam (text_of N) (drop (length (text_of N)) out)) (accepted_back N ok room)

-- ---- floats
held_bits : (x y : Float) → Held x → Held y → bits_of x ≡ bits_of y → x ≡ y
held_bits x y h k e = sym (of_bits-to_bits binary64 x h) ∙ ap (of_bits binary64) e ∙ of_bits-to_bits binary64 y k

bits_kept : (pattern : ℕ) → pattern < 2 ^ 64 → IsNumber (of_bits binary64 pattern) → bits_of (of_bits binary64 pattern) ≡ pattern
bits_kept pattern h k = to_bits-of_bits binary64 pattern h k

two_zeros : of_bits binary64 0 ≡ of_bits binary64 0x8000_0000_0000_0000 → ⊥
two_zeros e =
    let plus : bits_of (of_bits binary64 0) ≡ 0 = bits_kept 0 (lit< tt) (unfold of_bits is_nan in tt) in
    let minus : bits_of (of_bits binary64 0x8000_0000_0000_0000) ≡ 0x8000_0000_0000_0000 = bits_kept 0x8000_0000_0000_0000 (lit< tt) (unfold of_bits is_nan in tt) in
    let same : ◌≡◌ {A = ℕ} 0 0x8000_0000_0000_0000 = sym plus ∙ ap bits_of e ∙ minus in
    omega (arith, same)

pub claim : Claim
claim = record {
  read_back = λ n vs h ok. accepted_back (records_of n) ok (typed_writable n (value_typed n vs h));
  records_back = λ N inside proper supplied room. accepted_back N (((frames.claim).checked N).1 (inside, proper, supplied)) room;
  slice_back = λ n vs h out after count e. front_back (records_of n) out (typed_writable n (value_typed n vs h)) after count e;
  same_bits = λ x y. (ap bits_of, held_bits x y);
  bits_kept = bits_kept;
  two_zeros = two_zeros;
  only_text = only_text;
  one_text = λ t u N e f. only_text t N e ∙ sym (only_text u N f);
  only_records = only_records;
  refused_first = records_refused;
  written_back = λ t N out e room. rw (only_text t N e) (text_in_full N out (frames.passed t N e) (rw (sym (only_text t N e)) room));
  written_in_full = λ N out inside proper supplied room. text_in_full N out (((frames.claim).checked N).1 (inside, proper, supplied)) room;
  too_short = λ N out inside proper supplied short. text_short_slice N out (((frames.claim).checked N).1 (inside, proper, supplied)) short;
  only_13 = λ N out inside proper supplied n p e. refused_13 N out (((frames.claim).checked N).1 (inside, proper, supplied)) n p e;
}
