-- What the code of `write_records` makes in memory of its own: the text of the records, or as much of it as decides how it reads. So it answers as the whole
-- text would be answered.
use Rattle.std.specs.Prelude.{◌≡◌, refl, Bool, true, false, ℕ, ◌+◌, ◌-◌, ◌<◌, ◌≤◌, ltb, length, get_or, take, drop}
use Rattle.std.proofs.Common.{sym, ◌∙◌, arith, length-append, drop_of_length-le, take_at, length-take-le, ltb-true, ltb-false}
use Rattle.std.proofs.Math.Path.{ap}
use mathlib.Core.List.{List, [], ◌∷◌, ◌++◌, append_assoc, append-nil}
use Rattle.std.proofs.lemmas.List.Edits.{sets, sets-eq}
use Rattle.std.proofs.Math.Seq.{length-sets}
use borrow.Rule.Slice.PartMut.{put_mid}
use Rattle.network.specs.Answers.{accepted, refused}
use Rattle.network.specs.Records.{Network}
use Rattle.lines.specs.Hex.{digits}
use Rattle.lines.specs.HexLaws.{length_digits}
use Rattle.frames.specs.Conditions.{judgement_of}
use Rattle.frames.specs.Lengths.{longest_text, deciding_length}
use Rattle.frames.specs.Proof.{claim}
use Rattle.frames.specs.Text.{read_text}
use Rattle.slices.specs.Written.{written, last_digits}
use Rattle.slices.specs.WrittenLaws.{written_part}
use Rattle.slices.specs.DigitLaws.{all_digits}
use Rattle.printing.specs.CallLaws.{call_refused, call_short, call_done}
use Rattle.texts.specs.TextLaws.{text_short}
use Rattle.record_bytes.specs.RecordBytes.{text_of_bytes, written_records}
use Rattle.record_bytes.specs.RecordSteps.{line_bytes, byte_text, text_from, byte_last, byte_more, byte_short, next_from, text_from_lem}

-- ---- a byte, written into the part of a slice from a place on
module _ (text : List ℕ) (at byte : ℕ) (room : at + 3 ≤ length text) (small : byte < 256) (n : ℕ) {part : List ℕ} where
  pub last_written : n ≡ 1 → part ≡ written (last_digits 2 byte ++ (10 ∷ [])) (take (length text - at) (drop at text))
      → (put_mid at (length text - at) text part ≡ sets text at (byte_text n byte)) × (at + 3 ≡ at + length (byte_text n byte))
  last_written e w =
      let same : byte_text n byte ≡ digits 2 byte ++ (10 ∷ []) = ap (λ (k : ℕ). byte_text k byte) e ∙ byte_last byte in
      let long : length (digits 2 byte ++ (10 ∷ [])) ≡ 3 = length-append (digits 2 byte) (10 ∷ []) ∙ rw length_digits in
      rw (same, long) (written_part (digits 2 byte ++ (10 ∷ [])) text at (omega arith) (rw (all_digits 2 byte small) at w), refl)

  pub more_written : (n ≡ 1 → ⊥) → part ≡ written (last_digits 2 byte) (take (length text - at) (drop at text))
      → (put_mid at (length text - at) text part ≡ sets text at (byte_text n byte)) × (at + 2 ≡ at + length (byte_text n byte))
  more_written h w =
      let long = length_digits 2 byte in
      rw (byte_more n byte h, long) (written_part (digits 2 byte) text at (omega arith) (rw (all_digits 2 byte small) at w), refl)

-- ---- what the code has made
-- the first n bytes that a slice holds are a text's beginning: all of it, or as much as decides
pub record Decides (whole held : List ℕ) (n : ℕ) : Type 0 where
  pub within : n ≤ length held
  pub rest : List ℕ
  pub begins : whole ≡ take n held ++ rest
  pub all : n < deciding_length → rest ≡ []

-- where the code stands: the first i bytes' text is written up to `at`, and so many bytes are left of the line that was begun
pub record Made (records held : List ℕ) (at left i : ℕ) : Type 0 where
  pub within : i ≤ length records
  pub room : at ≤ length held
  pub so_far : text_of_bytes records ≡ take at held ++ text_from left (drop i records)

pub made_none : (records held : List ℕ) → Made records held 0 0 0
made_none records held = record { within = omega arith; room = omega arith; so_far = sym (text_from_lem records) }

written_to : (held : List ℕ) (at : ℕ) (vs : List ℕ) → at + length vs ≤ length held → take (at + length vs) (sets held at vs) ≡ take at held ++ vs
written_to held at vs h =
    let long : length (take at held ++ vs) ≡ at + length vs = length-append (take at held) vs ∙ ap (λ (k : ℕ). k + length vs) (length-take-le at held (omega arith)) in
    ap (take (at + length vs)) (sets-eq vs held at h) ∙ take_at (take at held ++ vs) (drop (at + length vs) held) (at + length vs) long

module _ (records held : List ℕ) (at left i : ℕ) (m : Made records held at left i) where
  pub made_more : i < length records → at + 3 ≤ length held → {n : ℕ} → n ≡ line_bytes left (get_or records i 0) (length records - i)
      → {after : List ℕ} → after ≡ sets held at (byte_text n (get_or records i 0)) → {r : ℕ} → r ≡ at + length (byte_text n (get_or records i 0)) → Made records after r (n - 1) (i + 1)
  made_more h room {n} e {after} s {r} q =
      let byte = get_or records i 0 in
      let short = byte_short n byte in
      let long : length after ≡ length held = ap length s ∙ length-sets held at (byte_text n byte) in
      record {
        within = omega arith;
        room = omega arith;
        so_far = m.so_far ∙ rw (next_from left records i h e, q, s, written_to held at (byte_text n byte) (omega arith)) (sym (append_assoc (take at held) (byte_text n byte) (text_from (n - 1) (drop (i + 1) records))));
      }

  pub made_all : length records ≤ i → Decides (text_of_bytes records) held at
  unfolding text_from
  made_all h = record { within = m.room; rest = text_from left (drop i records); begins = m.so_far; all = λ k. rw (drop_of_length-le records h) }

  pub made_enough : deciding_length ≤ at → Decides (text_of_bytes records) held at
  made_enough h = record { within = m.room; rest = text_from left (drop i records); begins = m.so_far; all = λ k. absurd (omega arith) }

module _ (whole held : List ℕ) (n : ℕ) (d : Decides whole held n) where
  -- how it reads is how the whole text reads
  pub decides_reads : read_text (take n held) ≡ read_text whole
  decides_reads = go (ltb n deciding_length) refl
    where
      go : (b : Bool) → ltb n deciding_length ≡ b → read_text (take n held) ≡ read_text whole
      go true e = ap read_text (sym (d.begins ∙ rw (d.all (ltb-true n deciding_length e), append-nil)))
      go false e =
          let front : take n whole ≡ take n held = ap (take n) d.begins ∙ take_at (take n held) d.rest n (length-take-le n held d.within) in
          ap read_text (sym front) ∙ claim.early n whole (ltb-false n deciding_length e)

  -- and where it is accepted it is the whole text
  pub decides_whole : (N : Network) → read_text whole ≡ accepted N → (take n held ≡ whole) × (n ≤ longest_text)
  decides_whole N e =
      let a = (claim.accepted_texts whole N).0 e in
      let short : length whole ≤ longest_text = rw a.text (text_short N a.inside) in
      let long : length whole ≡ n + length d.rest = ap length d.begins ∙ length-append (take n held) d.rest ∙ ap (λ (k : ℕ). k + length d.rest) (length-take-le n held d.within) in
      let none = d.all (omega arith) in
      (sym (d.begins ∙ rw (none, append-nil)), omega arith)

-- ---- the call
module _ (records held : List ℕ) (n : ℕ) (d : Decides (text_of_bytes records) held n) (out : List ℕ) where
  pub text_refused : {number place : ℕ} → read_text (take n held) ≡ refused number place → record { answer = refused number place; out = out } ≡ written_records records out
  unfolding written_records judgement_of
  text_refused e = call_refused _ (text_of_bytes records) out (ap judgement_of (sym (decides_reads (text_of_bytes records) held n d) ∙ e))

  module _ {N : Network} (e : read_text (take n held) ≡ accepted N) where
    reads : read_text (text_of_bytes records) ≡ accepted N
    reads = sym (decides_reads (text_of_bytes records) held n d) ∙ e

    pub text_within : n ≤ longest_text
    text_within = (decides_whole (text_of_bytes records) held n d N reads).1

    whole : take n held ≡ text_of_bytes records
    whole = (decides_whole (text_of_bytes records) held n d N reads).0

    long : length (text_of_bytes records) ≡ n
    long = ap length (sym whole) ∙ length-take-le n held d.within

    passed : judgement_of (read_text (text_of_bytes records)) ≡ accepted tt
    unfolding judgement_of
    passed = ap judgement_of reads

    pub text_no_room : length out < n → record { answer = refused 13 0; out = out } ≡ written_records records out
    unfolding written_records
    text_no_room h = call_short _ (text_of_bytes records) out passed long h

    pub text_copied : n ≤ length out → {after : List ℕ} → after ≡ written (take n held) out → record { answer = accepted n; out = after } ≡ written_records records out
    unfolding written_records
    text_copied h w = rw (← long) (call_done _ (text_of_bytes records) out passed long h (w ∙ ap (λ (l : List ℕ). written l out) whole))
