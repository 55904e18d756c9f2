-- What the answer to records in bytes is: where their text is accepted, that of `write_text` for the records that it has. And every network can be handed over in
-- such bytes: their text is the network's.
use Rattle.std.specs.Prelude.{◌≡◌, length}
use Rattle.std.proofs.Math.Path.{refl, sym, ap}
use Rattle.std.proofs.Common.{◌∙◌, mod-lt, pow-suc, mul_comm, mul_assoc, div-lt_iff_lt-mul, lit<}
use mathlib.Core.List.{List, [], ◌∷◌, ◌++◌, flat_map, append_assoc, append-nil}
use Prim.Native.Nat.{ℕ, zero, suc, ◌+◌, ◌*◌, ◌/◌, ◌%◌, ◌^◌, ◌≤◌, ◌<◌}
use native.Mathlib.Omega.{arith}
use Rattle.std.proofs.Math.Nat.{pow-succ', div-div-eq-div-mul}
use Rattle.std.proofs.Math.Arith.{mod-mul, digits_div, digits_mod}
use Rattle.std.proofs.Math.ListN.{length-append}
use Rattle.network.specs.Answers.{accepted}
use Rattle.network.specs.Check.{head_of}
use Rattle.network.specs.Inside.{Each}
use Rattle.network.specs.EachLaws.{each_append}
use Rattle.network.specs.Records.{Network}
use Rattle.lines.specs.Hex.{digits, Fields, write_fields, Fit, total}
use Rattle.lines.specs.HexLaws.{pow_pos, length_digits, length_fields}
use Rattle.lines.specs.Frames.{Frame, layout, frame_text}
use Rattle.record_lines.specs.Kinds.{head, bus, branch, switch, supply}
use Rattle.feeders.specs.Supply.{supplies, check_network}
use Rattle.frames.specs.Acceptable.{head_fields, bus_fields, branch_fields, switch_fields, supply_fields, text_of, Writable}
use Rattle.frames.specs.Conditions.{judgement_of}
use Rattle.frames.specs.FirstFault.{judgement_then}
use Rattle.frames.specs.Proof.{claim, passed}
use Rattle.frames.specs.RecordLaws.{Kind, head_kind, bus_kind, branch_kind, switch_kind, supply_kind}
use Rattle.frames.specs.Text.{read_text}
use Rattle.printing.specs.LineTexts.{length_lines, lines_append}
use Rattle.record_bytes.specs.RecordBytes.{bytes_of, frame_bytes, text_of_bytes, written_records, number_bytes, field_bytes, record_bytes, bytes_of_records}
use Rattle.record_bytes.specs.RecordSteps.{text_from, text_from_lem, frame_from}
use Rattle.texts.specs.Texts.{written_text}

pub records_accepted : (bytes out : List ℕ) (N : Network) → read_text (text_of_bytes bytes) ≡ accepted N → written_records bytes out ≡ written_text N out
unfolding written_records written_text judgement_of
records_accepted bytes out N e = rw (e, ((claim.accepted_texts (text_of_bytes bytes) N).0 e).text, passed (text_of_bytes bytes) N e)

-- ---- a byte is two digits
-- the first two digits of a number, and the others
first_two : (w n : ℕ) → digits (suc (suc w)) n ≡ digits 2 (n / 16 ^ w) ++ digits w (n % 16 ^ w)
unfolding digits
first_two w n =
    let low : n % 16 ^ w < 16 ^ w = mod-lt n (pow_pos w) in
    let first : n / 16 ^ suc w ≡ n / 16 ^ w / 16 = rw pow-suc (sym (div-div-eq-div-mul n (16 ^ w) 16)) in
    let rest : n % 16 ^ suc w ≡ n / 16 ^ w % 16 * 16 ^ w + n % 16 ^ w = rw (pow-suc, mul_comm (16 ^ w) 16) (mod-mul n {m = 16} (lit< tt) (pow_pos w)) in
    let one : n / 16 ^ w % 16 / 1 ≡ n / 16 ^ w % 16 = omega arith in
    rw (first, rest, digits_div (n / 16 ^ w % 16) low, digits_mod (n / 16 ^ w % 16) low, one)

weight : (n : ℕ) → 256 ^ n ≡ 16 ^ (2 * n)
weight zero = refl
weight (suc n) =
    let twice : 2 * suc n ≡ suc (suc (2 * n)) = omega arith in
    rw (twice, pow-suc 256 n, pow-suc 16 (suc (2 * n)), pow-suc 16 (2 * n), weight n, mul_assoc)

number_digits : (n number : ℕ) → flat_map (digits 2) (number_bytes n number) ≡ digits (2 * n) number
unfolding number_bytes flat_map
number_digits zero number = unfold digits in refl
number_digits (suc n) number =
    let twice : 2 * suc n ≡ suc (suc (2 * n)) = omega arith in
    rw (twice, weight n, number_digits n, first_two (2 * n) number)

-- widths that are whole bytes
abbrev Even : List ℕ → Type 0
Even ws = Each (λ w. 2 * (w / 2) ≡ w) ws

field_digits : (ws : List ℕ) (f : Fields ws) → Even ws → flat_map (digits 2) (field_bytes ws f) ≡ write_fields ws f
unfolding field_bytes write_fields
field_digits [] f h = unfold flat_map in refl
field_digits (w ∷ ws) f h = lines_append (digits 2) (number_bytes (w / 2) f.0) (field_bytes ws f.1) ∙ rw (number_digits (w / 2) f.0, h.0, field_digits ws f.1 h.1)

field_length : (ws : List ℕ) (f : Fields ws) → Even ws → 2 * length (field_bytes ws f) ≡ total ws
field_length ws f h = sym (length_lines (digits 2) 2 (length_digits 2) (field_bytes ws f)) ∙ ap length (field_digits ws f h) ∙ length_fields ws f

-- ---- a record is a frame
-- a kind of frame: its fields are whole bytes, and it has all its bytes where there are so many
record Known (F : Frame) : Type 0 where
  even : Even F.widths
  known : (rest : ℕ) → bytes_of F ≤ rest → frame_bytes F.kind rest ≡ bytes_of F

head_known : Known head
unfolding frame_bytes
head_known = record { even = (refl, (refl, (refl, (refl, (refl, (refl, tt)))))); known = λ rest h. omega arith }

bus_known : Known bus
unfolding frame_bytes
bus_known = record { even = (refl, (refl, tt)); known = λ rest h. omega arith }

branch_known : Known branch
unfolding frame_bytes
branch_known = record { even = (refl, (refl, (refl, (refl, tt)))); known = λ rest h. omega arith }

switch_known : Known switch
unfolding frame_bytes
switch_known = record { even = (refl, (refl, (refl, tt))); known = λ rest h. omega arith }

supply_known : Known supply
unfolding frame_bytes
supply_known = record { even = (refl, tt); known = λ rest h. omega arith }

module _ (F : Frame) (k : Known F) where
  record_from : (f : Fields F.widths) (rest : List ℕ) → text_from 0 (record_bytes F f ++ rest) ≡ frame_text F f ++ text_from 0 rest
  unfolding frame_text field_bytes number_bytes write_fields flat_map
  record_from f rest =
      let fields = field_bytes F.widths f in
      let long = field_length F.widths f k.even in
      let kind : F.kind / 1 ≡ F.kind = omega arith in
      let all : frame_bytes F.kind (suc (length (fields ++ rest))) ≡ suc (length fields) = k.known (suc (length (fields ++ rest))) (omega (arith, length-append fields rest)) ∙ omega arith in
      rw kind (frame_from F.kind fields rest all ∙ rw (field_digits F.widths f k.even))

  records_from : {A : Type 0} (fields : A → Fields F.widths) (l : List A) (rest : List ℕ)
      → text_from 0 (flat_map (λ a. record_bytes F (fields a)) l ++ rest) ≡ flat_map (λ a. frame_text F (fields a)) l ++ text_from 0 rest
  unfolding flat_map
  records_from fields [] rest = refl
  records_from fields (a ∷ l) rest =
      let more = flat_map (λ b. record_bytes F (fields b)) l in
      ap (text_from 0) (append_assoc (record_bytes F (fields a)) more rest)
      ∙ record_from (fields a) (more ++ rest)
      ∙ ap (λ (t : List ℕ). frame_text F (fields a) ++ t) (records_from fields l rest)
      ∙ sym (append_assoc (frame_text F (fields a)) (flat_map (λ b. frame_text F (fields b)) l) (text_from 0 rest))

-- the text of a network's records in bytes is the network's text
pub records_of_lem : (N : Network) → text_of_bytes (bytes_of_records N) ≡ text_of N
unfolding bytes_of_records text_of text_from
records_of_lem N =
    let supply-bytes = flat_map (λ id. record_bytes supply (supply_fields id)) (supplies N.supply) in
    let switches = flat_map (λ s. record_bytes switch (switch_fields s)) N.switches in
    let branches = flat_map (λ b. record_bytes branch (branch_fields b)) N.branches in
    let buses = flat_map (λ b. record_bytes bus (bus_fields b)) N.buses in
    let last : text_from 0 supply-bytes ≡ flat_map (λ id. frame_text supply (supply_fields id)) (supplies N.supply) =
    ap (text_from 0) (sym (append-nil supply-bytes)) ∙ records_from supply supply_known supply_fields (supplies N.supply) [] ∙ append-nil _ in
    let on : text_from 0 (switches ++ supply-bytes) ≡ flat_map (λ s. frame_text switch (switch_fields s)) N.switches ++ flat_map (λ id. frame_text supply (supply_fields id)) (supplies N.supply) =
    records_from switch switch_known switch_fields N.switches supply-bytes ∙ rw last in
    sym (text_from_lem (bytes_of_records N))
    ∙ record_from head head_known (head_fields (head_of N)) (buses ++ (branches ++ (switches ++ supply-bytes)))
    ∙ rw (records_from bus bus_known bus_fields N.buses (branches ++ (switches ++ supply-bytes)), records_from branch branch_known branch_fields N.branches (switches ++ supply-bytes), on)

-- so a network's records in bytes are answered as the network is, with the same refusals
pub records_alike : (N : Network) → Writable N → (out : List ℕ) → written_records (bytes_of_records N) out ≡ written_text N out
unfolding written_records written_text
records_alike N w out = rw (records_of_lem N, claim.alike N w, judgement_then (check_network N) N)

-- ---- and they are bytes, where each field has room in its digits
abbrev pub Byte : ℕ → Type 0
Byte b = b < 256

number_bytes_lem : (n number : ℕ) → number < 256 ^ n → Each Byte (number_bytes n number)
unfolding number_bytes
number_bytes_lem zero number h = tt
number_bytes_lem (suc n) number h =
    let some : 0 < 256 ^ n = rw (weight n) (pow_pos (2 * n)) in
    ((div-lt_iff_lt-mul {k = 256 ^ n} some).1 (rw pow-succ' at h), number_bytes_lem n (number % 256 ^ n) (mod-lt number some))

field_bytes_lem : (ws : List ℕ) (f : Fields ws) → Even ws → Fit ws f → Each Byte (field_bytes ws f)
unfolding field_bytes
field_bytes_lem [] f e h = tt
field_bytes_lem (w ∷ ws) f e h =
    let room : f.0 < 256 ^ (w / 2) = rw (weight (w / 2), e.0) h.0 in
    each_append Byte (number_bytes (w / 2) f.0) (field_bytes ws f.1) (number_bytes_lem (w / 2) f.0 room) (field_bytes_lem ws f.1 e.1 h.1)

module _ {A : Type 0} (K : Kind A) (k : Known K.frame) where
  record_bytes_lem : (a : A) → K.Room a → Each Byte (record_bytes K.frame (K.fields a))
  record_bytes_lem a r = field_bytes_lem (layout K.frame) (K.frame.kind, K.fields a) (refl, k.even) (K.sound.byte, K.fit a r)

  all_bytes : (l : List A) → Each K.Room l → Each Byte (flat_map (λ a. record_bytes K.frame (K.fields a)) l)
  unfolding flat_map
  all_bytes [] r = tt
  all_bytes (a ∷ l) r = each_append Byte (record_bytes K.frame (K.fields a)) _ (record_bytes_lem a r.0) (all_bytes l r.1)

pub records_bytes : (N : Network) → Writable N → Each Byte (bytes_of_records N)
unfolding bytes_of_records
records_bytes N w =
    each_append Byte (record_bytes head (head_fields (head_of N))) _ (record_bytes_lem head_kind head_known (head_of N) w.head_room)
    (each_append Byte (flat_map (λ b. record_bytes bus (bus_fields b)) N.buses) _ (all_bytes bus_kind bus_known N.buses w.bus_room)
    (each_append Byte (flat_map (λ b. record_bytes branch (branch_fields b)) N.branches) _ (all_bytes branch_kind branch_known N.branches w.branch_room)
    (each_append Byte (flat_map (λ s. record_bytes switch (switch_fields s)) N.switches) _ (all_bytes switch_kind switch_known N.switches w.switch_room)
    (all_bytes supply_kind supply_known (supplies N.supply) w.supply_room))))
