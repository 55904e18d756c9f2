-- The text of records in bytes as the code makes it, byte after byte: it is the text that `text_of_bytes` makes frame after frame.
use Rattle.std.specs.Prelude.{◌≡◌, refl, Bool, true, false, cond, ℕ, zero, suc, ◌+◌, ◌-◌, ◌<◌, ◌≤◌, min, eqb, length, get_or, take, drop}
use Rattle.std.proofs.Common.{ap, ◌∙◌, add-one, arith, length-append, length-drop, drop-cons, ne_eqb}
use mathlib.Core.List.{List, [], ◌∷◌, ◌++◌, flat_map, append_assoc, append-nil}
use Rattle.std.proofs.Math.Seq.{take-append_seam, drop-append_seam}
use Rattle.lines.specs.Hex.{digits}
use Rattle.lines.specs.HexLaws.{length_digits}
use Rattle.record_lines.specs.Kinds.{head, bus, branch, switch, supply}
use Rattle.record_bytes.specs.RecordBytes.{bytes_of, frame_bytes, line_of_bytes, lines_of_bytes, text_of_bytes}

-- how many bytes of a line there are from this byte on: so many are left of a line that was begun, or a frame begins here
unfoldable pub line_bytes : ℕ → ℕ → ℕ → ℕ
line_bytes zero byte rest = frame_bytes byte rest
line_bytes (suc left) byte rest = suc left

-- a byte with so many bytes of its line from it on: its digits, and the line feed behind the last
unfoldable pub byte_text : ℕ → ℕ → List ℕ
byte_text n byte = digits 2 byte ++ cond (eqb n 1) (10 ∷ []) []

-- the text of bytes of which the first `left` belong to a line that was begun
unfoldable pub text_from : ℕ → List ℕ → List ℕ
text_from left [] = []
text_from left (byte ∷ bytes) =
    let n = line_bytes left byte (length (byte ∷ bytes)) in
    byte_text n byte ++ text_from (n - 1) bytes

-- ---- a frame has a byte, and no more than there are
pub frame_some : (kind rest : ℕ) → 0 < rest → (0 < frame_bytes kind rest) × (frame_bytes kind rest ≤ rest)
unfolding frame_bytes
frame_some kind rest h = go (eqb kind head.kind) (eqb kind bus.kind) (eqb kind branch.kind) (eqb kind switch.kind) (eqb kind supply.kind)
  where
    go : (a b c d e : Bool)
        → let n = cond a (min (bytes_of head) rest) (cond b (min (bytes_of bus) rest) (cond c (min (bytes_of branch) rest) (cond d (min (bytes_of switch) rest) (cond e (min (bytes_of supply) rest) rest)))) in
        (0 < n) × (n ≤ rest)
    go true b c d e = (omega arith, omega arith)
    go false true c d e = (omega arith, omega arith)
    go false false true d e = (omega arith, omega arith)
    go false false false true e = (omega arith, omega arith)
    go false false false false true = (omega arith, omega arith)
    go false false false false false = (h, omega arith)

pub line_begins : (left byte rest : ℕ) → left ≡ 0 → frame_bytes byte rest ≡ line_bytes left byte rest
unfolding line_bytes
line_begins left byte rest e = rw e

pub line_goes_on : (left byte rest : ℕ) → (left ≡ 0 → ⊥) → left ≡ line_bytes left byte rest
unfolding line_bytes
line_goes_on zero byte rest h = absurd (h refl)
line_goes_on (suc left) byte rest h = refl

pub line_some : (left byte rest : ℕ) → 0 < rest → 0 < line_bytes left byte rest
unfolding line_bytes
line_some zero byte rest h = (frame_some byte rest h).0
line_some (suc left) byte rest h = omega arith

-- ---- a byte
pub byte_last : (byte : ℕ) → byte_text 1 byte ≡ digits 2 byte ++ (10 ∷ [])
unfolding byte_text
byte_last byte = refl

pub byte_more : (n byte : ℕ) → (n ≡ 1 → ⊥) → byte_text n byte ≡ digits 2 byte
unfolding byte_text
byte_more n byte h = rw (ne_eqb n 1 h, append-nil)

pub byte_short : (n byte : ℕ) → length (byte_text n byte) ≤ 3
unfolding byte_text
byte_short n byte = go (eqb n 1)
  where
    go : (b : Bool) → length (digits 2 byte ++ cond b (10 ∷ []) []) ≤ 3
    go true = rw (length-append, length_digits) (omega arith)
    go false = rw (length-append, length_digits) (omega arith)

-- ---- a line that was begun, then what is behind it
one_from : (n byte : ℕ) (bytes : List ℕ) → text_from (suc n) (byte ∷ bytes) ≡ byte_text (suc n) byte ++ text_from n bytes
unfolding text_from line_bytes
one_from n byte bytes =
    let behind : suc n - 1 ≡ n = omega arith in
    ap (λ (k : ℕ). byte_text (suc n) byte ++ text_from k bytes) behind

pub line_from_lem : (n : ℕ) (bytes : List ℕ) → n < length bytes → text_from (suc n) bytes ≡ line_of_bytes (take (suc n) bytes) ++ text_from 0 (drop (suc n) bytes)
unfolding flat_map
line_from_lem n [] h = absurd (omega arith)
line_from_lem zero (b ∷ bytes) h = one_from 0 b bytes ∙ ap (λ (l : List ℕ). l ++ text_from 0 bytes) (byte_last b) ∙ simp (append_assoc, append-nil)
line_from_lem (suc n) (b ∷ bytes) h =
    one_from (suc n) b bytes
    ∙ ap (λ (l : List ℕ). l ++ text_from (suc n) bytes) (byte_more (suc (suc n)) b (λ e. omega arith))
    ∙ ap (λ (l : List ℕ). digits 2 b ++ l) (line_from_lem n bytes (omega arith))
    ∙ simp append_assoc

-- a frame that begins here
begins : (n : ℕ) (kind : ℕ) (bytes : List ℕ) → frame_bytes kind (length (kind ∷ bytes)) ≡ suc n → text_from 0 (kind ∷ bytes) ≡ text_from (suc n) (kind ∷ bytes)
unfolding text_from line_bytes
begins n kind bytes e = rw e

-- a frame with all its bytes, and what is behind it
pub frame_from : (kind : ℕ) (fields rest : List ℕ) → frame_bytes kind (length (kind ∷ (fields ++ rest))) ≡ suc (length fields)
    → text_from 0 (kind ∷ (fields ++ rest)) ≡ line_of_bytes (kind ∷ fields) ++ text_from 0 rest
frame_from kind fields rest e =
    begins (length fields) kind (fields ++ rest) e
    ∙ line_from_lem (length fields) (kind ∷ (fields ++ rest)) (omega (arith, length-append fields rest))
    ∙ rw (take-append_seam, drop-append_seam)

pub frames_from : (more : ℕ) (bytes : List ℕ) → length bytes ≤ more → text_from 0 bytes ≡ lines_of_bytes more bytes
unfolding text_from lines_of_bytes
frames_from zero [] h = refl
frames_from (suc more) [] h = refl
frames_from zero (kind ∷ bytes) h = absurd (omega arith)
frames_from (suc more) (kind ∷ bytes) h = go (frame_bytes kind (length (kind ∷ bytes))) refl (frame_some kind (length (kind ∷ bytes)) (omega arith)) (λ l k. frames_from more l k)
  where
    go : (n : ℕ) → frame_bytes kind (length (kind ∷ bytes)) ≡ n → (0 < frame_bytes kind (length (kind ∷ bytes))) × (frame_bytes kind (length (kind ∷ bytes)) ≤ length (kind ∷ bytes))
        → ((l : List ℕ) → length l ≤ more → text_from 0 l ≡ lines_of_bytes more l)
        → text_from 0 (kind ∷ bytes) ≡ line_of_bytes (take n (kind ∷ bytes)) ++ lines_of_bytes more (drop n (kind ∷ bytes))
    go zero e some rest = absurd (omega arith)
    go (suc n) e some rest =
        begins n kind bytes e
        ∙ line_from_lem n (kind ∷ bytes) (omega arith)
        ∙ ap (λ (l : List ℕ). line_of_bytes (take (suc n) (kind ∷ bytes)) ++ l) (rest (drop n bytes) (omega (arith, length-drop n bytes)))

pub text_from_lem : (bytes : List ℕ) → text_from 0 bytes ≡ text_of_bytes bytes
unfolding text_of_bytes
text_from_lem bytes = frames_from (length bytes) bytes (omega arith)

-- the byte at a position, and what is behind it
pub next_from : (left : ℕ) (records : List ℕ) (i : ℕ) → i < length records → {n : ℕ} → n ≡ line_bytes left (get_or records i 0) (length records - i)
    → text_from left (drop i records) ≡ byte_text n (get_or records i 0) ++ text_from (n - 1) (drop (i + 1) records)
unfolding text_from
next_from left records i h e =
    let long : suc (length (drop (suc i) records)) ≡ length records - i = omega (arith, length-drop (suc i) records) in
    rw (drop-cons records i 0 h, add-one, e, long)
