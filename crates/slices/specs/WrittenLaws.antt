-- Bytes that are written into a slice, one after the other or into the part of it that begins behind them.
use Rattle.std.specs.Prelude.{◌≡◌, refl, Bool, true, false, List, [], ◌∷◌, ◌++◌, ℕ, suc, ◌+◌, ◌-◌, ◌<◌, ◌≤◌, length, take, drop, set, leb}
use Rattle.std.proofs.Common.{sym, ap, ◌∙◌, append-nil, arith, add-zero, add-suc, suc-add, zero-add, length-append, length-drop, take-append-drop, drop_of_length-le, le-leb, leb-true, leb-false}
use Rattle.std.proofs.lemmas.List.Edits.{sets, sets-eq}
use Rattle.std.proofs.Math.Seq.{length-sets, take-append_seam}
use Rattle.std.proofs.lemmas.List.{take-set-le, drop-set-add}
use Rattle.std.proofs.lemmas.Bool.{lt-leb}
use borrow.Rule.Slice.PartMut.{put_mid}
use Rattle.numbers.specs.Parts.{part_rest}
use Rattle.slices.specs.Written.{written}

-- ---- stores
module _ {A : Type 0} where
  -- stores behind stores
  pub sets_append : (l : List A) (i : ℕ) (vs ws : List A) → sets (sets l i vs) (i + length vs) ws ≡ sets l i (vs ++ ws)
  sets_append l i [] ws = rw add-zero
  sets_append l i (v ∷ vs) ws = rw (add-suc, ← suc-add) (sets_append (set l i v) (suc i) vs ws)

  sets_behind : (vs l : List A) (n i : ℕ) → sets l (n + i) vs ≡ take n l ++ sets (drop n l) i vs
  sets_behind [] l n i = sym (take-append-drop n l)
  sets_behind (v ∷ vs) l n i =
      let rest = sets_behind vs (set l (n + i) v) n (suc i) in
      rw (add-suc, take-set-le n l (n + i) v (omega arith), drop-set-add n l i v) at rest

  -- stores at the front of the part from n on, lent as `&mut l[n..]`
  pub sets_part : (l : List A) (n : ℕ) (vs : List A) {part : List A} → part ≡ sets (take (length l - n) (drop n l)) 0 vs
      → put_mid n (length l - n) l part ≡ sets l n vs
  sets_part l n vs e =
      let none : drop (length l - n) (drop n l) ≡ [] = drop_of_length-le (drop n l) {i = length l - n} (omega (arith, length-drop n l)) in
      let whole = sets_behind vs l n 0 in
      rw (none, append-nil, e, part_rest) (sym (rw add-zero at whole))

-- ---- bytes at the front
pub written_room : (bytes out : List ℕ) → length bytes ≤ length out → written bytes out ≡ bytes ++ drop (length bytes) out
unfolding written
written_room bytes out h = rw (le-leb (length bytes) (length out) h)

-- and what stands at the front then
pub take_written : (bytes out : List ℕ) {n : ℕ} → length bytes ≡ n → n ≤ length out → {after : List ℕ} → after ≡ written bytes out → take n after ≡ bytes
take_written bytes out long room e = rw (e, written_room bytes out (rw long room), ← long) (take-append_seam bytes (drop (length bytes) out))

pub written_sets : (bytes out : List ℕ) → length bytes ≤ length out → written bytes out ≡ sets out 0 bytes
written_sets bytes out h =
    let all = sets-eq bytes out 0 (omega arith) in
    written_room bytes out h ∙ sym (rw zero-add at all)

pub written_short : (bytes out : List ℕ) → length out < length bytes → written bytes out ≡ out
unfolding written
written_short bytes out h = rw (lt-leb (length bytes) (length out) h)

pub length_written : (bytes out : List ℕ) → length (written bytes out) ≡ length out
length_written bytes out = go (leb (length bytes) (length out)) refl
  where
    go : (b : Bool) → leb (length bytes) (length out) ≡ b → length (written bytes out) ≡ length out
    go true e = ap length (written_sets bytes out (leb-true (length bytes) (length out) e)) ∙ length-sets out 0 bytes
    go false e = ap length (written_short bytes out (leb-false (length bytes) (length out) e))

-- bytes at the front of the part from n on
pub written_part : (bytes l : List ℕ) (n : ℕ) {part : List ℕ} → n + length bytes ≤ length l → part ≡ written bytes (take (length l - n) (drop n l))
    → put_mid n (length l - n) l part ≡ sets l n bytes
written_part bytes l n room e =
    let long : length bytes ≤ length (take (length l - n) (drop n l)) = rw part_rest (omega (arith, length-drop n l)) in
    sets_part l n bytes (e ∙ written_sets bytes (take (length l - n) (drop n l)) long)

-- in two steps: a, then b into the part that begins behind it, is a ++ b
pub written_append : (a b out : List ℕ) (n : ℕ) {l part : List ℕ} → length a ≡ n → n + length b ≤ length out → l ≡ written a out
    → part ≡ written b (take (length l - n) (drop n l)) → put_mid n (length l - n) l part ≡ written (a ++ b) out
written_append a b out n {l} behind room first next =
    let front = first ∙ written_sets a out (omega arith) in
    let long : length l ≡ length out = ap length first ∙ length_written a out in
    written_part b l n (omega arith) next
    ∙ (rw (front, ← behind) (rw zero-add at (sets_append out 0 a b)))
    ∙ sym (written_sets (a ++ b) out (omega (arith, length-append a b)))
