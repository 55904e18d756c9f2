-- Records stored in front of what an array held: one record more, and the array that held nothing listed.
use mathlib.Core.Path.{◌≡◌, sym, ap, ◌∙◌, subst}
use mathlib.Core.List.{List, [], ◌∷◌, ◌++◌, append_assoc}
use Prim.Native.Nat.{ℕ, suc, ◌-◌, ◌≤◌, ◌<◌}
use native.Mathlib.Omega.{arith}
use native.Mathlib.Numerals.{add-one}
use lib.ListN.{length, get_or, set, take, drop, replicate, length-append, length-drop, take-append-drop}
use lib.Seq.{drop-cons, append_snoc, set-append_seam, length-take-le}
use Rattle.std.proofs.lemmas.List.{length-replicate, drop-replicate, drop-append-le}
use Rattle.numbers.specs.Arrays.{padded}
use Rattle.network.specs.Answers.{Fault}
use Rattle.lines.specs.Hex.{Fields}
use Rattle.lines.specs.Frames.{Frame}
use Rattle.lines.specs.Lines.{Line}
use Rattle.frames.specs.declared.pass.Pass as Code
use Rattle.frames.specs.Passes.{Pass, pass_run}
use Rattle.frames.specs.FrameReads.{in_front, IsNext, IsRead}

-- the records of a pass in an array of this size, and nothing listed behind them
pub record IsHeld {A : Type 0} (size : ℕ) (none : A) (text : List ℕ) (pass : Pass A) (array : List A) (r : Code.Pass) : Type 0 where
  pub lines : IsNext (padded size none) text pass array r.next
  pub count : r.read ≡ length pass.records

pub one_in_front : {A : Type 0} (old l : List A) (x : A) (i : ℕ) → length l ≡ i → i < length old → set (in_front old l) i x ≡ in_front old (l ++ (x ∷ []))
one_in_front old l x i e h =
    let rest : drop (length l) old ≡ get_or old (length l) x ∷ drop (suc (length l)) old = drop-cons old (length l) x (omega arith) in
    rw (← e, rest, length-append, add-one) (set-append_seam l (get_or old (length l) x) (drop (suc (length l)) old) x ∙ sym (append_snoc l x (drop (suc (length l)) old)))

-- ---- records read into the first k of an array in which nothing was listed
module _ {A : Type 0} (size : ℕ) (none : A) (array : List A) (k : ℕ) (empty : array ≡ padded size none []) (h : k ≤ size) where
  all_empty : array ≡ replicate size none
  unfolding padded
  all_empty = let z : size - 0 ≡ size = omega arith in empty ∙ ap (λ (n : ℕ). replicate n none) z

  counted : length (take k array) ≡ k
  counted = rw all_empty (length-take-le k _ (omega (arith, length-replicate size none)))

  stored_first : (new records : List A) → new ≡ in_front (take k array) records → length new ≡ length (take k array) → new ++ drop k array ≡ padded size none records
  unfolding padded
  stored_first new records stored long =
      let front = take k array in
      let few : length records ≤ length front = omega (arith, ap length stored, length-append records (drop (length records) front), length-drop (length records) front, long) in
      rw (stored, append_assoc, ← drop-append-le (length records) front (drop k array) few, take-append-drop, all_empty, drop-replicate)

  -- so many lines of a kind
  module _ (F : Frame) (make : Fields F.widths → A) (bytes : Fields F.widths → List Fault) (n place : ℕ) (e : k ≡ n) (text : List ℕ) (ls : List Line) where
    pub kind_held : (r : Code.Pass) (new : List A) → length new ≡ length (take k array)
        → IsRead text (pass_run F make bytes (length (take k array)) place ls) (take k array) new r → IsHeld size none text (pass_run F make bytes n place ls) (new ++ drop k array) r
    kind_held r new long i =
        let same : length (take k array) ≡ n = counted ∙ e in
        let j : IsRead text (pass_run F make bytes n place ls) (take k array) new r = subst (λ (m : ℕ). IsRead text (pass_run F make bytes m place ls) (take k array) new r) same i in
        record { lines = record { records = stored_first new _ j.lines.records long; next = j.lines.next }; count = j.count }
