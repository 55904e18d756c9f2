-- The operations and their lines as a loop over the switches makes them.
use Rattle.std.specs.Prelude.{◌≡◌, Bool, not, eqb, take, drop, count_by}
use Rattle.std.specs.List.{zip}
use Rattle.std.proofs.Math.Path.{refl, sym, ap}
use Rattle.std.proofs.Common.{◌∙◌, add-one, add-zero, add-suc, zero-add, length-append, eq-eqb, ne_eqb}
use Rattle.std.proofs.Math.Bool.{true, false, cond}
use mathlib.Core.List.{List, [], ◌∷◌, ◌++◌, map, flat_map, append-nil}
use Prim.Native.Nat.{ℕ, zero, suc, ◌+◌, ◌*◌, ◌-◌, ◌≤◌, ◌<◌}
use native.Mathlib.Omega.{arith}
use Rattle.std.proofs.Math.ListN.{length}
use Rattle.std.proofs.lemmas.List.{length-map}
use Rattle.std.proofs.lemmas.List.Sums.{sum_by-cons}
use Rattle.std.proofs.lemmas.List.Edits.{sets}
use Rattle.std.proofs.Math.Seq.{length-sets}
use borrow.Rule.Slice.PartMut.{put_mid}
use Rattle.numbers.specs.UpTo.{up_to, up_to_more}
use Rattle.numbers.specs.Choose.{those}
use Rattle.numbers.specs.ChooseLaws.{those_long}
use Rattle.numbers.specs.TableLaws.{map_snoc}
use Rattle.numbers.specs.Counts.{count}
use Rattle.numbers.specs.CountLaws.{count_front}
use Rattle.network.specs.declared.switch.Switch.{Switch}
use Rattle.network.specs.Records.{Network}
use Rattle.states.specs.Switches.{State, byte, size, switch}
use Rattle.printing.specs.declared.writer.SwitchOperation.{SwitchOperation}
use Rattle.slices.specs.Written.{written}
use Rattle.printing.specs.Printed.{operation_text}
use Rattle.slices.specs.WrittenLaws.{sets_append, written_sets, written_part}
use Rattle.printing.specs.Lengths.{operation_length}
use Rattle.printing.specs.LineTexts as Texts
use Rattle.operations.specs.Operations.{operation_to, operation_of, operations, operations_text}
use Rattle.operations.specs.OperationValues.{differs, line_of}

-- ---- lines
pub length_text : (l : List SwitchOperation) → length (operations_text l) ≡ operation_length * length l
unfolding operations_text
length_text l = Texts.length_lines _ operation_length Texts.length_operation l

text_more : (l : List SwitchOperation) (o : SwitchOperation) → operations_text (l ++ (o ∷ [])) ≡ operations_text l ++ operation_text o
unfolding operations_text
text_more l o = Texts.lines_more _ l o

-- ---- the line of a switch
module _ (w : Switch) (from to : ℕ) where
  stays : from ≡ to → line_of w from to ≡ []
  unfolding line_of
  stays e = rw (eq-eqb _ _ e)

  changes : (from ≡ to → ⊥) → line_of w from to ≡ operation_text (operation_to w to)
  unfolding line_of
  changes d = rw (ne_eqb from to d)

  length_change : (from ≡ to → ⊥) → length (line_of w from to) ≡ operation_length
  length_change d = ap length (changes d) ∙ Texts.length_operation (operation_to w to)

  module _ (out : List ℕ) (at : ℕ) where
    pub change_none : from ≡ to → (out ≡ sets out at (line_of w from to)) × (at ≡ at + length (line_of w from to))
    change_none e = (rw (stays e), rw (stays e, add-zero))

    -- the line is written into the part from `at` on
    pub change_written : (from ≡ to → ⊥) → at + length (line_of w from to) ≤ length out → {o : SwitchOperation} → o ≡ operation_to w to
        → {part : List ℕ} → part ≡ written (operation_text o) (take (length out - at) (drop at out))
        → (put_mid at (length out - at) out part ≡ sets out at (line_of w from to)) × (at + operation_length ≡ at + length (line_of w from to))
    change_written d room a e =
        let long = length_change d in
        (written_part (line_of w from to) out at room (e ∙ rw (a, changes d)), omega arith)

-- ---- how many switches stand otherwise
pub differing : (from to : State) → length to ≡ length from → count_by (λ (p : ℕ × ℕ). not (eqb p.0 p.1)) (zip from to) ≡ count (differs from to) (length from)
differing [] [] e = unfold count in refl
differing [] (b ∷ to) e = absurd (omega arith)
differing (a ∷ from) [] e = absurd (omega arith)
differing (a ∷ from) (b ∷ to) e =
    sum_by-cons (λ (p : ℕ × ℕ). cond (not (eqb p.0 p.1)) 1 0) (a, b) (zip from to)
    ∙ rw (count_front (differs (a ∷ from) (b ∷ to)) (length from)) (ap (λ (n : ℕ). cond (not (eqb a b)) 1 0 + n) (differing from to (omega arith)))

-- ---- by rising position
module _ (N : Network) (from to : State) where
  abbrev more : List SwitchOperation → ℕ → List SwitchOperation
  more l i = cond (eqb (byte from i) (byte to i)) l (l ++ (operation_of N to i ∷ []))

  -- the operations on the first i switches
  first : ℕ → List SwitchOperation
  first i = up_to more [] i

  first_more : (i : ℕ) → first (i + 1) ≡ more (first i) i
  unfolding first
  first_more i = up_to_more more [] i

  first_all : first (size N) ≡ operations N from to
  unfolding first operations
  first_all = refl

  -- an operation for each position at which the two states differ, rising
  first_those : (i : ℕ) → first i ≡ map (operation_of N to) (those (differs from to) i)
  unfolding first up_to those
  first_those zero = refl
  first_those (suc i) = go (eqb (byte from i) (byte to i)) (first_those i)
    where
      go : (b : Bool) → first i ≡ map (operation_of N to) (those (differs from to) i)
          → cond b (first i) (first i ++ (operation_of N to i ∷ [])) ≡ map (operation_of N to) (cond (not b) (those (differs from to) i ++ (i ∷ [])) (those (differs from to) i))
      go true e = e
      go false e = ap (λ (l : List SwitchOperation). l ++ (operation_of N to i ∷ [])) e ∙ sym (map_snoc (operation_of N to) (those (differs from to) i) i)

  pub by_position : operations N from to ≡ map (operation_of N to) (those (differs from to) (size N))
  by_position = sym first_all ∙ first_those (size N)

  pub length_operations : length (operations N from to) ≡ count (differs from to) (size N)
  length_operations = ap length by_position ∙ length-map (those (differs from to) (size N)) (operation_of N to) ∙ those_long (differs from to) (size N)

  -- ---- their lines
  text : ℕ → List ℕ
  text i = operations_text (first i)

  text_next : (i : ℕ) → text (i + 1) ≡ text i ++ line_of (switch N i) (byte from i) (byte to i)
  unfolding text line_of
  text_next i = ap operations_text (first_more i) ∙ go (eqb (byte from i) (byte to i))
    where
      go : (b : Bool) → operations_text (cond b (first i) (first i ++ (operation_of N to i ∷ []))) ≡ text i ++ cond b [] (operation_text (operation_of N to i))
      go true = sym (append-nil (operations_text (first i)))
      go false = text_more (first i) (operation_of N to i)

  text_longer : (i j : ℕ) → length (text i) ≤ length (text (i + j))
  text_longer i zero = rw add-zero (omega arith)
  text_longer i (suc j) = rw (add-suc, ← add-one) (omega (arith, text_longer i j, ap length (text_next (i + j)) ∙ length-append (text (i + j)) _))

  text_within : (i : ℕ) → i ≤ size N → length (text i) ≤ operation_length * length (operations N from to)
  unfolding text
  text_within i h =
      let e : i + (size N - i) ≡ size N = omega arith in
      let all : length (text (i + (size N - i))) ≡ operation_length * length (operations N from to) = ap (λ k. length (text k)) e ∙ ap (λ l. length (operations_text l)) first_all ∙ length_text (operations N from to) in
      omega (arith, text_longer i (size N - i))

  module _ (out : List ℕ) where
    -- the lines of the first i switches have been written, and the next one begins at `at`
    pub record Lines (now : List ℕ) (at i : ℕ) : Type 0 where
      pub within : i ≤ size N
      here : at ≡ length (text i)
      so_far : now ≡ sets out 0 (text i)

    pub lines_none : Lines out 0 0
    unfolding text first up_to operations_text flat_map
    lines_none = record { within = omega arith; here = refl; so_far = refl }

    module _ (now : List ℕ) (at i : ℕ) (l : Lines now at i) where
      pub lines_length : length now ≡ length out
      lines_length = ap length l.so_far ∙ length-sets out 0 (text i)

      module _ (w : Switch) (a b : ℕ) (e : w ≡ switch N i) (f : a ≡ byte from i) (t : b ≡ byte to i) (h : i < size N) where
        next : text (i + 1) ≡ text i ++ line_of w a b
        next = rw (e, f, t) (text_next i)

        pub lines_room : operation_length * length (operations N from to) ≤ length out → at + length (line_of w a b) ≤ length now
        lines_room room =
            omega (arith, lines_length, l.here, ap length next ∙ length-append (text i) (line_of w a b), text_within (i + 1) (omega arith))

        pub lines_more : (after : List ℕ) (r : ℕ) → after ≡ sets now at (line_of w a b) → r ≡ at + length (line_of w a b) → Lines after r (i + 1)
        lines_more after r s q = record {
          within = omega arith;
          here = omega (arith, l.here, ap length next ∙ length-append (text i) (line_of w a b));
          so_far = s ∙ rw (l.here, l.so_far, next) (rw zero-add at (sets_append out 0 (text i) (line_of w a b)));
        }

      pub lines_all : size N ≤ i → operation_length * length (operations N from to) ≤ length out → now ≡ written (operations_text (operations N from to)) out
      unfolding text
      lines_all h room =
          let e : i ≡ size N = omega (arith, l.within) in
          let t : text i ≡ operations_text (operations N from to) = ap text e ∙ ap operations_text first_all in
          l.so_far ∙ rw t (sym (written_sets (operations_text (operations N from to)) out (rw length_text room)))
