-- A line as it is found, digits and numbers character after character, for the loops that pass them, and the parts that are made of them.
use mathlib.Core.Path.{◌≡◌, refl, sym, ap, ◌∙◌}
use mathlib.Core.Bool.{and-false, or-true}
use mathlib.Core.List.{List}
use Prim.Native.Nat.{ℕ, zero, suc, ◌+◌, ◌*◌, ◌-◌, ◌≤◌, ◌<◌, min}
use native.Mathlib.Numerals.{add-one}
use native.Mathlib.Omega.{arith}
use lib.ListN.{length, take, drop, get_or, length-take, length-drop, drop_of_length-le}
use lib.Seq.{drop-cons, ext_get_or, get_or-take}
use borrow.Author.Tests.{le-leb, lt-leb, eq-eqb, ne_eqb}
use Rattle.numbers.specs.Choose.{index_of}
use Rattle.numbers.specs.Parts.{part_rest}
use Rattle.numbers.specs.UpTo.{table}
use Rattle.numbers.specs.TableLaws.{as_table}
use Rattle.std.specs.Array.{IsFromFnResult, IsFromFnResultFrom}
use Rattle.std.proofs.Math.Decide.{ℕ_discrete}
use denote.Param.Members.{Called, Mut}
use Rattle.cases.specs.Cases.{Inside, part_of, line_length, line_behind, digit_of, number_from, first_case}
use Rattle.cases.specs.declared.Case.{Case}
use Rattle.cases.specs.declared.Number.{Number}
use Rattle.cases.specs.declared.Part.{Part}

-- ---- a line
pub line_is : (t : List ℕ) (n : ℕ) → n ≡ index_of 10 t → n ≡ line_length t
unfolding line_length
line_is t n e = e

-- ---- a digit
module _ (c : ℕ) where
  pub under_digits : c < 48 → digit_of c ≡ 255
  unfolding digit_of
  under_digits h = rw (lt-leb 48 c h)

  pub of_digits : 48 ≤ c → c < 58 → digit_of c ≡ c - 48
  unfolding digit_of
  of_digits h k = rw (le-leb 48 c h, le-leb c 57 (omega arith))

  pub over_digits : 58 ≤ c → digit_of c ≡ 255
  unfolding digit_of
  over_digits h = rw (lt-leb c 57 (omega arith), and-false)

-- ---- a number
abbrev pub number : ℕ → ℕ → Number
number value digits = record { value = value; digits = digits }

-- the first i characters are digits, and make the value
pub record Read (line : List ℕ) (value i : ℕ) : Type 0 where
  pub within : i ≤ length line
  pub small : value < 1000000000
  pub rest : number_from value i (drop i line) ≡ number_from 0 0 line

pub none_read : (line : List ℕ) → Read line 0 0
none_read line = record { within = omega arith; small = omega arith; rest = refl }

module _ {line : List ℕ} {value i : ℕ} (p : Read line value i) where
  abbrev Ends : Type 0
  Ends = (number value i ≡ number_from 0 0 line) × (i ≤ length line)

  pub no_digit : i < length line → digit_of (get_or line i 0) ≡ 255 → Ends
  unfolding number_from
  no_digit h e =
      let stops : number_from value i (drop i line) ≡ number value i = rw (drop-cons line i 0 h, eq-eqb _ 255 e) in
      (sym stops ∙ p.rest, p.within)

  pub large_number : i < length line → 9999999 ≤ value → Ends
  unfolding number_from
  large_number h e =
      let stops : number_from value i (drop i line) ≡ number value i = rw (drop-cons line i 0 h, le-leb 9999999 value e, or-true) in
      (sym stops ∙ p.rest, p.within)

  pub digit_read : (d : ℕ) → i < length line → (digit_of (get_or line i 0) ≡ d) × (d < 10) → value < 9999999 → Read line (value * 10 + d) (i + 1)
  unfolding number_from
  digit_read d h e k =
      let more : number_from value i (drop i line) ≡ number_from (value * 10 + d) (i + 1) (drop (i + 1) line) =
      rw (add-one i, drop-cons line i 0 h, e.0, ne_eqb d 255 (omega arith), lt-leb 9999999 value k)
      in
      record { within = omega arith; small = omega arith; rest = sym more ∙ p.rest }

  pub line_read : length line ≤ i → (number value (length line) ≡ number_from 0 0 line) × (length line ≤ length line)
  unfolding number_from
  line_read h =
      let all : length line ≡ i = omega (arith, p.within) in
      let stops : number_from value i (drop i line) ≡ number value i = rw (drop_of_length-le line {i = i} h) in
      (rw all (sym stops ∙ p.rest), omega arith)

-- ---- parts
abbrev pub part : ℕ → ℕ → Part
part from to = record { from = from; to = to }

-- how much of a part the input has, cut first or last
cut_before : (a b n : ℕ) → min b n - a ≡ min (b - a) (n - a)
cut_before a b n = omega arith

cut_from : (a to n : ℕ) → to ≤ n → min (to - min a to) (n - min a to) ≡ to - a
cut_from a to n l = omega arith

-- the bytes of a part that is cut to what the input has
pub part_cut : (t : List ℕ) (p : Part) (from to : ℕ) → to ≡ min p.to (length t) → from ≡ min p.from to → take (to - from) (drop from t) ≡ part_of t p
unfolding part_of
part_cut t p from to e f =
    ext_get_or 0 (take (to - from) (drop from t)) (take (p.to - p.from) (drop p.from t))
    (simp (length-take, length-drop, f) (cut_from p.from to (length t) (omega arith) ∙ ap (λ n. n - p.from) e ∙ cut_before p.from p.to (length t)))
    (λ i h.
    let k : i < to - from = omega (arith, simp (length-take, length-drop) at h) in
    let same : from ≡ p.from = omega arith in
    rw (get_or-take (to - from) (drop from t) i 0 k, get_or-take (p.to - p.from) (drop p.from t) i 0 (omega arith), same))

-- what is found behind `from` in the part that is lent
pub line_found : (t : List ℕ) (at from n : ℕ) → from ≡ min (at + 1) (length t)
    → let lent = take (length t - from) (drop from t) in (n ≡ line_length lent) × (n ≤ length lent)
    → (part from (from + n) ≡ line_behind t at) × Inside (part from (from + n)) (length t)
unfolding line_behind
line_found t at from n e f =
    let all = part_rest t from in
    let g : n ≡ line_length (drop from t) = f.0 ∙ ap line_length all in
    let l : n ≤ length t - from = omega (arith, f.1, ap length all, length-drop from t) in
    (rw (g, e), record { ordered = omega arith; ends = omega arith })

pub case_found : (t : List ℕ) (head : ℕ) (m : Number) (name from size : ℕ) → head ≡ line_length t → m ≡ number_from 0 0 (take head t)
    → name ≡ min (m.digits + 1) head → from ≡ min (head + 1) (length t) → size ≡ min m.value (length t - from)
    → ◌≡◌ {A = Case} (record { name = part name head; text = part from (from + size) }) (first_case t)
unfolding first_case
case_found t head m name from size e f g h k = rw (k, h, g, f, e)

-- ---- a state
module _ {F : Type 0} {g : Mut F (ℕ × Unit {0}) ℕ} (f : F) (value : ℕ → ℕ) (step : (i y : ℕ) (q : F) → Called g f (i, tt) y q → (q ≡ f) × (y ≡ value i)) where
  -- what calls from i on made
  made_at : (ys : List ℕ) (n i : ℕ) (p : F) → p ≡ f → IsFromFnResultFrom g p ys i n → (k : ℕ) → i ≤ k → k < i + n → get_or ys k 0 ≡ value k
  made_at ys zero i p e made k a b = absurd (omega arith)
  made_at ys (suc n) i p e made k a b =
      let called : (made.0 ≡ f) × (made.1 ≡ value i) = step i made.1 made.0 (rw e at made.3) in
      go called (ℕ_discrete k i) (λ c. made_at ys n (i + 1) made.0 called.0 made.4 k c (omega arith))
    where
      go : (made.0 ≡ f) × (made.1 ≡ value i) → Dec (k ≡ i) → (i + 1 ≤ k → get_or ys k 0 ≡ value k) → get_or ys k 0 ≡ value k
      go called (yes h) more = rw h (made.2.1 0 ∙ called.1)
      go called (no h) more = more (omega arith)

  pub made_table : (ys : List ℕ) (n : ℕ) → IsFromFnResult g f ys n → ys ≡ table value n
  made_table ys n made = as_table value n 0 ys made.long (λ i h. made_at ys n 0 f refl made.each i (omega arith) (omega arith))
