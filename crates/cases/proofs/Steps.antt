-- One line more, one case more, and a state of so many digits.
use Rattle.std.specs.Prelude.{◌≡◌, refl, List, [], ◌∷◌, ℕ, zero, suc, ◌+◌, ◌-◌, ◌≤◌, ◌<◌, min, length, take, drop, get_or}
use Rattle.std.proofs.Common.{sym, ap, ◌∙◌, add-one, arith, length-drop, length-take, get_or-take}
use Rattle.std.proofs.lemmas.List.{drop_min, length-map}
use Rattle.std.proofs.Math.ListN.{get_or-map}
use Rattle.numbers.specs.Parts.{part_rest}
use Rattle.numbers.specs.TableLaws.{as_table, take_table}
use Rattle.cases.specs.Cases.{part_of, line_length, line_behind, digit_of, first_case, state_bytes}
use Rattle.cases.specs.declared.Case.{Case}
use Rattle.cases.specs.Lent.{lines_end, case_text, behind_case, cases_within, cases_of, line_at, state_of}

-- what is lent behind n bytes, as far as there are so many
pub rest_lent : (l : List ℕ) (n from : ℕ) → from ≡ min n (length l) → take (length l - from) (drop from l) ≡ drop n l
rest_lent l n from e = rw e (part_rest l (min n (length l)) ∙ drop_min n l)

-- ---- lines
pub none_passed : (input : List ℕ) (at : ℕ) → at ≡ lines_end input at 0
unfolding lines_end
none_passed input at = refl

pub line_more : (input : List ℕ) (at n : ℕ) → (line_behind input (lines_end input at n)).to ≡ lines_end input at (n + 1)
unfolding lines_end
line_more input at n = rw (add-one n)

-- i of n lines of the whole are passed: the other lines are left
pub record Passed (whole : List ℕ) (n i : ℕ) (lines : List ℕ) : Type 0 where
  pub same : line_at lines (n - i) ≡ line_at whole n
  pub within : length lines ≤ length whole

pub line_passed : {whole lines : List ℕ} {n i : ℕ} → Passed whole n i lines → i < n → (from length_is : ℕ) → length_is ≡ line_length lines → from ≡ min (length_is + 1) (length lines)
    → Passed whole n (i + 1) (take (length lines - from) (drop from lines))
unfolding line_at
line_passed {whole} {lines} {n} {i} p h from length_is e f =
    let more : n - i ≡ suc (n - (i + 1)) = omega arith in
    rw (rest_lent lines (length_is + 1) from f)
    (record { same = rw e (rw more at p.same); within = simp length-drop (omega (arith, p.within)) })

pub line_found : {whole lines : List ℕ} {n i : ℕ} → Passed whole n i lines → n ≤ i → (length_is : ℕ) → length_is ≡ line_length lines → take length_is lines ≡ line_at whole n
unfolding line_at
line_found {whole} {lines} {n} {i} p h length_is e = let none : n - i ≡ 0 = omega arith in rw e (rw none at p.same)

-- ---- cases
-- as many bytes as there are, or more, leave no case out
enough : (own n m : ℕ) (input : List ℕ) → length input ≤ n → length input ≤ m → cases_within own n input ≡ cases_within own m input
unfolding cases_within behind_case
enough own zero zero input h k = refl
enough own zero (suc m) [] h k = refl
enough own zero (suc m) (c ∷ input) h k = absurd (omega arith)
enough own (suc n) zero [] h k = refl
enough own (suc n) zero (c ∷ input) h k = absurd (omega arith)
enough own (suc n) (suc m) [] h k = refl
enough own (suc n) (suc m) (c ∷ input) h k =
    ap (λ cases. case_text own (c ∷ input) ∷ cases)
    (enough own n m (behind_case own (c ∷ input)) (simp length-drop (omega arith)) (simp length-drop (omega arith)))

pub no_case : (own : ℕ) (input : List ℕ) → length input ≡ 0 → cases_of own input ≡ []
unfolding cases_of cases_within
no_case own [] e = refl
no_case own (c ∷ input) e = absurd (omega arith)

pub case_more : (own : ℕ) (input : List ℕ) → 0 < length input → cases_of own input ≡ case_text own input ∷ cases_of own (behind_case own input)
unfolding cases_of cases_within behind_case
case_more own [] h = absurd (omega arith)
case_more own (c ∷ input) h =
    ap (λ cases. case_text own (c ∷ input) ∷ cases)
    (enough own (length input) _ (behind_case own (c ∷ input)) (simp length-drop (omega arith)) (omega arith))

-- the first case, and those that are left behind it
pub case_lent : (own : ℕ) (input : List ℕ) (case : Case) {name text lines : List ℕ} (end from : ℕ) → 0 < length input → case ≡ first_case input
    → end ≡ lines_end input case.text.to own → from ≡ min (end + 1) (length input)
    → name ≡ part_of input case.name → text ≡ part_of input case.text → lines ≡ part_of input (record { from = case.text.to + 1; to = end })
    → cases_of own input ≡ record { name = name; text = text; lines = lines } ∷ cases_of own (take (length input - from) (drop from input))
unfolding case_text behind_case
case_lent own input case end from some c e f n t l = rw (rest_lent input (end + 1) from f, n, t, l, e, c) (case_more own input some)

-- ---- a state
pub state_filled : (digits : List ℕ) (n : ℕ) → n ≡ min (length digits) 1024 → take n (state_bytes digits) ≡ state_of digits
unfolding state_bytes
state_filled digits n e =
    take_table (λ i. digit_of (get_or digits i 48)) 1024 n (omega arith)
    ∙ sym (as_table _ n (digit_of 48) (state_of digits) (simp (length-map, length-take) (omega arith))
    (λ i h. get_or-map digit_of (take 1024 digits) i 48 ∙ ap digit_of (get_or-take 1024 digits i 48 (omega arith))))
