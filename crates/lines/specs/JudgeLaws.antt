-- Of a list of conditions the first that is met decides.
use Rattle.std.specs.Prelude.{◌≡◌, refl, Bool, true, false, not, ◌||◌, List, [], ◌∷◌, ◌++◌, ℕ, ◌%◌, eqb, length}
use Rattle.std.proofs.lemmas.Bool.{not-false}
use Rattle.numbers.specs.Every.{every}
use Rattle.numbers.specs.Tests.{neither}
use Rattle.network.specs.Answers.{accepted, ◌and_then◌, Fault, ◌if◌, judge}
use Rattle.network.specs.AnswerLaws.{no_refusal}
use Rattle.lines.specs.Hex.{is_digit}
use Rattle.lines.specs.Lines.{Line, line_faults}

pub judge_past : (n : ℕ) (b : Bool) (fs : List Fault) (p : ℕ) → b ≡ false → judge ((n if b) ∷ fs) p ≡ judge fs p
unfolding judge
judge_past n b fs p e = rw e

pub judge_passed : (n : ℕ) (b : Bool) (fs : List Fault) (p : ℕ) → judge ((n if b) ∷ fs) p ≡ accepted tt → (b ≡ false) × (judge fs p ≡ accepted tt)
unfolding judge
judge_passed n true fs p e = no_refusal e
judge_passed n false fs p e = (refl, e)

pub judge_append : (fs gs : List Fault) (p : ℕ) → judge (fs ++ gs) p ≡ (judge fs p and_then judge gs p)
unfolding judge ◌and_then◌
judge_append [] gs p = refl
judge_append ((n if true) ∷ fs) gs p = refl
judge_append ((n if false) ∷ fs) gs p = judge_append fs gs p

-- what rows 1 and 2 leave of a line, and the conditions behind them
pub line_passed : (b : Bool) (l : Line) (fs : List Fault) (p : ℕ) → judge (line_faults b l ++ fs) p ≡ accepted tt
    → (l.ended ≡ true) × (every is_digit l.chars ≡ true) × (b ≡ true) × (judge fs p ≡ accepted tt)
unfolding line_faults
line_passed b l fs p e =
    let short = judge_passed 2 _ _ p e in
    let row1 = judge_passed 1 _ _ p short.1 in
    let row2 = judge_passed 2 _ _ p row1.1 in
    let digits = neither (not l.ended || eqb (length l.chars % 2) 1) (not (every is_digit l.chars)) row1.0 in
    let ended = neither (not l.ended) (eqb (length l.chars % 2) 1) digits.0 in
    (not-false _ ended.0, not-false _ digits.1, not-false _ row2.0, row2.1)
