-- The check of records one after the other, as a loop over their list goes: the first i passed, the others are left.
use Rattle.std.specs.Prelude.{◌≡◌, refl, List, [], ℕ, suc, ◌+◌, ◌≤◌, ◌<◌, length, get_or, take, drop}
use Rattle.std.proofs.Common.{sym, ◌∙◌, arith, add-zero, add-one, drop_of_length-le, drop-cons}
use Rattle.std.proofs.lemmas.List.{take_more}
use Rattle.network.specs.Answers.{accepted, refused, ◌and_then◌, Fault, judge, Judgement}
use Rattle.network.specs.Check.{check_run}

module _ {A : Type 0} (faults : List A → A → List Fault) (start : ℕ) (l : List A) where
  -- from record i on, where those before it passed
  abbrev check_from : ℕ → Judgement
  check_from i = check_run faults (take i l) (start + i) (drop i l)

  -- record i is judged, and then those behind it
  check_one : (d : A) (i : ℕ) → i < length l → check_from i ≡ (judge (faults (take i l) (get_or l i d)) (start + i) and_then check_from (i + 1))
  unfolding check_run
  check_one d i h =
      let after : start + (i + 1) ≡ suc (start + i) = omega arith in
      rw (take_more l i d h, after, add-one i, drop-cons l i d h) refl

  -- the first i records passed
  pub record Passed (i : ℕ) : Type 0 where
    rest : check_run faults [] start l ≡ check_run faults (take i l) (start + i) (drop i l)

  pub passed_none : Passed 0
  passed_none = record { rest = rw (add-zero start) refl }

  module _ {i : ℕ} (p : Passed i) where
    pub passed_all : length l ≤ i → accepted tt ≡ check_run faults [] start l
    unfolding check_run
    passed_all h = sym (p.rest ∙ rw (drop_of_length-le l {i = i} h) refl)

    module _ (d : A) (h : i < length l) where
      next : check_run faults [] start l ≡ (judge (faults (take i l) (get_or l i d)) (start + i) and_then check_run faults (take (i + 1) l) (start + (i + 1)) (drop (i + 1) l))
      next = p.rest ∙ check_one d i h

      -- the next one passes
      pub passed_more : {u : Unit {0}} → accepted u ≡ judge (faults (take i l) (get_or l i d)) (start + i) → Passed (i + 1)
      unfolding ◌and_then◌
      passed_more e = record { rest = next ∙ rw (← e) refl }

      -- or is refused: the first faulty record decides
      pub passed_refused : {n at : ℕ} → refused n at ≡ judge (faults (take i l) (get_or l i d)) (start + i) → refused n at ≡ check_run faults [] start l
      unfolding ◌and_then◌
      passed_refused e = sym (next ∙ rw (← e) refl)
