-- The first line of a text, by where it ends: what its characters are refused for, and that a line without a fault of its characters stands whole at the front.
use Rattle.std.specs.Prelude.{◌≡◌, Bool, ◌&&◌, ◌||◌, ◌⊎◌, ℕ, suc, ◌%◌, ◌≤◌, ◌<◌, eqb, take, drop, get_or}
use Rattle.std.proofs.Math.Path.{refl, sym}
use Rattle.std.proofs.Common.{ap, ◌∙◌, subst, inl, inr, arith, take-append-drop, length-drop, drop_of_length-le, take_all, drop-cons}
use Rattle.std.proofs.Math.Bool.{true, false, not, or-true, and-false}
use mathlib.Core.List.{List, [], ◌∷◌, ◌++◌}
use Rattle.std.proofs.Math.Decide.{ℕ_discrete}
use Rattle.std.proofs.Math.Dec.{ltb}
use Rattle.std.proofs.Math.ListN.{length}
use Rattle.std.proofs.Math.Seq.{length-take-le}
use borrow.Author.Tests.{lt-ltb, le-ltb, ltb-true, ltb-false, eq-eqb, ne_eqb, not-true, not-false}
use Rattle.numbers.specs.Every.{every}
use Rattle.numbers.specs.Tests.{both, neither}
use Rattle.network.specs.Answers.{accepted, refused, ◌and_then◌, ◌if◌, judge}
use Rattle.network.specs.AnswerLaws.{no_refusal}
use Rattle.lines.specs.Hex.{is_digit, number}
use Rattle.lines.specs.Lines.{Line, put, cut, line_faults, character_faults}
use Rattle.lines.specs.JudgeLaws.{judge_append, judge_passed}
use Rattle.lines.specs.CutLaws.{no_feed, cut_ended, cut_unended, joined, joined_cut}
use Rattle.lines.specs.FirstLine.{LineEnd, judge_first, wanted, judge_frame, judge_end}

-- ---- a line of over 36 characters
abbrev first_length : List Line → ℕ
first_length [] = 0
first_length (l ∷ ls) = length l.chars

put_longer : (c : ℕ) (ls : List Line) → first_length (put c ls) ≡ suc (first_length ls)
unfolding put
put_longer c [] = refl
put_longer c (l ∷ ls) = refl

cut_longer : (cs t : List ℕ) → every no_feed cs ≡ true → length cs ≤ first_length (cut (cs ++ t))
unfolding every cut
cut_longer [] t e = omega arith
cut_longer (c ∷ cs) t e =
    let h = both (no_feed c) (every no_feed cs) e in
    rw (not-true (eqb c 10) h.0, put_longer c (cut (cs ++ t))) (omega (arith, cut_longer cs t h.1))

first_long : (p : ℕ) (ls : List Line) → 36 < first_length ls → refused 2 p ≡ judge_first character_faults p ls
unfolding judge_first judge line_faults
first_long p [] h = absurd (omega arith)
first_long p (l ∷ ls) h = rw (lt-ltb 36 (length l.chars) h)

-- ---- an unended line
unended : (p : ℕ) (t : List ℕ) → 0 < length t → length t ≤ 36 → every no_feed t ≡ true → refused 1 p ≡ judge_first character_faults p (cut t)
unfolding judge_first judge line_faults
unended p [] k h e = absurd (omega arith)
unended p (c ∷ cs) k h e = rw (cut_unended c cs e, le-ltb 36 (length (c ∷ cs)) h)

module _ (t : List ℕ) (n : ℕ) (w : LineEnd t n) where
  module _ (p : ℕ) where
    pub long_refused : 36 < n → refused 2 p ≡ judge_first character_faults p (cut t)
    long_refused h =
        let front : n ≤ first_length (cut t) = subst (λ (x : List ℕ). n ≤ first_length (cut x)) (take-append-drop n t)
        (subst (λ (k : ℕ). k ≤ first_length (cut (take n t ++ drop n t))) (length-take-le n t w.within) (cut_longer (take n t) (drop n t) w.no_feed_lem)) in
        first_long p (cut t) (omega arith)

    pub unended_refused : n ≤ 36 → 0 < length t → n ≡ length t → refused 1 p ≡ judge_first character_faults p (cut t)
    unended_refused h k e =
        let all : every no_feed t ≡ true = subst (λ (x : List ℕ). every no_feed x ≡ true) (take_all n t (omega arith)) w.no_feed_lem in
        unended p t k (omega arith) all

  -- ---- an ended line
  module _ (few : n ≤ 36) (more : n ≡ length t → ⊥) where
    room : n < length t
    room = omega (arith, w.within, more)

    feed : get_or t n 0 ≡ 10
    feed = go w.ends
      where
        go : (36 < n) ⊎ (n ≡ length t) ⊎ (get_or t n 0 ≡ 10) → get_or t n 0 ≡ 10
        go (inl h) = absurd (omega arith)
        go (inr (inl e)) = absurd (more e)
        go (inr (inr e)) = e

    ended_line : cut t ≡ record { chars = take n t; ended = true } ∷ cut (drop (suc n) t)
    ended_line =
        let rest : drop n t ≡ 10 ∷ drop (suc n) t = drop-cons t n 0 room ∙ ap (λ (c : ℕ). c ∷ drop (suc n) t) feed in
        ap cut (sym (take-append-drop n t) ∙ ap (λ (x : List ℕ). take n t ++ x) rest) ∙ cut_ended (take n t) (drop (suc n) t) w.no_feed_lem

    module _ (p : ℕ) where
      ended_judged : judge_first character_faults p (cut t) ≡ judge ((1 if (eqb (n % 2) 1 || not (every is_digit (take n t)))) ∷ []) p
      unfolding judge_first judge line_faults
      ended_judged = rw (ended_line, length-take-le n t w.within, le-ltb 36 n few)

      pub odd_refused : n % 2 ≡ 1 → refused 1 p ≡ judge_first character_faults p (cut t)
      unfolding judge
      odd_refused e = sym (ended_judged ∙ rw (eq-eqb (n % 2) 1 e))

      pub other_refused : every is_digit (take n t) ≡ false → refused 1 p ≡ judge_first character_faults p (cut t)
      unfolding judge
      other_refused e = sym (ended_judged ∙ rw (e, or-true))

      pub digits_accepted : (n % 2 ≡ 1 → ⊥) → every is_digit (take n t) ≡ true → accepted tt ≡ judge_first character_faults p (cut t)
      unfolding judge
      digits_accepted o e = sym (ended_judged ∙ rw (ne_eqb (n % 2) 1 o, e))

  -- ---- no fault of its characters
  pub record Clear : Type 0 where
    pub few : n ≤ 36
    pub more : n ≡ length t → ⊥
    pub digits : every is_digit (take n t) ≡ true

  characters_clear : (p : ℕ) → 0 < length t → judge_first character_faults p (cut t) ≡ accepted tt → Clear
  unfolding judge
  characters_clear p k e = go (ltb 36 n) refl (ℕ_discrete n (length t))
    where
      go : (b : Bool) → ltb 36 n ≡ b → Dec (n ≡ length t) → Clear
      go true f d = no_refusal (long_refused p (ltb-true 36 n f) ∙ e)
      go false f (yes q) = no_refusal (unended_refused p (ltb-false 36 n f) k q ∙ e)
      go false f (no q) =
          let few = ltb-false 36 n f in
          let s = judge_passed 1 (eqb (n % 2) 1 || not (every is_digit (take n t))) [] p (sym (ended_judged few q p) ∙ e) in
          record { few = few; more = q; digits = not-false (every is_digit (take n t)) (neither (eqb (n % 2) 1) (not (every is_digit (take n t))) s.0).1 }

  -- ---- a frame of this kind and length
  module _ (p kind size : ℕ) where
    wanted_judged : Clear → judge_first (λ l. (2 if not (wanted kind size l)) ∷ []) p (cut t) ≡ judge ((2 if not (eqb n size && eqb (number (take 2 (take n t))) kind)) ∷ []) p
    unfolding judge_first
    wanted_judged c = rw (ended_line c.few c.more, length-take-le n t w.within)

    pub other_size : Clear → (n ≡ size → ⊥) → judge_first (λ l. (2 if not (wanted kind size l)) ∷ []) p (cut t) ≡ refused 2 p
    unfolding judge
    other_size c e = wanted_judged c ∙ rw (ne_eqb n size e)

    pub other_kind : Clear → (number (take 2 (take n t)) ≡ kind → ⊥) → judge_first (λ l. (2 if not (wanted kind size l)) ∷ []) p (cut t) ≡ refused 2 p
    unfolding judge
    other_kind c e = wanted_judged c ∙ rw (ne_eqb (number (take 2 (take n t))) kind e, and-false)

    pub as_wanted : Clear → n ≡ size → number (take 2 (take n t)) ≡ kind → judge_first (λ l. (2 if not (wanted kind size l)) ∷ []) p (cut t) ≡ accepted tt
    unfolding judge
    as_wanted c e f = wanted_judged c ∙ rw (eq-eqb n size e, eq-eqb (number (take 2 (take n t))) kind f)

-- ---- what is wanted comes after the characters
first_then : (b : Line → Bool) (p : ℕ) (ls : List Line)
    → judge_first (λ l. line_faults (b l) l) p ls ≡ (judge_first character_faults p ls and_then judge_first (λ l. (2 if not (b l)) ∷ []) p ls)
unfolding judge_first line_faults ◌and_then◌
first_then b p [] = refl
first_then b p (l ∷ ls) = judge_append (character_faults l) ((2 if not (b l)) ∷ []) p

pub frame_then : (kind size p : ℕ) (ls : List Line)
    → judge_frame kind size p ls ≡ (judge_first character_faults p ls and_then judge_first (λ l. (2 if not (wanted kind size l)) ∷ []) p ls)
unfolding judge_frame
frame_then kind size p ls = first_then (wanted kind size) p ls

-- a surplus line is 2 where its characters have no fault
pub end_then : (p : ℕ) (t : List ℕ) → 0 < length t → judge_end p (cut t) ≡ (judge_first character_faults p (cut t) and_then refused 2 p)
unfolding judge_first judge_end line_faults judge joined
end_then p t k = go (cut t) refl
  where
    go : (ls : List Line) → cut t ≡ ls → judge_end p ls ≡ (judge_first character_faults p ls and_then refused 2 p)
    go [] e = let z = ap length (sym (joined_cut t) ∙ ap joined e) in absurd (omega arith)
    go (l ∷ ls) e = judge_append (character_faults l) ((2 if true) ∷ []) p

-- ---- no line is left
pub frame_missing : (kind size p at : ℕ) (t : List ℕ) → length t ≤ at → refused 2 p ≡ judge_frame kind size p (cut (drop at t))
unfolding judge_frame judge_first cut
frame_missing kind size p at t h = rw (drop_of_length-le t {i = at} h)

pub end_missing : (p at : ℕ) (t : List ℕ) → length t ≤ at → accepted tt ≡ judge_end p (cut (drop at t))
unfolding judge_end cut
end_missing p at t h = rw (drop_of_length-le t {i = at} h)

-- ---- the line that begins at a position of the text, once its characters are accepted
pub clear_at : (text : List ℕ) (at n p : ℕ) (w : LineEnd (drop at text) n) → at < length text
    → accepted tt ≡ judge_first character_faults p (cut (drop at text)) → Clear (drop at text) n w
clear_at text at n p w h e =
    let l = length-drop at text in
    let some : 0 < length (drop at text) = omega arith in
    characters_clear (drop at text) n w p some (sym e)
