-- Answers taken apart: what an accepted answer says of its parts.
use Rattle.std.specs.Prelude.{◌≡◌, refl, ◌↔◌, Bool, true, false, not, List, [], ◌∷◌, ℕ, Result, Ok, Err}
use Rattle.std.proofs.Common.{sym, ap, subst, ◌∙◌, true≢false}
use Rattle.std.specs.Result.{IsErrAnd}
use Rattle.std.proofs.lemmas.Bool.{not-false}
use Rattle.std.proofs.lemmas.Result.{err_from_is_err_and}
use Rattle.network.specs.declared.error.Refusal.{Refusal}
use Rattle.network.specs.Answers.{Answer, accepted, refused, answer_of, number_of, place_of, ◌and_then◌, Fault, ◌if◌, judge, Judgement}

abbrev IsAccepted : {A : Type 0} → Answer A → Type 0
IsAccepted (accepted a) = Unit {0}
IsAccepted (refused n p) = ⊥

pub no_refusal : {A B : Type 0} {n p : ℕ} {a : A} → ◌≡◌ {A = Answer A} (refused n p) (accepted a) → B
no_refusal e = absurd (subst IsAccepted (sym e) tt)

-- no condition of the list is met
abbrev pub Passes : List Fault → Type 0
Passes [] = Unit {0}
Passes ((n if b) ∷ fs) = (b ≡ false) × Passes fs

pub judge_iff : (fs : List Fault) (p : ℕ) → (judge fs p ≡ accepted tt) ↔ Passes fs
unfolding judge
judge_iff [] p = (λ e. tt, λ e. refl)
judge_iff ((n if true) ∷ fs) p = (λ e. no_refusal e, λ h. absurd (true≢false h.0))
judge_iff ((n if false) ∷ fs) p = (λ e. (refl, (judge_iff fs p).0 e), λ h. (judge_iff fs p).1 h.1)

-- of one condition
pub judge_accepted : (n : ℕ) (b : Bool) (place : ℕ) → (judge ((n if not b) ∷ []) place ≡ accepted tt) ↔ (b ≡ true)
judge_accepted n b place = (λ e. not-false b ((judge_iff _ place).0 e).0, λ e. (judge_iff _ place).1 (ap not e, tt))

pub then_iff : (v w : Judgement) → ((v and_then w) ≡ accepted tt) ↔ ((v ≡ accepted tt) × (w ≡ accepted tt))
unfolding ◌and_then◌
then_iff (accepted u) w = (λ e. (refl, e), λ h. h.1)
then_iff (refused n p) w = (λ e. no_refusal e, λ h. no_refusal h.0)

pub then_assoc : {A : Type 0} (v w : Judgement) (a : Answer A) → (v and_then w and_then a) ≡ ((v and_then w) and_then a)
unfolding ◌and_then◌
then_assoc (accepted u) w a = refl
then_assoc (refused n p) w a = refl

pub then_nothing : (v : Judgement) → (v and_then accepted tt) ≡ v
unfolding ◌and_then◌
then_nothing (accepted u) = refl
then_nothing (refused n p) = refl

-- the value of an accepted answer
abbrev value_of : {A : Type 0} → A → Answer A → A
value_of d (accepted a) = a
value_of d (refused n p) = d

pub same_value : {A : Type 0} {a b : A} → ◌≡◌ {A = Answer A} (accepted a) (accepted b) → a ≡ b
same_value {a = a} e = ap (value_of a) e

-- ---- answers one behind the other: the first refusal decides
module _ {A : Type 0} {a : Judgement} (b : Answer A) where
  pub decides : {n p : ℕ} → a ≡ refused n p → refused n p ≡ (a and_then b)
  unfolding ◌and_then◌
  decides e = rw e

  pub gives_way : a ≡ accepted tt → b ≡ (a and_then b)
  unfolding ◌and_then◌
  gives_way e = rw e

-- ---- what the code answers in the place of an answer
pub accepted_so : {A : Type 0} {v : Result A Refusal} {a : Answer A} {x : A} → v ≡ Ok x → answer_of v ≡ a → a ≡ accepted x
accepted_so r e = sym e ∙ ap answer_of r

pub refused_so : {A : Type 0} {v : Result A Refusal} {a : Answer A} {r : Refusal} → v ≡ Err r → answer_of v ≡ a → a ≡ refused (number_of r) (place_of r)
refused_so q e = sym e ∙ ap answer_of q

-- in the place of the first answer: accepted, it gives way
pub accepted_then : {A : Type 0} {v : Result (Unit {0}) Refusal} {a : Judgement} (b : Answer A) {u : Unit {0}} → v ≡ Ok u → answer_of v ≡ a → b ≡ (a and_then b)
accepted_then b r e = gives_way b (accepted_so r e)

-- a refusal goes on, whatever the answer would have been
pub refused_first : {A : Type 0} {v : Result (Unit {0}) Refusal} {a : Judgement} (b : Answer A) {r : Refusal} → v ≡ Err r → answer_of v ≡ a → refused (number_of r) (place_of r) ≡ (a and_then b)
refused_first b q e = decides b (refused_so q e)

-- what a `?` returns: the refusal itself
pub handed_on : {A : Type 0} (w : Result A Refusal) (r : Refusal) → IsErrAnd w (λ e. e ≡ r) → answer_of w ≡ refused (number_of r) (place_of r)
handed_on w r h = let p = err_from_is_err_and w h in rw (p.1, p.2)

-- and where it stands in the place of the first answer
pub refused_on : {A : Type 0} (b : Answer A) (w : Result A Refusal) {v : Result (Unit {0}) Refusal} {a : Judgement} {r : Refusal}
    → IsErrAnd w (λ e. e ≡ r) → v ≡ Err r → answer_of v ≡ a → answer_of w ≡ (a and_then b)
refused_on b w h q e = handed_on w _ h ∙ refused_first b q e
