-- The calls on records give those on texts: what the reader and a call answered, put together.
use Rattle.std.specs.Prelude.{◌≡◌, refl, not, List, ℕ, T, Float, Result, Ok, Err, MatchResult}
use Rattle.std.proofs.Common.{sym, ap, subst, ◌∙◌}
use Rattle.std.specs.Float.Ieee.{is_nan}
use Rattle.network.specs.declared.error.Refusal.{Refusal}
use Rattle.network.specs.Answers.{Answer, accepted, refused, answer_of, valued, number_of, place_of, ◌and_then◌, Judgement}
use Rattle.network.specs.Records.{Network}
use Rattle.printing.specs.Calls.{Call, TwoSlices}
use Rattle.printing.specs.Printed.{truth_byte}
use Rattle.graph.specs.declared.form.Form.{Form}
use Rattle.graph.specs.Form.{is_tree}
use Rattle.states.specs.Live.{check_state}
use Rattle.frames.specs.Text.{read_text}
use Rattle.feeders.specs.Feeder.{form_in, radial_in}
use Rattle.feeders.specs.StateCalls.{on_state}
use Rattle.feeders.specs.Supply.{check_network}
use Rattle.feeders.specs.SupplyLaws.{network_records}
use Rattle.losses.specs.Accepted.{loss_finite}
use Rattle.losses.specs.LossCall.{loss_call}
use Rattle.searches.specs.declared.answer.ReconfigResult.{ReconfigResult}
use Rattle.searches.specs.Results.{result_of}
use Rattle.controller.specs.declared.answer.CallAnswer.{CallAnswer}
use Rattle.controller.specs.declared.answer.SolvedAnswer.{SolvedAnswer}
use Rattle.controller.specs.Calls.{radial_byte, numbers_of, solved_numbers, on_records, on_text, on_text_in_two, written_as, written_numbers_in_two}

-- ---- a loss has bits
abbrev pub NoNan : Answer Float → Type 0
NoNan (accepted x) = T (not (is_nan x))
NoNan (refused n p) = Unit {0}

no_nan_behind : (c : Judgement) (a : Answer Float) → (c ≡ accepted tt → NoNan a) → NoNan (c and_then a)
unfolding ◌and_then◌
no_nan_behind (accepted u) a h = h refl
no_nan_behind (refused n p) a h = tt

pub loss_no_nan : (N : Network) (s : List ℕ) (x : Answer Float) → x ≡ loss_call N s → NoNan x
unfolding loss_call
loss_no_nan N s x e = subst NoNan (sym e) (no_nan_behind _ _ λ ok. no_nan_behind _ _ λ _. no_nan_behind _ _ λ _. (loss_finite N (network_records N ok) s).2)

-- ---- radial is a reading of the form
behind_both : (c d : Judgement) (f : Form) → valued radial_byte (c and_then d and_then accepted f) ≡ valued truth_byte (c and_then d and_then accepted (is_tree f))
unfolding ◌and_then◌
behind_both (accepted t) (accepted u) f = refl
behind_both (accepted t) (refused n p) f = refl
behind_both (refused n p) d f = refl

pub radial_or_not : (a : Answer Network) (s : List ℕ)
    → valued radial_byte (on_records a (λ N. on_state N s (form_in N s))) ≡ valued truth_byte (on_records a (λ N. on_state N s (radial_in N s)))
unfolding on_records radial_in
radial_or_not (accepted N) s = behind_both (check_network N) (check_state N s 0) (form_in N s)
radial_or_not (refused n p) s = refl

-- ---- a call on a text: the text is refused, or its records are answered
module _ {A : Type 0} (t : List ℕ) (call : Network → Answer A) where
  pub reading_refused : {n p : ℕ} → read_text t ≡ refused n p → refused n p ≡ on_records (read_text t) call
  unfolding on_records
  reading_refused so = rw so

  pub reading_answered : {N : Network} → read_text t ≡ accepted N → {x : Answer A} → x ≡ call N → x ≡ on_records (read_text t) call
  unfolding on_records
  reading_answered so h = rw so h

-- ---- the same, with a slice
module _ {A : Type 0} (t : List ℕ) (call : Network → List ℕ → Call A) (out : List ℕ) where
  pub text_untouched : {n p : ℕ} → read_text t ≡ refused n p → record { answer = refused n p; out = out } ≡ on_text (read_text t) call out
  unfolding on_text
  text_untouched so = rw so

  pub text_called : {N : Network} → read_text t ≡ accepted N → {p : Call A} → p ≡ call N out → p ≡ on_text (read_text t) call out
  unfolding on_text
  text_called so h = rw so h

-- ---- the numbers of what a call answered
pub call_numbers : (a : Result ℕ Refusal) {b : CallAnswer} → MatchResult a (λ v. b ≡ numbers_of (accepted v)) (λ r. b ≡ numbers_of (refused (number_of r) (place_of r))) → b ≡ numbers_of (answer_of a)
call_numbers (Ok v) h = h
call_numbers (Err r) h = h

pub search_numbers : (a : Result ReconfigResult Refusal) {b : SolvedAnswer}
    → MatchResult a (λ v. b ≡ solved_numbers (accepted (result_of v))) (λ r. b ≡ solved_numbers (refused (number_of r) (place_of r))) → b ≡ solved_numbers (valued result_of (answer_of a))
search_numbers (Ok v) h = h
search_numbers (Err r) h = h

-- beside what the slice holds what the slice holds
pub numbers_beside : {A B : Type 0} (inNumbers : Answer A → B) {b : B} {x : Answer A} {held : List ℕ} {p : Call A} → b ≡ inNumbers x → record { answer = x; out = held } ≡ p
    → record { answer = b; out = held } ≡ written_as inNumbers p
numbers_beside inNumbers {held = held} q h = ap (λ y. record { answer = y; out = held }) q ∙ ap (written_as inNumbers) h

-- ---- the same, with two slices
module _ {A : Type 0} (t : List ℕ) (call : Network → List ℕ → List ℕ → TwoSlices A) (first second : List ℕ) where
  pub text_untouched_in_two : {n p : ℕ} → read_text t ≡ refused n p
      → record { answer = refused n p; first = first; second = second } ≡ on_text_in_two (read_text t) call first second
  unfolding on_text_in_two
  text_untouched_in_two so = rw so

  pub text_called_in_two : {N : Network} → read_text t ≡ accepted N → {p : TwoSlices A} → p ≡ call N first second → p ≡ on_text_in_two (read_text t) call first second
  unfolding on_text_in_two
  text_called_in_two so h = rw so h

pub numbers_beside_both : {b : CallAnswer} {x : Answer ℕ} {first second : List ℕ} {p : TwoSlices ℕ} → b ≡ numbers_of x → record { answer = x; first = first; second = second } ≡ p
    → record { answer = b; first = first; second = second } ≡ written_numbers_in_two p
numbers_beside_both {first = first} {second = second} q h = ap (λ y. record { answer = y; first = first; second = second }) q ∙ ap written_numbers_in_two h
