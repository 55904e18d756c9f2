-- What the calls on texts answer: the text's refusal, then the call's own on the records of the text, as numbers that C and Rust take.
use Rattle.std.specs.Prelude.{List, ℕ}
use Rattle.std.specs.Float.{binary64}
use Rattle.std.specs.Float.Ieee.{to_bits}
use Rattle.numbers.specs.Constants.{zero64}
use Rattle.network.specs.Answers.{Answer, accepted, refused, valued}
use Rattle.states.specs.Live.{base_state}
use Rattle.states.specs.Switches.{size}
use Rattle.network.specs.Records.{Network}
use Rattle.printing.specs.Calls.{Call, called, TwoSlices}
use Rattle.printing.specs.Printed.{truth_byte}
use Rattle.graph.specs.declared.form.Form.{Form}
use Rattle.graph.specs.Form.{is_tree, form_number}
use Rattle.frames.specs.Text.{read_text}
use Rattle.feeders.specs.Feeder.{form_in, radial_in}
use Rattle.feeders.specs.StateCalls.{on_state}
use Rattle.losses.specs.LossCall.{loss_call}
use Rattle.plan.specs.Plan.{planned}
use Rattle.resumption.specs.Resume.{resumed}
use Rattle.searches.specs.Results.{Result}
use Rattle.reconfiguration.specs.Solve.{solved}
use Rattle.operations.specs.Operations.{operations_call}
use Rattle.controller.specs.declared.answer.CallAnswer.{CallAnswer}
use Rattle.controller.specs.declared.answer.SolvedAnswer.{SolvedAnswer}

-- 1 for a tree, 0 for anything else
abbrev pub radial_byte : Form → ℕ
radial_byte f = truth_byte (is_tree f)

-- number 0, place 0 and the value, or document 01's number and place and the value 0
abbrev pub numbers_of : Answer ℕ → CallAnswer
numbers_of (accepted value) = record { number = 0; place = 0; value = value }
numbers_of (refused number place) = record { number = number; place = place; value = 0 }

-- the same of a search's answer, whose values are the 81 line's: "radial byte of the best state, base loss, best loss, reduction percent, iterations (u16), converged"; beside a
-- refusal each is 0
abbrev pub solved_numbers : Answer Result → SolvedAnswer
solved_numbers (accepted r) =
    record {
      number = 0;
      place = 0;
      radial = radial_byte r.form;
      converged = truth_byte r.converged;
      iterations = r.iterations;
      base_loss = r.base_loss;
      best_loss = r.best_loss;
      reduction = r.reduction;
    }
solved_numbers (refused number place) =
    record {
      number = number;
      place = place;
      radial = 0;
      converged = 0;
      iterations = 0;
      base_loss = zero64;
      best_loss = zero64;
      reduction = zero64;
    }

-- "Calls test the network": for a text that is its reading, and then comes what the call answers on its records, whose own check they have passed
-- (`frames.specs.Proof.passed`)
unfoldable pub on_records : {A : Type 0} → Answer Network → (Network → Answer A) → Answer A
on_records (accepted N) call = call N
on_records (refused number place) call = refused number place

-- 1 where the state is radial, else 0, after refusal 10
unfoldable pub text_radiality : List ℕ → List ℕ → Answer ℕ
text_radiality text state = valued truth_byte (on_records (read_text text) (λ N. on_state N state (radial_in N state)))

-- what the live branches of the state are, the fields of the frame 84 as one number: "islands u16, then branch u16 or FFFF"; after refusal 10
unfoldable pub text_form : List ℕ → List ℕ → Answer ℕ
text_form text state = valued form_number (on_records (read_text text) (λ N. on_state N state (form_in N state)))

-- the bits of the loss in MW, after refusal 10 and, where the text names a supply, 11
unfoldable pub text_loss : List ℕ → List ℕ → Answer ℕ
text_loss text state = valued (to_bits binary64) (on_records (read_text text) (λ N. loss_call N state))

-- ---- a call that writes: what it answers, and what the lent slice holds then
pub record CallWritten (A : Type 0) : Type 0 where
  pub answer : A
  pub out : List ℕ

-- what such a call answers, in numbers, beside the slice
abbrev pub written_as : {A B : Type 0} → (Answer A → B) → Call A → CallWritten B
written_as inNumbers p = record { answer = inNumbers p.answer; out = p.out }

abbrev pub written_numbers : Call ℕ → CallWritten CallAnswer
written_numbers p = written_as numbers_of p

abbrev pub written_solved : Call Result → CallWritten SolvedAnswer
written_solved p = written_as solved_numbers p

-- a call on a text: its reading, then what the call answers on the records; "A refusal .. writes no lent byte"
unfoldable pub on_text : {A : Type 0} → Answer Network → (Network → List ℕ → Call A) → List ℕ → Call A
on_text (accepted N) call out = call N out
on_text (refused number place) call out = record { answer = refused number place; out = out }

-- how many pairs, after refusals 10 to 13, and an 86 line for each
unfoldable pub text_plan : List ℕ → List ℕ → List ℕ → List ℕ → Call ℕ
text_plan text present wanted out = on_text (read_text text) (λ N. planned N present wanted) out

-- how many operations, after refusals 10 and 13, and an 82 line for each
unfoldable pub text_operations : List ℕ → List ℕ → List ℕ → List ℕ → Call ℕ
text_operations text from to out = on_text (read_text text) (λ N. operations_call N from to) out

-- what the search that the head asks for answers, after refusal 13, and the best state's bytes
unfoldable pub text_solved : List ℕ → List ℕ → Call Result
text_solved text out = on_text (read_text text) solved out

-- how many switches, after refusal 13, and the base's byte for each: "The base opens exactly the normally open switches"
unfoldable pub base_call : Network → List ℕ → Call ℕ
base_call N out = called (accepted tt) (size N) (base_state N) out

unfoldable pub text_base : List ℕ → List ℕ → Call ℕ
text_base text out = on_text (read_text text) base_call out

-- ---- a call that writes into two slices: what it answers, and what each of them holds then
pub record CallWrittenInTwo (A : Type 0) : Type 0 where
  pub answer : A
  pub first : List ℕ
  pub second : List ℕ

abbrev pub written_numbers_in_two : TwoSlices ℕ → CallWrittenInTwo CallAnswer
written_numbers_in_two p = record { answer = numbers_of p.answer; first = p.first; second = p.second }

-- on a text: a refusal of its reading writes no byte of either
unfoldable pub on_text_in_two : {A : Type 0} → Answer Network → (Network → List ℕ → List ℕ → TwoSlices A) → List ℕ → List ℕ → TwoSlices A
on_text_in_two (accepted N) call first second = call N first second
on_text_in_two (refused number place) call first second = record { answer = refused number place; first = first; second = second }

-- how many moves remain, after refusals 10 to 12, 16 and 13, and an 82 line for each; and an 82 line for each that goes back
unfoldable pub text_resume : List ℕ → List ℕ → List ℕ → ℕ → List ℕ → List ℕ → TwoSlices ℕ
text_resume text present wanted count remaining back = on_text_in_two (read_text text) (λ N. resumed N present wanted count) remaining back
