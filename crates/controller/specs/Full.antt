-- Demand 1's first sentence for the calls that take a text or records in bytes: a text of records inside the limits, with no branch from a bus to itself and a supply, where one is named, as document 02 wants it, with states of one byte 00 or 01 for each switch and room in the lent
-- slice, or in both, is answered in full. The calls on records, and `answer_text`, are in `answers.specs.Full`.
use Rattle.std.specs.Prelude.{◌≡◌, List, ◌++◌, ℕ, ◌-◌, ◌*◌, ◌≤◌, drop}
use Rattle.std.proofs.Math.Path.{refl}
use Rattle.std.proofs.Common.{◌∙◌}
use Rattle.std.specs.Float.{binary64}
use Rattle.std.specs.Float.Ieee.{to_bits}
use Rattle.std.proofs.Math.ListN.{length}
use Rattle.network.specs.Answers.{accepted}
use Rattle.network.specs.Inside.{Inside, Proper}
use Rattle.network.specs.Records.{Network}
use Rattle.states.specs.Live.{base_state}
use Rattle.states.specs.Switches.{State, GoodState, size}
use Rattle.frames.specs.Acceptable.{text_of, Writable, Acceptable}
use Rattle.frames.specs.Proof.{claim}
use Rattle.frames.specs.Text.{read_text}
use Rattle.printing.specs.CallLaws.{in_full}
use Rattle.printing.specs.Lengths.{operation_length}
use Rattle.printing.specs.Printed.{truth_byte}
use Rattle.graph.specs.Graph.{Tree}
use Rattle.graph.specs.Form.{form_number}
use Rattle.feeders.specs.Feeder.{feeder, LiveIn, form_in, radial_in}
use Rattle.feeders.specs.Supplied.{Supplied}
use Rattle.losses.specs.Loss.{loss_in}
use Rattle.losses.specs.SupplySide.{Fed}
use Rattle.plan.specs.Plan.{plan, plan_text}
use Rattle.plan.specs.Plannable.{Free}
use Rattle.resumption.specs.Resume.{moves_of_plan, full_answer}
use Rattle.states.specs.BaseLaws.{base_good}
use Rattle.reconfiguration.specs.Solve.{best, result}
use Rattle.operations.specs.Operations.{operations, operations_text}
use Rattle.answers.specs.Full.{form_in_full, radiality_in_full, loss_in_full, solved_in_full, operations_in_full, planned_in_full, resumed_in_full}
use Rattle.texts.specs.Proof as writer
use Rattle.record_bytes.specs.RecordBytes.{written_records, bytes_of_records}
use Rattle.record_bytes.specs.RecordBytesLaws.{records_alike}
use Rattle.controller.specs.Calls.{on_records, text_radiality, text_form, text_loss, on_text, text_plan, text_operations, text_solved, base_call, text_base, on_text_in_two, text_resume}

module _ (t : List ℕ) (N : Network) (a : Acceptable t N) where
  has_records : read_text t ≡ accepted N
  has_records = (claim.accepted_texts t N).1 a

  -- `feeder_radiality`, of any state
  pub text_radiality_in_full : (s : State) → GoodState N s → text_radiality t s ≡ accepted (truth_byte (radial_in N s))
  unfolding text_radiality on_records
  text_radiality_in_full s good = rw (has_records, radiality_in_full N a.inside a.proper a.supplied s good)

  -- `feeder_form`, of any state
  pub text_form_in_full : (s : State) → GoodState N s → text_form t s ≡ accepted (form_number (form_in N s))
  unfolding text_form on_records
  text_form_in_full s good = rw (has_records, form_in_full N a.inside a.proper a.supplied s good)

  -- `feeder_loss`, of any state, radial or not; where the text names a supply, of any radial one
  pub text_loss_in_full : (s : State) → GoodState N s → Fed N s → text_loss t s ≡ accepted (to_bits binary64 (loss_in N s))
  unfolding text_loss on_records
  text_loss_in_full s good fed = rw (has_records, loss_in_full N a.inside a.proper a.supplied s good fed)

  -- `feeder_plan`, between radial states whose switches that must move are operable: a line for each pair
  pub text_plan_in_full : (present wanted : State) → GoodState N present → GoodState N wanted → Tree (feeder N) (LiveIn N present) → Tree (feeder N) (LiveIn N wanted)
      → Free N present wanted → (out : List ℕ)
      → let moves = plan N present wanted in
      length (plan_text moves) ≤ length out
      → text_plan t present wanted out ≡ record { answer = accepted (length moves); out = plan_text moves ++ drop (length (plan_text moves)) out }
  unfolding text_plan on_text
  text_plan_in_full present wanted p w r v free out room = rw has_records (planned_in_full N a.inside a.proper a.supplied present wanted p w r v free out room)

  -- `feeder_resume`, between such states with no more moves done than the plan has: a line for each move that remains, and one for each that goes back
  pub text_resume_in_full : (present wanted : State) → GoodState N present → GoodState N wanted → Tree (feeder N) (LiveIn N present) → Tree (feeder N) (LiveIn N wanted)
      → Free N present wanted → (count : ℕ) (remaining back : List ℕ)
      → let moves = moves_of_plan N present wanted in
      count ≤ length moves → operation_length * (length moves - count) ≤ length remaining → operation_length * count ≤ length back
      → text_resume t present wanted count remaining back ≡ full_answer N present wanted count remaining back
  unfolding text_resume on_text_in_two
  text_resume_in_full present wanted p w r v free count remaining back few room also =
      rw has_records (resumed_in_full N a.inside a.proper a.supplied present wanted p w r v free count remaining back few room also)

  -- `feeder_operations`, between any two states: `operation_length` bytes for each operation
  pub text_operations_in_full : (from to : State) → GoodState N from → GoodState N to → (out : List ℕ)
      → let l = operations N from to in
      operation_length * length l ≤ length out → text_operations t from to out ≡ record { answer = accepted (length l); out = operations_text l ++ drop (operation_length * length l) out }
  unfolding text_operations on_text
  text_operations_in_full from to f g out room = rw has_records (operations_in_full N a.inside a.proper a.supplied from to f g out room)

  -- `feeder_solve`: a byte for each switch
  pub text_solved_in_full : (out : List ℕ) → size N ≤ length out → text_solved t out ≡ record { answer = accepted (result N); out = (best N).state ++ drop (size N) out }
  unfolding text_solved on_text
  text_solved_in_full out room = rw has_records (solved_in_full N a.inside a.proper a.supplied out room)

  -- `feeder_base_state`: a byte for each switch
  pub text_base_in_full : (out : List ℕ) → size N ≤ length out → text_base t out ≡ record { answer = accepted (size N); out = base_state N ++ drop (size N) out }
  unfolding text_base on_text base_call
  text_base_in_full out room =
      let long : length (base_state N) ≡ size N = (base_good N).long in
      rw has_records (in_full (size N) (base_state N) out refl (rw long room) ∙ rw long)

-- `feeder_write_text`, of records inside the limits in bytes, with no branch from a bus to itself and a supply as document 02 wants it: their text
pub records_in_full : (N : Network) → Inside N → Proper N → Supplied N → Writable N → (out : List ℕ) → length (text_of N) ≤ length out
    → written_records (bytes_of_records N) out ≡ record { answer = accepted (length (text_of N)); out = text_of N ++ drop (length (text_of N)) out }
records_in_full N inside proper supplied room out long = records_alike N room out ∙ (writer.claim).written_in_full N out inside proper supplied long
