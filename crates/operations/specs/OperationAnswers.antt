-- What `compute_switch_operations` answers, case by case: the first refusal decides, and without one the lines are written.
use Rattle.std.specs.Prelude.{◌≡◌, not, eqb, Result, Err, List, ℕ, ◌*◌, ◌≤◌, ◌<◌, length, count_by}
use Rattle.std.specs.List.{zip}
use Rattle.std.specs.Result.{IsErrAnd}
use Rattle.std.proofs.Common.{sym, ◌∙◌, arith}
use Rattle.std.proofs.Math.Path.{ap}
use Rattle.numbers.specs.Counts.{count, count_le}
use Rattle.network.specs.declared.error.Refusal.{Refusal}
use Rattle.network.specs.declared.topology.PowerNetwork.{PowerNetwork}
use Rattle.network.specs.Records.{Network, records_of}
use Rattle.network.specs.Answers.{accepted, refused, answer_of, ◌and_then◌, Judgement}
use Rattle.network.specs.AnswerLaws.{then_iff, handed_on}
use Rattle.feeders.specs.Supply.{check_network}
use Rattle.feeders.specs.SupplyLaws.{network_records}
use Rattle.states.specs.Live.{check_state}
use Rattle.slices.specs.Written.{written}
use Rattle.printing.specs.Lengths.{operation_length}
use Rattle.printing.specs.CallLaws.{call_refused, call_short, call_done}
use Rattle.states.specs.Switches.{State}
use Rattle.states.specs.Listed.{state_accepted, switches_listed, few_switches}
use Rattle.operations.specs.Operations.{operations, operations_text, operations_call}
use Rattle.operations.specs.OperationValues.{Stated, differs}
use Rattle.operations.specs.OperationLines.{length_text, differing, length_operations}

module _ (n : PowerNetwork) (from to : State) where
  abbrev N : Network
  N = records_of n

  abbrev tests : Judgement
  tests = check_network N and_then check_state N from 0 and_then check_state N to 1

  pub not_listed : (out : List ℕ) (w : Result ℕ Refusal) {v : Result (Unit {0}) Refusal} {r : Refusal} → IsErrAnd w (λ e. e ≡ r) → v ≡ Err r → answer_of v ≡ tests
      → record { answer = answer_of w; out = out } ≡ operations_call N from to out
  unfolding operations_call
  not_listed out w {r = r} h q e = rw (handed_on w r h) (call_refused (length (operations N from to)) (operations_text (operations N from to)) out (sym e ∙ ap answer_of q))

  module _ (passed : tests ≡ accepted tt) where
    pub stated : Stated n from to
    stated =
        let network = (then_iff (check_network N) _).0 passed in
        let states = (then_iff (check_state N from 0) (check_state N to 1)).0 network.1 in
        (((state_accepted N from 0).0 states.0).long ∙ switches_listed n, ((state_accepted N to 1).0 states.1).long ∙ switches_listed n, few_switches n (network_records N network.0))

    module _ (total : ℕ) (k : total ≡ count_by (λ (p : ℕ × ℕ). not (eqb p.0 p.1)) (zip from to)) where
      total_operations : total ≡ length (operations N from to)
      total_operations = k ∙ differing from to (stated.1 ∙ sym stated.0) ∙ ap (count (differs from to)) (stated.0 ∙ sym (switches_listed n)) ∙ sym (length_operations N from to)

      needed : length (operations_text (operations N from to)) ≡ operation_length * total
      needed = length_text (operations N from to) ∙ ap (λ (m : ℕ). operation_length * m) (sym total_operations)

      -- at most one for each switch
      pub few : total ≤ 512
      few = omega (arith, total_operations, length_operations N from to, count_le (differs from to) (length N.switches), switches_listed n, stated.2)

      pub lines_fit : (room : ℕ) → operation_length * total ≤ room → operation_length * length (operations N from to) ≤ room
      lines_fit room h = omega (arith, total_operations)

      pub no_room : (out : List ℕ) → length out < operation_length * total → record { answer = refused 13 0; out = out } ≡ operations_call N from to out
      unfolding operations_call
      no_room out h = call_short (length (operations N from to)) (operations_text (operations N from to)) out passed needed h

      pub all_listed : (out : List ℕ) → operation_length * total ≤ length out → {after : List ℕ} → after ≡ written (operations_text (operations N from to)) out
          → record { answer = accepted total; out = after } ≡ operations_call N from to out
      unfolding operations_call
      all_listed out h w = rw total_operations (call_done (length (operations N from to)) (operations_text (operations N from to)) out passed needed h w)
