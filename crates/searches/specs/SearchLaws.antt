-- What the code of a search holds is what the definition says, case by case: it is refused, or it answers with what was found.
use Rattle.std.specs.Prelude.{◌≡◌, Result, Ok, Err, List, ℕ, ◌<◌, min, length, take}
use Rattle.std.proofs.Math.Path.{refl, ap}
use Rattle.std.proofs.Common.{sym, ◌∙◌, arith, take_all}
use Rattle.std.proofs.Math.Decide.{dec_lt}
use Rattle.network.specs.declared.error.Refusal.{Refusal}
use Rattle.network.specs.declared.topology.PowerNetwork.{PowerNetwork}
use Rattle.network.specs.Records.{Network, records_of}
use Rattle.network.specs.Answers.{accepted, refused, answer_of, number_of, place_of, ◌and_then◌, Judgement}
use Rattle.network.specs.AnswerLaws.{accepted_so, then_iff}
use Rattle.network.specs.Check.{check_records}
use Rattle.states.specs.Listed.{state_accepted, switches_listed, few_switches}
use Rattle.graph.specs.Form.{row_form}
use Rattle.printing.specs.Calls.{check_room, answered, called}
use Rattle.printing.specs.CallLaws.{call_accepted}
use Rattle.slices.specs.Written.{written}
use Rattle.feeders.specs.Feeder.{form_in}
use Rattle.feeders.specs.Supply.{check_network}
use Rattle.feeders.specs.SupplyLaws.{network_records}
use Rattle.feeders.specs.FeederRows.{live_flags}
use Rattle.feeders.specs.FeederRowLaws.{state_flags, flags_form}
use Rattle.searches.specs.declared.answer.Found.{Found}
use Rattle.searches.specs.declared.start.Start.{Start}
use Rattle.searches.specs.Results.{Best, SoundBest, result_by, solved_by}
use Rattle.searches.specs.SearchValues.{start_of, found_of, answer_with}
use Rattle.searches.specs.StartLaws.{start_base}
use Rattle.searches.specs.StateLaws.{state_held}
use Rattle.searches.specs.States.{state_of}

-- a call that is accepted has a network that has passed its test
pub search_checked : {v : Result (Unit {0}) Refusal} {u : Unit {0}} (N : Network) (room : Judgement) → v ≡ Ok u → answer_of v ≡ (check_network N and_then room) → check_network N ≡ accepted tt
search_checked N room r tested = ((then_iff (check_network N) room).0 (accepted_so r tested)).0

-- a configuration has bytes for 512 switches
front : (bytes : List ℕ) → length bytes ≡ 512 → (count : ℕ) → take (min count 512) bytes ≡ take count bytes
front bytes long count = go (dec_lt count 512)
  where
    go : Dec (count < 512) → take (min count 512) bytes ≡ take count bytes
    go (yes l) = let e : min count 512 ≡ count = omega arith in rw e refl
    go (no l) = take_all (min count 512) bytes (omega arith) ∙ sym (take_all count bytes (omega arith))

pub front_written : (bytes out : List ℕ) → length bytes ≡ 512 → {m n count : ℕ} → m ≡ min n 512 → n ≡ count
    → {after : List ℕ} → after ≡ written (take m bytes) out → after ≡ written (take count bytes) out
front_written bytes out long {count = count} e f w = rw (w, e, f, front bytes long count)

module _ (n : PowerNetwork) (search : Network → Best) (sound : (N : Network) → SoundBest N (search N)) (out : List ℕ) where
  abbrev N : Network
  N = records_of n

  long : length (search N).state ≡ n.switch_count
  long = (sound N).good.long ∙ switches_listed n

  module _ (v : Result (Unit {0}) Refusal) (tested : answer_of v ≡ (check_network N and_then check_room n.switch_count (length out))) where
    by_state : answer_of v ≡ (check_network N and_then check_room (length (search N).state) (length out))
    by_state = tested ∙ ap (λ m. check_network N and_then check_room m (length out)) (sym long)

    -- the call with its tests done
    as_tested : answered (answer_of v) (result_by search N) (search N).state out ≡ solved_by search N out
    unfolding solved_by called
    as_tested = ap (λ t. answered t (result_by search N) (search N).state out) by_state

    pub search_refused : {r : Refusal} → v ≡ Err r → record { answer = refused (number_of r) (place_of r); out = out } ≡ solved_by search N out
    search_refused r = ap (λ w. answered (answer_of w) (result_by search N) (search N).state out) (sym r) ∙ as_tested

    module _ {u : Unit {0}} (r : v ≡ Ok u) (sized : length n.buses ≡ 256) {start : Start} (s : start ≡ start_of n) {found : Found} (f : found ≡ found_of N (search N)) where
      passed : check_network N ≡ accepted tt
      passed = search_checked N _ r tested

      ok : check_records N ≡ accepted tt
      ok = network_records N passed

      held : state_of n found.configuration ≡ (search N).state
      unfolding found_of
      held = ap (λ x. state_of n x.configuration) f ∙ state_held n (search N).state long (few_switches n ok)

      judged : row_form start.graph (live_flags N found.configuration.switches) ≡ form_in N (search N).state
      unfolding start_of found_of
      judged =
          flags_form n sized ok (search N).state _ _ (ap (λ x. x.graph) s)
          (state_flags N (search N).state 0 ok ((state_accepted N (search N).state 0).1 (sound N).good) _ _ (ap (λ x. x.configuration) f) refl) _ refl

      pub search_answered : answer_with n start found out ≡ solved_by search N out
      unfolding answer_with solved_by
      search_answered =
          rw (held, judged, (start_base n sized passed s).1) (unfold found_of result_by in rw f refl)
          ∙ call_accepted (check_network N) (result_by search N) (search N).state out (sym by_state ∙ ap answer_of r)
