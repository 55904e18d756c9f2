-- The rounds by the calls on records.
use Rattle.std.specs.Prelude.{◌≡◌, ℕ, zero, suc, ◌+◌, ◌%◌, ◌^◌, Bool, true, false, cond, not, T, List, length, replicate, ◌==◌, ◌≢◌, is_nan, to_bits, refl, Float}
use Rattle.std.proofs.Common.{sym, subst, ◌∙◌}
use Rattle.std.proofs.Math.Path.{ap}
use Rattle.std.specs.Float.{binary64}
use borrow.Author.Tests.{eq-eqb, ne_eqb}
use Rattle.numbers.specs.UpTo.{up_to, up_to_more}
use Rattle.states.specs.Listed.{buses_listed, branches_listed, switches_listed}
use Rattle.network.specs.Answers.{Answer, accepted, refused, valued, ◌and_then◌, Judgement}
use Rattle.network.specs.AnswerLaws.{then_iff}
use Rattle.network.specs.Records.{Network, records_of}
use Rattle.network.specs.declared.topology.PowerNetwork.{PowerNetwork}
use Rattle.printing.specs.Lengths.{plan_length}
use Rattle.graph.specs.Form.{form_number}
use Rattle.frames.specs.Text.{read_text}
use Rattle.feeders.specs.Feeder.{form_in}
use Rattle.feeders.specs.StateCalls.{on_state}
use Rattle.feeders.specs.Supply.{check_network}
use Rattle.feeders.specs.SupplyLaws.{network_records}
use Rattle.losses.specs.Accepted.{loss_finite}
use Rattle.losses.specs.Loss.{loss_in}
use Rattle.losses.specs.LossCall.{loss_call}
use Rattle.printing.specs.Calls.{check_room, Call, answered, called}
use Rattle.plan.specs.Plan.{planned}
use Rattle.searches.specs.Results.{Result, result_by, solved_by}
use Rattle.reconfiguration.specs.Solve.{best, result, solved}
use Rattle.controller.specs.Calls.{on_records, text_form, text_loss, on_text, text_plan}
use Rattle.controller.specs.CallLaws.{NoNan, reading_refused, text_untouched}
use Rattle.timing.specs.Rounds.{value_of, record_count, search_value, text_search, asked, total}

-- ---- how many records a text has
pub count_refused : (t : List ℕ) (n p : ℕ) → read_text t ≡ refused n p → 0 ≡ value_of (on_records (read_text t) (λ N. accepted (record_count N)))
unfolding on_records
count_refused t n p e = ap (λ x. value_of (on_records x (λ N. accepted (record_count N)))) (sym e)

pub count_accepted : (t : List ℕ) (n : PowerNetwork) → read_text t ≡ accepted (records_of n)
    → n.bus_count + n.branch_count + n.switch_count ≡ value_of (on_records (read_text t) (λ N. accepted (record_count N)))
unfolding on_records record_count
count_accepted t n e =
    sym (rw (buses_listed n, branches_listed n, switches_listed n))
    ∙ ap (λ x. value_of (on_records x (λ N. accepted (record_count N)))) (sym e)

-- ---- the calls by their kind
module _ (kind : ℕ) (t a b : List ℕ) where
  pub asked_reading : kind ≡ 0 → on_records (read_text t) (λ N. accepted (record_count N)) ≡ asked kind t a b
  unfolding asked
  asked_reading e = ap (λ k. asked k t a b) (sym e)

  pub asked_nothing : (kind ≢ 0) → (kind ≢ 1) → (kind ≢ 2) → (kind ≢ 3) → accepted 0 ≡ asked kind t a b
  unfolding asked
  asked_nothing n₀ n₁ n₂ n₃ = rw (ne_eqb kind 0 n₀, ne_eqb kind 1 n₁, ne_eqb kind 2 n₂, ne_eqb kind 3 n₃)

  module _ (N : Network) where
    pub asked_radiality : kind ≡ 1 → read_text t ≡ accepted N
        → valued form_number (on_state N a (form_in N a)) ≡ asked kind t a b
    unfolding asked text_form on_records
    asked_radiality e so = rw (e, so)

    pub asked_loss : kind ≡ 2 → read_text t ≡ accepted N
        → valued (to_bits binary64) (loss_call N a) ≡ asked kind t a b
    unfolding asked text_loss on_records
    asked_loss e so = rw (e, so)

    pub asked_pairs : kind ≡ 3 → read_text t ≡ accepted N → (planned N a b (replicate plan_length 0)).answer ≡ asked kind t a b
    unfolding asked text_plan on_text
    asked_pairs e so = rw (e, so)

-- ---- a best loss has bits
abbrev pub loss_of : Answer Result → Answer Float
loss_of (accepted r) = accepted r.best_loss
loss_of (refused n p) = refused n p

bits_if_accepted : (c : Judgement) (r : Result) (bytes out : List ℕ) → (c ≡ accepted tt → T (not (is_nan r.best_loss))) → NoNan (loss_of (answered c r bytes out).answer)
bits_if_accepted (accepted u) r bytes out h = h refl
bits_if_accepted (refused n p) r bytes out h = tt

pub search_no_nan : (N : Network) (out : List ℕ) (x : Answer Result) → x ≡ (solved N out).answer → NoNan (loss_of x)
unfolding solved solved_by called result result_by
search_no_nan N out x e =
    let room = check_room (length (best N).state) (length out) in
    let bits : check_network N ≡ accepted tt → T (not (is_nan (loss_in N (best N).state))) = λ ok. (loss_finite N (network_records N ok) (best N).state).2 in
    subst (λ y. NoNan (loss_of y)) (sym e)
    (bits_if_accepted (check_network N and_then room) (result N) (best N).state out (λ ok. bits ((then_iff (check_network N) room).0 ok).0))

-- ---- the rounds
pub in_even : (i : ℕ) (x y : List ℕ) → i % 2 ≡ 0 → x ≡ cond (i % 2 == 0) x y
in_even i x y e = rw (eq-eqb (i % 2) 0 e)

pub in_odd : (i : ℕ) (x y : List ℕ) → (i % 2 ≢ 0) → y ≡ cond (i % 2 == 0) x y
in_odd i x y n = rw (ne_eqb (i % 2) 0 n)

pub states_in_turn : (kind : ℕ) (t a b : List ℕ) (i : ℕ) (first second : List ℕ) → first ≡ cond (i % 2 == 0) a b → second ≡ cond (i % 2 == 0) b a
    → value_of (asked kind t first second) ≡ cond (i % 2 == 0) (value_of (asked kind t a b)) (value_of (asked kind t b a))
states_in_turn kind t a b i first second p q = rw (p, q) (go (i % 2 == 0))
  where
    go : (c : Bool) → value_of (asked kind t (cond c a b) (cond c b a)) ≡ cond c (value_of (asked kind t a b)) (value_of (asked kind t b a))
    go true = refl
    go false = refl

pub total_none : (even odd : ℕ) → 0 ≡ total even odd 0
unfolding total up_to
total_none even odd = refl

pub total_more : (even odd i sum value sum' i' : ℕ) → sum ≡ total even odd i → value ≡ cond (i % 2 == 0) even odd → sum' ≡ (sum + value) % 2 ^ 64 → i' ≡ i + 1
    → sum' ≡ total even odd i'
unfolding total
total_more even odd i sum value sum' i' h v s e = rw (e, s, h, v) (sym (up_to_more _ 0 i))

-- ---- a refused text: every round counts for nothing
either_nothing : (b : Bool) (u v : Answer ℕ) → value_of u ≡ 0 → value_of v ≡ 0 → value_of (cond b u v) ≡ 0
either_nothing true u v hu hv = hu
either_nothing false u v hu hv = hv

value_refused : (kind : ℕ) (t a b : List ℕ) (n p : ℕ) → read_text t ≡ refused n p → value_of (asked kind t a b) ≡ 0
unfolding asked on_records text_form text_loss text_plan
value_refused kind t a b n p so =
    either_nothing (kind == 0) _ _ (sym (count_refused t n p so))
    (either_nothing (kind == 1) _ _ (ap (λ x. value_of (valued form_number x)) (sym (reading_refused t _ so)))
    (either_nothing (kind == 2) _ _ (ap (λ x. value_of (valued (to_bits binary64) x)) (sym (reading_refused t _ so)))
    (either_nothing (kind == 3) _ _ (ap (λ (q : Call ℕ). value_of q.answer) (sym (text_untouched t _ (replicate plan_length 0) so))) refl)))

same_either_way : (b : Bool) (v : ℕ) → cond b v v ≡ v
same_either_way true v = refl
same_either_way false v = refl

total_of_nothing : (n : ℕ) → 0 ≡ total 0 0 n
unfolding total up_to
total_of_nothing zero = refl
total_of_nothing (suc n) = rw (← total_of_nothing n, same_either_way (n % 2 == 0) 0)

pub total_refused : (kind : ℕ) (t a b : List ℕ) (n p times : ℕ) → read_text t ≡ refused n p
    → 0 ≡ total (value_of (asked kind t a b)) (value_of (asked kind t b a)) times
total_refused kind t a b n p times so = rw (value_refused kind t a b n p so, value_refused kind t b a n p so) (total_of_nothing times)

-- ---- the searches, every round the same
pub once_more : (i v w : ℕ) → w ≡ v → w ≡ cond (i % 2 == 0) v v
once_more i v w e = e ∙ sym (same_either_way (i % 2 == 0) v)

pub searches_refused : (t : List ℕ) (n p times : ℕ) → read_text t ≡ refused n p → 0 ≡ total (value_of (text_search t)) (value_of (text_search t)) times
unfolding text_search on_records
searches_refused t n p times so = rw so (total_of_nothing times)

pub searches_accepted : (t : List ℕ) (N : Network) (times r : ℕ) → read_text t ≡ accepted N → r ≡ total (value_of (search_value N)) (value_of (search_value N)) times
    → r ≡ total (value_of (text_search t)) (value_of (text_search t)) times
unfolding text_search on_records
searches_accepted t N times r so e = rw so e
