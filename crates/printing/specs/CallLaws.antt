-- A call that is lent a slice, or two, case by case: refused by its tests, without room, or done. What the code writes stands as `written` here.
use Rattle.std.proofs.Math.Path.{◌≡◌, refl}
use Rattle.std.proofs.Common.{sym, ap, ◌∙◌, inl, inr}
use Rattle.std.specs.Prelude.{◌⊎◌, Bool, List, [], ◌∷◌, ◌++◌, ℕ, ◌≤◌, ◌<◌, length}
use Rattle.std.proofs.Math.Bool.{true, false, cond}
use Rattle.std.proofs.Math.Dec.{ltb}
use Rattle.std.proofs.Math.ListN.{drop}
use borrow.Author.Tests.{lt-ltb, le-ltb, ltb-true, ltb-false}
use Rattle.network.specs.Answers.{Answer, accepted, refused, ◌and_then◌, ◌if◌, judge, Judgement}
use Rattle.network.specs.AnswerLaws.{same_value, no_refusal, judge_iff, then_iff}
use Rattle.slices.specs.Written.{written}
use Rattle.slices.specs.WrittenLaws.{written_room}
use Rattle.printing.specs.Calls.{check_room, Call, answered, called, called_in_two}

-- ---- room in a lent slice
module _ {needed lent : ℕ} where
  pub no_room : lent < needed → refused 13 0 ≡ check_room needed lent
  unfolding check_room judge
  no_room h = rw (lt-ltb lent needed h)

  pub room : needed ≤ lent → accepted tt ≡ check_room needed lent
  unfolding check_room judge
  room h = rw (le-ltb lent needed h)

-- ---- the call
module _ {A : Type 0} {tests : Judgement} (answer : A) (bytes out : List ℕ) where
  pub call_refused : {number place : ℕ} → tests ≡ refused number place
      → record { answer = refused number place; out = out } ≡ called tests answer bytes out
  unfolding called ◌and_then◌
  call_refused e = rw e

  pub call_short : tests ≡ accepted tt → {needed : ℕ} → length bytes ≡ needed → length out < needed
      → record { answer = refused 13 0; out = out } ≡ called tests answer bytes out
  unfolding called ◌and_then◌ check_room judge
  call_short e {needed} n h = rw (e, n, lt-ltb (length out) needed h)

  pub call_done : tests ≡ accepted tt → {needed : ℕ} → length bytes ≡ needed → needed ≤ length out
      → {after : List ℕ} → after ≡ written bytes out → record { answer = accepted answer; out = after } ≡ called tests answer bytes out
  unfolding called ◌and_then◌ check_room judge
  call_done e {needed} n h w = rw (w, written_room bytes out (rw n h), e, le-ltb (length out) (length bytes) (rw n h))

  -- with its tests passed: refused by 13 where the slice is too short, else done
  pub call_passed : tests ≡ accepted tt → called tests answer bytes out ≡ cond (ltb (length out) (length bytes)) (record { answer = refused 13 0; out = out }) (record { answer = accepted answer; out = bytes ++ drop (length bytes) out })
  unfolding called ◌and_then◌ check_room
  call_passed e = rw e (go (ltb (length out) (length bytes)) refl)
    where
      go : (short : Bool) → ltb (length out) (length bytes) ≡ short
          → answered (judge ((13 if short) ∷ []) 0) answer bytes out ≡ cond short (record { answer = refused 13 0; out = out }) (record { answer = accepted answer; out = bytes ++ drop (length bytes) out })
      go true q = unfold judge in refl
      go false q = unfold judge in refl

  -- with room: the answer, and the bytes at the front of the slice, which keeps its tail
  pub call_is : {c : Call A} → tests ≡ accepted tt → length bytes ≤ length out → c ≡ called tests answer bytes out → c ≡ record { answer = accepted answer; out = written bytes out }
  call_is ok room e = e ∙ sym (call_done ok refl room refl)

  pub in_full : tests ≡ accepted tt → length bytes ≤ length out → called tests answer bytes out ≡ record { answer = accepted answer; out = bytes ++ drop (length bytes) out }
  in_full ok room = sym (call_done ok refl room (sym (written_room bytes out room)))

-- its tests and the room together are passed
pub call_accepted : {A : Type 0} (tests : Judgement) (answer : A) (bytes out : List ℕ) → (tests and_then check_room (length bytes) (length out)) ≡ accepted tt
    → record { answer = accepted answer; out = written bytes out } ≡ called tests answer bytes out
unfolding check_room
call_accepted tests answer bytes out e =
    let passed = (then_iff tests _).0 e in
    call_done answer bytes out passed.0 refl (ltb-false (length out) (length bytes) ((judge_iff _ 0).0 passed.1).0) refl

-- an answer that is no refusal: the value, and the bytes at the front of the slice
pub call_answered : {A : Type 0} (tests : Judgement) (answer : A) (bytes out : List ℕ) {value : A} {after : List ℕ}
    → record { answer = accepted value; out = after } ≡ called tests answer bytes out → (tests ≡ accepted tt) × (value ≡ answer) × (after ≡ bytes ++ drop (length bytes) out)
unfolding called
call_answered {A} tests answer bytes out {value} {after} e = go (tests and_then check_room (length bytes) (length out)) refl e
  where
    go : (j : Judgement) → (tests and_then check_room (length bytes) (length out)) ≡ j → record { answer = accepted value; out = after } ≡ answered j answer bytes out
        → (tests ≡ accepted tt) × (value ≡ answer) × (after ≡ bytes ++ drop (length bytes) out)
    go (accepted u) p q = (((then_iff tests _).0 p).0, same_value (ap (λ (c : Call A). c.answer) q), ap (λ (c : Call A). c.out) q)
    go (refused number place) p q = no_refusal (sym (ap (λ (c : Call A). c.answer) q))

-- a refusal is that of its tests, or 13 where they are passed and the slice is too short
pub call_refusals : {A : Type 0} (tests : Judgement) (answer : A) (bytes out : List ℕ) {n p : ℕ} → (called tests answer bytes out).answer ≡ refused n p
    → (tests ≡ refused n p) ⊎ ((tests ≡ accepted tt) × (n ≡ 13) × (p ≡ 0) × (length out < length bytes))
unfolding called ◌and_then◌ check_room
call_refusals (refused m q) answer bytes out {n} {p} e =
    let number : m ≡ n = cc in
    let place : q ≡ p = cc in
    inl (rw (number, place))
call_refusals {A} (accepted u) answer bytes out {n} {p} e = let (number, place, short) = go (ltb (length out) (length bytes)) refl e in inr (refl, number, place, short)
  where
    go : (short : Bool) → ltb (length out) (length bytes) ≡ short → (answered (judge ((13 if short) ∷ []) 0) answer bytes out).answer ≡ refused n p → (n ≡ 13) × (p ≡ 0) × (length out < length bytes)
    go true q a = let e : ◌≡◌ {A = Answer A} (refused 13 0) (refused n p) = (unfold judge in a) in (cc, cc, ltb-true (length out) (length bytes) q)
    go false q a = let e : ◌≡◌ {A = Answer A} (accepted answer) (refused n p) = (unfold judge in a) in no_refusal (sym e)

-- ---- the call with two slices
module _ {A : Type 0} {tests : Judgement} (answer : A) (bytes more first second : List ℕ) where
  pub two_refused : {number place : ℕ} → tests ≡ refused number place
      → record { answer = refused number place; first = first; second = second } ≡ called_in_two tests answer bytes more first second
  unfolding called_in_two ◌and_then◌
  two_refused e = rw e

  module _ (ok : tests ≡ accepted tt) {needed : ℕ} (long : length bytes ≡ needed) where
    pub first_short : length first < needed → record { answer = refused 13 0; first = first; second = second } ≡ called_in_two tests answer bytes more first second
    unfolding called_in_two ◌and_then◌ check_room judge
    first_short h = rw (ok, long, lt-ltb (length first) needed h)

    module _ (room : needed ≤ length first) {asked : ℕ} (also : length more ≡ asked) where
      pub second_short : length second < asked → record { answer = refused 13 0; first = first; second = second } ≡ called_in_two tests answer bytes more first second
      unfolding called_in_two ◌and_then◌ check_room judge
      second_short h = rw (ok, long, le-ltb (length first) needed room, also, lt-ltb (length second) asked h)

      pub two_done : asked ≤ length second → {after then : List ℕ} → after ≡ written bytes first → then ≡ written more second
          → record { answer = accepted answer; first = after; second = then } ≡ called_in_two tests answer bytes more first second
      unfolding called_in_two ◌and_then◌ check_room judge
      two_done h w v =
          rw (w, written_room bytes first (rw long room), v, written_room more second (rw also h), ok, le-ltb (length first) (length bytes) (rw long room), le-ltb (length second) (length more) (rw also h))

  pub two_in_full : tests ≡ accepted tt → length bytes ≤ length first → length more ≤ length second
      → called_in_two tests answer bytes more first second
      ≡ record { answer = accepted answer; first = bytes ++ drop (length bytes) first; second = more ++ drop (length more) second }
  two_in_full ok room also = sym (two_done ok refl room refl also (sym (written_room bytes first room)) (sym (written_room more second also)))
