-- Lists of visits to which buses are put as a walk does, one by one, each at the far end of a branch at a bus reached before:
-- the buses are distinct, and there are no more of them than the network has.
use Rattle.std.specs.Prelude.{◌≡◌, ◌⊎◌, true, false, length}
use Rattle.std.proofs.Math.Path.{refl, ap}
use Rattle.std.proofs.Common.{◌∙◌, inl, inr, arith, eq-eqb}
use mathlib.Core.List.Memᴰ
use mathlib.Core.List.{List, [], ◌∷◌, ◌++◌}
use Prim.Native.Nat.{ℕ, suc, ◌<◌}
use Rattle.std.proofs.Math.ListN.{length-append}
use Rattle.numbers.specs.Counts.{count, count_none, count_drop}
use Rattle.numbers.specs.Distinct.{Distinct, distinct_append}
use Rattle.numbers.specs.Tests.{clash}
use Rattle.graph.specs.Graph.{Net, Branches, Ends, along, against}
use Rattle.graph.specs.Visits.{visit, buses_of, reached_still, reached_last, reached_before, reached_cases, reached_one, reached_mem}
use Rattle.graph.specs.Walk.{Visit, start_at, reached}

-- the start, then buses that were not reached before, each at the far end of a branch of S at a bus reached before
pub data Walked (N : Net) (S : Branches) (start : ℕ) : List Visit → Type 0 where
  begun : Walked N S start (start_at start ∷ [])
  entered : {o : List Visit} (u : ℕ) {y k : ℕ} → Walked N S start o → S k → Ends N k u y → reached u o ≡ true → reached y o ≡ false
      → Walked N S start (o ++ (visit y k ∷ []))

pub buses_last : (o : List Visit) (v : Visit) → buses_of (o ++ (v ∷ [])) ≡ buses_of o ++ (v.bus ∷ [])
buses_last [] v = refl
buses_last (w ∷ o) v = ap (◌∷◌ w.bus) (buses_last o v)

module _ {N : Net} {S : Branches} {start : ℕ} where
  pub walked_start : {o : List Visit} → Walked N S start o → reached start o ≡ true
  unfolding reached
  walked_start begun = rw (eq-eqb start _ refl)
  walked_start (entered {o = o} u w s e h f) = reached_still start o _ (walked_start w)

  pub walked_distinct : {o : List Visit} → Walked N S start o → Distinct (buses_of o)
  walked_distinct begun = (Memᴰ.not-nil, tt)
  walked_distinct (entered {o = o} u {y = y} {k = k} w s e h f) =
      rw (buses_last o (visit y k)) (distinct_append (buses_of o) y (walked_distinct w) (λ m. clash ((reached_mem y o).1 m) f))

  -- the walk stays among the buses
  module _ (ends : (k : ℕ) → S k → (N.from k < N.buses) × (N.to k < N.buses)) (l : start < N.buses) where
    end_below : {k u y : ℕ} → S k → Ends N k u y → y < N.buses
    end_below s (along p q) = rw q at (ends _ s).1
    end_below s (against p q) = rw p at (ends _ s).0

    pub walked_below : {o : List Visit} → Walked N S start o → (b : ℕ) → reached b o ≡ true → b < N.buses
    walked_below begun b h = rw (reached_one b start h) l
    walked_below (entered {o = o} u {y = y} {k = k} w s e r f) b h = go (reached_cases b o _ h) (λ t. walked_below w b t)
      where
        go : (reached b o ≡ true) ⊎ (b ≡ y) → (reached b o ≡ true → b < N.buses) → b < N.buses
        go (inl t) ih = ih t
        go (inr p) ih = rw p (end_below s e)

    -- those reached are as many as the list is long
    pub walked_count : {o : List Visit} → Walked N S start o → count (λ b. reached b o) N.buses ≡ length o
    unfolding reached
    walked_count begun =
        count_drop (λ b. reached b (start_at start ∷ [])) (λ b. false) N.buses start l
        (reached_last start [] (start_at start) refl) refl (λ b _ n. reached_before b [] (start_at start) n)
        ∙ ap suc (count_none (λ b. false) N.buses (λ b _. refl))
    walked_count (entered {o = o} u {y = y} {k = k} w s e h f) =
        count_drop (λ b. reached b (o ++ (visit y k ∷ []))) (λ b. reached b o) N.buses y (end_below s e)
        (reached_last y o (visit y k) refl) f (λ b _ n. reached_before b o (visit y k) n)
        ∙ ap suc (walked_count w) ∙ omega (arith, length-append o (visit y k ∷ []))
