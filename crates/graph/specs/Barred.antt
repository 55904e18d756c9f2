-- The branches by which a walk with a barred bus goes: a chain of them is a chain of live branches that does not visit the
-- barred bus.
use Rattle.std.proofs.Common.{sym, ◌∙◌}
use Rattle.std.specs.Prelude.{◌≢◌, Bool, ℕ}
use mathlib.Core.List.Memᴰ
use mathlib.Core.List.{List, Memᴰ}
use Rattle.graph.specs.Graph.{Net, Branches, Live, Ends, along, against, Chain, stay, step, visited}
use Rattle.graph.specs.Chains.{◌⊆◌}
use Rattle.graph.specs.Paths.{starts}

-- the live branches without an end at the barred bus; all live branches if the start itself is barred
abbrev pub Unbarred : Net → (ℕ → Bool) → ℕ → ℕ → Branches
Unbarred N E start barred k = Live N E k × (barred ≢ start → (N.from k ≢ barred) × (N.to k ≢ barred))

module _ (N : Net) (E : ℕ → Bool) (start barred : ℕ) where
  pub unbarred_live : Unbarred N E start barred ⊆ Live N E
  unbarred_live k s = s.0

  pub unbarred_end : {a c k : ℕ} → Unbarred N E start barred k → barred ≢ start → Ends N k a c → c ≢ barred
  unbarred_end s n (along p q) z = (s.1 n).1 (q ∙ z)
  unbarred_end s n (against p q) z = (s.1 n).0 (p ∙ z)

  pub ends_unbarred : {a c k : ℕ} → Live N E k → Ends N k a c → (barred ≢ start → (a ≢ barred) × (c ≢ barred)) → Unbarred N E start barred k
  ends_unbarred s (along p q) h = (s, λ n. (λ z. (h n).0 (sym p ∙ z), λ z. (h n).1 (sym q ∙ z)))
  ends_unbarred s (against p q) h = (s, λ n. (λ z. (h n).1 (sym p ∙ z), λ z. (h n).0 (sym q ∙ z)))

  pub unbarred_chain : {a b : ℕ} {l : List ℕ} (c : Chain N (Live N E) a b l) → (barred ≢ start → ¬ Memᴰ barred (visited c))
      → Chain N (Unbarred N E start barred) a b l
  unfolding visited
  unbarred_chain (stay e) h = stay e
  unbarred_chain (step s e c) h =
      step (ends_unbarred s e (λ n. (λ p. h n (Memᴰ.head (sym p)), λ p. h n (Memᴰ.tail (Memᴰ.cast (sym p) (starts c)))))) e
      (unbarred_chain c (λ n m. h n (Memᴰ.tail m)))

  pub unvisited : barred ≢ start → {a b : ℕ} {l : List ℕ} → a ≢ barred → (c : Chain N (Unbarred N E start barred) a b l)
      → ¬ Memᴰ barred (visited c)
  unfolding visited
  unvisited n d (stay e) (Memᴰ.head p) = d (sym p)
  unvisited n d (stay e) (Memᴰ.tail m) = Memᴰ.not-nil m
  unvisited n d (step s e c) (Memᴰ.head p) = d (sym p)
  unvisited n d (step s e c) (Memᴰ.tail m) = unvisited n (unbarred_end s n e) c m
