-- A network inside the limits, by positions: what its limits say of the record at a position, and what stands once in its list is found where it stands.
use Rattle.std.specs.Prelude.{◌≡◌, Bool, true, ℕ, ◌≤◌, ◌<◌, eqb, length, get_or}
use Rattle.std.proofs.Common.{sym, arith, eq-eqb}
use mathlib.Core.List.{List, map, Memᴰ}
use Rattle.std.proofs.lemmas.List.{length-map}
use Rattle.std.proofs.Math.ListN.{get_or-map}
use Rattle.numbers.specs.Choose.{index_of}
use Rattle.numbers.specs.ChooseLaws.{index_at}
use Rattle.numbers.specs.Distinct.{Distinct, distinct_at}
use Rattle.numbers.specs.Counts.{count}
use Rattle.numbers.specs.CountLaws.{count_mono}
use Rattle.numbers.specs.Times.{times_at}
use Rattle.network.specs.Records.{Network, no_branch, no_switch}
use Rattle.network.specs.Limits.{bus_id, on}
use Rattle.network.specs.Inside.{Inside}
use Rattle.network.specs.EachLaws.{each_at}

-- a record whose key stands once is found by its key
pub index_own : {A : Type 0} (key : A → ℕ) (l : List A) → Distinct (map key l) → (i : ℕ) (d : A) → i < length l → index_of (key (get_or l i d)) (map key l) ≡ i
index_own key l h i d b =
    let c : i < length (map key l) = omega (arith, length-map l key) in
    rw (← get_or-map key l i d) (index_at (map key l) (key d) i c (λ j k. distinct_at (map key l) h j i (key d) k c))

module _ (N : Network) (inside : Inside N) where
  -- a switch is on a branch
  pub on_a_branch : (i : ℕ) → i < length N.switches → (get_or N.switches i no_switch).branch_idx < length N.branches
  on_a_branch i h = each_at (λ s. s.branch_idx < length N.branches) N.switches inside.positions i no_switch h

  -- a test that only switches on branch k pass is passed by two at most
  pub two_on_branch : (k : ℕ) (p : ℕ → Bool) → ((i : ℕ) → i < length N.switches → p i ≡ true → (get_or N.switches i no_switch).branch_idx ≡ k) → count p (length N.switches) ≤ 2
  two_on_branch k p only =
      let l = N.switches in
      let here = count_mono p (λ i. eqb k (on (get_or l i no_switch))) (length l) (λ i h t. eq-eqb k _ (sym (only i h t))) in
      omega (arith, here, times_at on l no_switch k, inside.at_most_two k)

  -- the ends of a branch are listed
  pub from_listed : (k : ℕ) → k < length N.branches → Memᴰ (get_or N.branches k no_branch).from_bus (map bus_id N.buses)
  from_listed k h = (each_at _ N.branches inside.ends k no_branch h).0

  pub to_listed : (k : ℕ) → k < length N.branches → Memᴰ (get_or N.branches k no_branch).to_bus (map bus_id N.buses)
  to_listed k h = (each_at _ N.branches inside.ends k no_branch h).1
