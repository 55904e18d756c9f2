-- The far ends and the rows of a graph, from what the stores of the code leave.
use mathlib.Core.Path.{◌≡◌, refl, ◌∙◌}
use mathlib.Core.List.{List}
use Prim.Native.Nat.{ℕ, zero, suc, ◌+◌, ◌*◌, ◌-◌, ◌<◌, ◌≤◌, min}
use native.Mathlib.Decide.{ℕ_discrete}
use lib.ListN.{length, get_or, set, replicate, length-set, length-replicate}
use lib.Seq.{get_or-set_same, get_or-set_other}
use native.Mathlib.Omega.{arith}
use Rattle.numbers.specs.UpTo.{up_to, up_to_more}
use Rattle.numbers.specs.TableLaws.{as_table}
use borrow.Author.Tests.{lt-ltb, le-ltb, eq-eqb, ne_eqb}
use Rattle.graph.specs.declared.rows.Graph.{Graph}
use Rattle.graph.specs.Rows.{far_end, far_of, rows, with_rows, put_half, put_branch, rows_of, graph_of}
use Rattle.graph.specs.RowsHold.{far_even, far_odd}

-- a branch goes into the row of its one bus, or into those of both
module _ (first next : List ℕ) (k f t : ℕ) where
  pub put_once : {first' next' : List ℕ} → f ≡ t → first' ≡ set first f (2 * k) → next' ≡ set next (2 * k) (get_or first f 0)
      → rows first' next' ≡ put_branch k f t (rows first next)
  unfolding put_branch put_half
  put_once e p q = rw (eq-eqb f t e, p, q)

  pub put_twice : {first₁ next₁ first₂ next₂ : List ℕ} → (f ≡ t → ⊥)
      → first₁ ≡ set first t (2 * k + 1) → next₁ ≡ set next (2 * k + 1) (get_or first t 0)
      → first₂ ≡ set first₁ f (2 * k) → next₂ ≡ set next₁ (2 * k) (get_or first₁ f 0)
      → rows first₂ next₂ ≡ put_branch k f t (rows first next)
  unfolding put_branch put_half
  put_twice n p q u v = rw (ne_eqb f t n, u, v, p, q)

module _ (from to : List ℕ) where
  -- the far ends of the first k branches stand in the array of the code
  pub record FarSoFar (far : List ℕ) (k : ℕ) : Type 0 where
    long : length far ≡ 1024
    so_far : (h : ℕ) → h < 2 * k → get_or far h 0 ≡ far_end from to h

  pub none_far : FarSoFar (replicate 1024 0) 0
  none_far = record { long = length-replicate {A = ℕ} 1024 0; so_far = λ h l. absurd (omega arith) }

  module _ {far : List ℕ} (k : ℕ) (s : FarSoFar far k) where
    pub one_far : k < 512 → FarSoFar (set (set far (2 * k) (get_or to k 0)) (2 * k + 1) (get_or from k 0)) (k + 1)
    one_far below = record {
      long = simp length-set s.long;
      so_far = λ h l. go h l (ℕ_discrete h (2 * k)) (ℕ_discrete h (2 * k + 1));
    }
      where
        evens : List ℕ
        evens = set far (2 * k) (get_or to k 0)

        go : (h : ℕ) → h < 2 * (k + 1) → Dec (h ≡ 2 * k) → Dec (h ≡ 2 * k + 1)
            → get_or (set evens (2 * k + 1) (get_or from k 0)) h 0 ≡ far_end from to h
        go h l (yes e) d =
            rw (e, far_even from to k)
            (get_or-set_other evens (2 * k + 1) (2 * k) (get_or from k 0) 0 (omega arith) ∙ get_or-set_same far (2 * k) (get_or to k 0) 0 (omega (arith, s.long)))
        go h l (no n) (yes e) = rw (e, far_odd from to k) (get_or-set_same evens (2 * k + 1) (get_or from k 0) 0 (simp length-set (omega (arith, s.long))))
        go h l (no n) (no d) =
            get_or-set_other evens (2 * k + 1) h (get_or from k 0) 0 d ∙ get_or-set_other far (2 * k) h (get_or to k 0) 0 n ∙ s.so_far h (omega arith)

    pub all_far : 512 ≤ k → far ≡ far_of from to
    unfolding far_of
    all_far l = as_table _ 1024 0 far s.long (λ h b. s.so_far h (omega arith))

  module _ (m : ℕ) where
    -- branches that are not listed are in no row
    none_listed : (i : ℕ) → i ≤ 512 - min m 512 → rows_of m from to i ≡ rows (replicate 256 1024) (replicate 1024 1024)
    unfolding rows_of up_to
    none_listed zero l = refl
    none_listed (suc i) l = rw (le-ltb (511 - i) m (omega arith)) (none_listed i (omega arith))

    -- the branch below k goes in front of those from k on
    one_listed : (k : ℕ) → 0 < k → k ≤ min m 512
        → rows_of m from to (512 - (k - 1)) ≡ put_branch (k - 1) (get_or from (k - 1) 0) (get_or to (k - 1) 0) (rows_of m from to (512 - k))
    unfolding rows_of
    one_listed k some few =
        let more : 512 - (k - 1) ≡ 512 - k + 1 = omega arith in
        let here : 511 - (512 - k) ≡ k - 1 = omega arith in
        rw (more, up_to_more _ _ (512 - k), here, lt-ltb (k - 1) m (omega arith))

    module _ (n : ℕ) where
      -- the graph of n buses that has the branches from k on in its rows
      abbrev pub built_from : ℕ → Graph
      built_from k = let r = rows_of m from to (512 - k) in record { bus_count = n; branch_count = m; far = far_of from to; first = r.first; next = r.next }

      pub none_built : (k : ℕ) → k ≡ min m 512
          → ◌≡◌ {A = Graph} (record { bus_count = n; branch_count = m; far = far_of from to; first = replicate 256 1024; next = replicate 1024 1024 }) (built_from k)
      none_built k e = rw (none_listed (512 - k) (omega arith))

      pub one_built : (k : ℕ) → 0 < k → k ≤ min m 512
          → with_rows (built_from k) (put_branch (k - 1) (get_or from (k - 1) 0) (get_or to (k - 1) 0) (rows (built_from k).first (built_from k).next)) ≡ built_from (k - 1)
      one_built k some few = rw (one_listed k some few)

      pub all_built : built_from 0 ≡ graph_of n m from to
      unfolding graph_of
      all_built = refl
