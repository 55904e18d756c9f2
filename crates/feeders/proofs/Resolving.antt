-- An id that is looked up in rows gives the end of a branch; and the ends of the branches while they are looked up, by rising position.
use Rattle.std.specs.Prelude.{◌≡◌, refl, Bool, true, false, cond, List, ℕ, ◌+◌, ◌<◌, ◌≤◌, min, ltb, length, get_or, take, set, replicate}
use Rattle.std.proofs.Common.{ap, ◌∙◌, arith, length-take, get_or-take, lt-ltb, le-ltb, ltb-true, ltb-false}
use Rattle.numbers.specs.Choose.{index_of}
use Rattle.numbers.specs.TableLaws.{replicate_table, table_cong, any_default, filled, renewed, filled_none, filled_more, filled_within}
use Rattle.network.specs.declared.branch.Branch.{Branch}
use Rattle.checks.specs.FaultLaws.{among_index}
use Rattle.ids.specs.declared.rows.IdRows.{IdRows}
use Rattle.ids.specs.Ids.{id_rows, position_of}
use Rattle.ids.specs.IdLaws.{position_found}
use Rattle.network.specs.Records.{no_branch}
use Rattle.feeders.specs.FeederRows.{end_at, ends_of}

-- an id at its first position, or at none of n
module _ (r : IdRows) (n id p : ℕ) (small : n ≤ 256) (q : p ≡ position_of r.ids r.first r.next n id) (l : List ℕ) (long : n ≡ length l) (e : r ≡ id_rows l) where
  sought : p ≡ index_of id l
  sought = q ∙ position_found l (omega arith) r.ids r.first r.next e n id long

  pub end_found : p < n → p ≡ end_at l id
  unfolding end_at
  end_found h = rw (← among_index id l, lt-ltb (index_of id l) (length l) (omega (arith, sought))) sought

  pub no_end : n ≤ p → 0 ≡ end_at l id
  unfolding end_at
  no_end h = rw (← among_index id l, le-ltb (index_of id l) (length l) (omega (arith, sought))) refl

-- the ends of the first k branches
module _ (id : Branch → ℕ) (ids : List ℕ) where
  pub ends_start : (branches : List Branch) → replicate 512 0 ≡ ends_of id ids branches 0
  unfolding filled renewed
  ends_start branches = replicate_table 0 512 ∙ filled_none (λ k. end_at ids (id (get_or branches k no_branch))) 0 512

  pub end_resolved : (branches : List Branch) (d : Branch) (k : ℕ) {t : List ℕ} {r : ℕ} → k < length branches → length branches ≤ 512 → t ≡ ends_of id ids branches k
      → r ≡ end_at ids (id (get_or branches k d)) → set t k r ≡ ends_of id ids branches (k + 1)
  unfolding filled renewed
  end_resolved branches d k h few inv e =
      rw (inv, e, any_default branches k d no_branch h) (filled_more (λ j. end_at ids (id (get_or branches j no_branch))) 0 512 k (omega arith))

  -- the front of an array of branches is as far as they are counted
  pub front_ends : (branches : List Branch) (count : ℕ) → length branches ≡ 512
      → ends_of id ids (take (min count 512) branches) (length (take (min count 512) branches)) ≡ ends_of id ids branches count
  front_ends branches count sized = table_cong _ _ 512 (λ k h. go k h (ltb k count) refl)
    where
      front : List Branch
      front = take (min count 512) branches

      long : length front ≡ min count 512
      long = length-take (min count 512) branches ∙ omega (arith, sized)

      go : (k : ℕ) → k < 512 → (b : Bool) → ltb k count ≡ b
          → cond (ltb k (length front)) (end_at ids (id (get_or front k no_branch))) 0 ≡ cond (ltb k count) (end_at ids (id (get_or branches k no_branch))) 0
      go k h true e =
          let within = ltb-true k count e in
          rw (e, lt-ltb k (length front) (omega (arith, long)), get_or-take (min count 512) branches k no_branch (omega arith)) refl
      go k h false e =
          let beyond = ltb-false k count e in
          rw (e, le-ltb k (length front) (omega (arith, long))) refl

-- the same for one array of branches: no more than its entries are looked up
module _ (end : Branch → ℕ) (ids : List ℕ) (branches : List Branch) where
  abbrev end_of : ℕ → ℕ
  end_of k = end_at ids (end (get_or branches k no_branch))

  pub ends_filled : ℕ → List ℕ
  ends_filled k = filled end_of 0 512 k

  pub ends_end : (count k : ℕ) → k ≡ min count 512 → ends_filled k ≡ ends_of end ids branches count
  unfolding ends_filled filled
  ends_end count k e = ap ends_filled e ∙ filled_within end_of 0 512 count
