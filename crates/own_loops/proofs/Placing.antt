-- The new positions, listed branch by branch, and that the switches placed by them are those that are left.
use Rattle.std.proofs.Common.{◌≡◌, ℕ, suc, ◌+◌, ◌≤◌, ◌<◌, Bool, true, false, not, cond, List, [], ◌∷◌, ◌++◌, map, length, get_or, take, drop, set, min, replicate, refl, sym, ap, ◌∙◌, arith, add-one}
use Rattle.std.specs.Prelude.{Option, Some, None}
use Rattle.std.specs.Option.{option_map}
use Rattle.std.specs.List.{filter_map, cons_option}
use Rattle.std.proofs.Math.Decide.{dec_lt}
use Rattle.std.proofs.Math.ListN.{get_or-eq_default}
use Rattle.std.proofs.lemmas.List.{drop-replicate}
use Rattle.numbers.specs.Arrays.{padded}
use Rattle.numbers.specs.Counts.{count, count_yes, count_no, count_le}
use Rattle.numbers.specs.Keep.{keep}
use Rattle.numbers.specs.TableLaws.{any_default, length_table, get_or_table, replicate_table, filled, filled_none, filled_more, filled_kept, filled_all}
use Rattle.numbers.specs.UpTo.{table}
use Rattle.network.specs.declared.branch.Branch.{Branch}
use Rattle.network.specs.declared.switch.Switch.{Switch}
use Rattle.network.specs.declared.topology.PowerNetwork.{PowerNetwork}
use Rattle.network.specs.LookupLaws.{listed_first}
use Rattle.network.specs.Records.{no_branch, no_switch, listed}
use Rattle.network.specs.Limits.{is_own_loop}
use Rattle.own_loops.specs.OwnLoops.{is_proper, proper_at, renumbered, switches_left, branches_in, switches_in}
use Rattle.own_loops.specs.OwnLoopLaws.{beyond}
use Rattle.own_loops.specs.NewPositions.{new_position, new_positions, placed}

module _ (l : List Branch) where
  -- ---- position by position
  pub record Numbered (positions : List (Option ℕ)) (kept k : ℕ) : Type 0 where
    pub stored : positions ≡ filled (new_position l) None 512 k
    pub counted : kept ≡ count (proper_at l) k

  pub none_numbered : Numbered (replicate 512 None) 0 0
  none_numbered = record { stored = replicate_table None 512 ∙ filled_none (new_position l) None 512; counted = unfold count in refl }

  pub few : (positions : List (Option ℕ)) (kept k : ℕ) → Numbered positions kept k → kept ≤ k
  few positions kept k s = omega (arith, s.counted, count_le (proper_at l) k)

  -- what the code reads of a branch
  pub read : {b v : Bool} (k : ℕ) (d : Branch) → k < length l → b ≡ is_own_loop (get_or l k d) → b ≡ v → proper_at l k ≡ not v
  read k d h e f = ap not (ap is_own_loop (any_default l k no_branch d h) ∙ sym e ∙ f)

  module _ {positions : List (Option ℕ)} {kept k : ℕ} (s : Numbered positions kept k) where
    pub one_numbered : k < 512 → proper_at l k ≡ true → Numbered (set positions k (Some kept)) (kept + 1) (k + 1)
    one_numbered h t =
        let here : Some kept ≡ new_position l k = rw (t, s.counted) in
        record { stored = rw (s.stored, here) (filled_more (new_position l) None 512 k h); counted = rw (add-one k, count_yes (proper_at l) k t) (add-one kept ∙ ap suc s.counted) }

    pub none_more : proper_at l k ≡ false → Numbered positions kept (k + 1)
    none_more t = record { stored = s.stored ∙ filled_kept (new_position l) None 512 k (rw t); counted = rw (add-one k, count_no (proper_at l) k t) s.counted }

    pub all_numbered : length l ≤ k → positions ≡ new_positions l
    unfolding new_positions
    all_numbered h = s.stored ∙ filled_all (new_position l) None 512 k (λ j b g. rw (beyond l j (omega arith)))

  -- ---- the branches and the switches that stay
  module _ (small : length l ≤ 512) where
    in_list : (k : ℕ) → get_or (new_positions l) k None ≡ new_position l k
    unfolding new_positions
    in_list k = go (dec_lt k 512)
      where
        go : Dec (k < 512) → get_or (table (new_position l) 512) k None ≡ new_position l k
        go (yes h) = get_or_table (new_position l) 512 k None h
        go (no h) = get_or-eq_default (table (new_position l) 512) None (omega (arith, length_table (new_position l) 512)) ∙ sym (rw (beyond l k (omega arith)))

    pub placed_left : (ss : List Switch) → filter_map (placed (new_positions l)) ss ≡ switches_left l ss
    unfolding keep
    placed_left [] = refl
    placed_left (s ∷ ss) = rw (in_list s.branch_idx) (go (proper_at l s.branch_idx) (placed_left ss))
      where
        left : List Switch
        left = keep (λ s. proper_at l s.branch_idx) ss

        at : ℕ → Switch
        at k = record { id = s.id; branch_idx = k; normally_open = s.normally_open; can_operate = s.can_operate }

        go : (b : Bool) → filter_map (placed (new_positions l)) ss ≡ map (renumbered l) left
            → cons_option (option_map at (cond b (Some (count (proper_at l) s.branch_idx)) None)) (filter_map (placed (new_positions l)) ss) ≡ map (renumbered l) (cond b (s ∷ left) left)
        go true e = ap (λ ws. renumbered l s ∷ ws) e
        go false e = e

abbrev pub kept_branch : Branch → Option Branch
kept_branch b = cond (is_own_loop b) None (Some b)

pub branches_kept : (l : List Branch) → filter_map kept_branch l ≡ keep is_proper l
unfolding keep
branches_kept [] = refl
branches_kept (b ∷ l) = go (is_own_loop b) (branches_kept l)
  where
    go : (o : Bool) → filter_map kept_branch l ≡ keep is_proper l → cons_option (cond o None (Some b)) (filter_map kept_branch l) ≡ cond (not o) (b ∷ keep is_proper l) (keep is_proper l)
    go true e = e
    go false e = ap (λ bs. b ∷ bs) e

-- ---- the value that is made of them
padded_from : {A : Type 0} (none : A) (l : List A) (k : ℕ) → k ≡ length l → l ++ drop k (padded 512 none []) ≡ padded 512 none l
unfolding padded
padded_from none l k e = rw (e, drop-replicate) refl

module _ (n : PowerNetwork) {m w : ℕ} (long : length n.branches ≡ 512) (wide : length n.switches ≡ 512) (e : m ≡ min n.branch_count 512) (f : w ≡ min n.switch_count 512) where
  branches_listed : take m n.branches ≡ branches_in n
  branches_listed = listed_first no_branch n.branches m (omega arith) ∙ ap (listed no_branch n.branches) e

  switches_listed : take w n.switches ≡ switches_in n
  switches_listed = listed_first no_switch n.switches w (omega arith) ∙ ap (listed no_switch n.switches) f

  small : length (branches_in n) ≤ 512
  small = omega (arith, length_table (λ i. get_or n.branches i no_branch) (min n.branch_count 512))

  pub branches_left : {bs : List Branch} {k : ℕ} → (bs ≡ filter_map kept_branch (take m n.branches) ++ drop k (padded 512 no_branch [])) × (k ≡ length (filter_map kept_branch (take m n.branches)))
      → (bs ≡ padded 512 no_branch (keep is_proper (branches_in n))) × (k ≡ length (keep is_proper (branches_in n)))
  branches_left {k = k} h =
      let same : filter_map kept_branch (take m n.branches) ≡ keep is_proper (branches_in n) = rw branches_listed (branches_kept (branches_in n)) in
      let counted : k ≡ length (keep is_proper (branches_in n)) = h.1 ∙ ap length same in
      (rw (h.0, same) (padded_from no_branch _ k counted), counted)

  pub switches_placed : {ws : List Switch} {k : ℕ} {positions : List (Option ℕ)} → positions ≡ new_positions (take m n.branches)
      → (ws ≡ filter_map (placed positions) (take w n.switches) ++ drop k (padded 512 no_switch [])) × (k ≡ length (filter_map (placed positions) (take w n.switches)))
      → (ws ≡ padded 512 no_switch (switches_left (branches_in n) (switches_in n))) × (k ≡ length (switches_left (branches_in n) (switches_in n)))
  switches_placed {k = k} {positions} p h =
      let same : filter_map (placed positions) (take w n.switches) ≡ switches_left (branches_in n) (switches_in n) = rw (p, branches_listed, switches_listed) (placed_left (branches_in n) small (switches_in n)) in
      let counted : k ≡ length (switches_left (branches_in n) (switches_in n)) = h.1 ∙ ap length same in
      (rw (h.0, same) (padded_from no_switch _ k counted), counted)
