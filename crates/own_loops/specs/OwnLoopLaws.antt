-- What is left of a feeder inside the limits is inside them too, without an own loop; where there is none, all is left. Exactly the branches with different ends are kept and
-- the switches on them, each on the branch that it was on, and exactly the lines of the others are dropped.
use Rattle.std.specs.Prelude.{◌≡◌, ◌⊎◌, ◌≢◌, ◌↔◌, Bool, true, false, ℕ, ◌+◌, ◌-◌, ◌≤◌, ◌<◌, min, get_or}
use Rattle.std.proofs.Math.Path.{refl, ap}
use Rattle.std.proofs.Common.{sym, ◌∙◌, inl, inr, arith, length-append}
use Rattle.std.proofs.Math.Bool.{not, not-not}
use mathlib.Core.List.Memᴰ
use mathlib.Core.List.{List, [], ◌∷◌, ◌++◌, map, Memᴰ}
use Rattle.std.proofs.Math.Decide.{dec_lt}
use Rattle.std.proofs.Math.ListN.{length, get_or-eq_default}
use Rattle.std.proofs.lemmas.List.{length-map}
use borrow.Author.Tests.{ne_eqb, eq-eqb, eqb-true}
use Rattle.numbers.specs.Counts.{count, count_all}
use Rattle.numbers.specs.CountLaws.{counted_before}
use Rattle.numbers.specs.Keep.{keep}
use Rattle.numbers.specs.KeepLaws.{keep_short, keep_long, keep_fewer, kept_in, in_kept, keep_at, keep_map, keep_distinct, times_few}
use Rattle.numbers.specs.Tests.{clash}
use Rattle.network.specs.declared.branch.Branch.{Branch}
use Rattle.network.specs.declared.switch.Switch.{Switch}
use Rattle.network.specs.declared.topology.PowerNetwork.{PowerNetwork}
use Rattle.network.specs.Records.{Network, no_branch, no_switch, records_of}
use Rattle.network.specs.RecordLaws.{read_back}
use Rattle.network.specs.Limits.{is_own_loop, switch_id, on, ties}
use Rattle.network.specs.Inside.{Each, Inside, Proper}
use Rattle.network.specs.EachLaws.{each_at, each_map, each_mapped, each_both, each_kept, keep_pass, keep_all, map_kept}
use Rattle.network.specs.TieLaws.{ties_counting}
use Rattle.own_loops.specs.OwnLoops.{is_proper, proper_at, renumbered, switches_left, without_own, branch_under, branch_reason, switch_reason, Dropped, DroppedBranch, DroppedSwitch, dropped_branches, dropped_switches, dropped_lines, value_without}
use Rattle.own_loops.specs.DroppedLaws.{from_none, from_many, from_told, told_from, Rising, rising_at, rising_append, from_on, from_below, from_rising}

-- ---- the test, and what it says of a branch
different : (b : Branch) → is_proper b ≡ true → b.from_bus ≢ b.to_bus
different b t e = clash t (ap not (eq-eqb b.from_bus b.to_bus e))

passes : (b : Branch) → b.from_bus ≢ b.to_bus → is_proper b ≡ true
passes b n = ap not (ne_eqb b.from_bus b.to_bus n)

module _ (l : List Branch) where
  -- a switch stands on a branch that is kept
  abbrev stays : Switch → Bool
  stays s = proper_at l s.branch_idx

  -- ---- what renumbering keeps
  ids_kept : (ss : List Switch) → map switch_id (map (renumbered l) ss) ≡ map switch_id ss
  ids_kept [] = refl
  ids_kept (s ∷ ss) = ap (λ (r : List ℕ). s.id ∷ r) (ids_kept ss)

  ties_kept : (ss : List Switch) → ties (map (renumbered l) ss) ≡ ties ss
  unfolding ties
  ties_kept [] = refl
  ties_kept (s ∷ ss) = rw (ties_kept ss)

  -- ---- the new positions
  counted : (ss : List Switch) → map on (map (renumbered l) ss) ≡ map (count (proper_at l)) (map on ss)
  counted [] = refl
  counted (s ∷ ss) = ap (λ (r : List ℕ). count (proper_at l) (on s) ∷ r) (counted ss)

  positions_left : (ss : List Switch) → map on (switches_left l ss) ≡ map (count (proper_at l)) (keep (proper_at l) (map on ss))
  positions_left ss = counted (keep stays ss) ∙ ap (map (count (proper_at l))) (sym (keep_map on (proper_at l) ss))

  below : (k : ℕ) → k < length l → proper_at l k ≡ true → count (proper_at l) k < length (keep is_proper l)
  below k h t = rw (keep_long is_proper l no_branch) (counted_before (proper_at l) (length l) k h t)

  positions_below : (ss : List Switch) → Each (λ s. s.branch_idx < length l) ss → Each (λ s. s.branch_idx < length (keep is_proper l)) (switches_left l ss)
  positions_below ss h =
      each_mapped _ (renumbered l) (keep stays ss)
      (each_map _ _ (keep stays ss) (λ s k. below s.branch_idx k.0 k.1) (each_both _ _ (keep stays ss) (each_kept _ stays ss h) (keep_pass stays ss)))

  -- ---- how many are left
  pub left_short : (ss : List Switch) → length (switches_left l ss) ≤ length ss
  left_short ss = rw (length-map (keep stays ss) (renumbered l)) (keep_short stays ss)

  left_ties : (ss : List Switch) → ties (switches_left l ss) ≤ ties ss
  left_ties ss = rw (ties_kept (keep stays ss)) (keep_fewer stays _ ties ties_counting ss)

-- ---- what is left is inside the limits, and no branch of it goes from a bus to itself
pub left_inside : (N : Network) → Inside N → Inside (without_own N) × Proper (without_own N)
unfolding without_own
left_inside N i =
    let l = N.branches in
    let ss = N.switches in (
      record {
        iterations = i.iterations;
        counts = (i.counts.0, omega (arith, keep_short is_proper l, i.counts.1), omega (arith, left_short l ss, i.counts.2));
        base = i.base;
        loads = i.loads;
        resistances = each_kept _ is_proper l i.resistances;
        ends = each_kept _ is_proper l i.ends;
        positions = positions_below l ss i.positions;
        bus_ids = i.bus_ids;
        switch_ids = rw (ids_kept l (keep (stays l) ss)) (keep_distinct (stays l) switch_id ss i.switch_ids);
        at_most_two = λ k. rw (positions_left l ss) (times_few (proper_at l) 2 (map on ss) i.at_most_two k);
        few_ties = λ m. let e = i.few_ties m in omega (arith, left_ties l ss);
      },
      each_map _ _ (keep is_proper l) different (keep_pass is_proper l),
    )

-- ---- where no branch goes from a bus to itself, and every switch is on a branch
module _ (N : Network) (placed : Each (λ s. s.branch_idx < length N.branches) N.switches) (proper : Proper N) where
  at_listed : (k : ℕ) → k < length N.branches → proper_at N.branches k ≡ true
  at_listed k h = passes (get_or N.branches k no_branch) (each_at _ N.branches proper k no_branch h)

  branches_same : keep is_proper N.branches ≡ N.branches
  branches_same = keep_all is_proper N.branches (each_map _ _ N.branches passes proper)

  all_stay : Each (λ s. stays N.branches s ≡ true) N.switches
  all_stay = each_map _ _ N.switches (λ s h. at_listed s.branch_idx h) placed

  unmoved : (s : Switch) → s.branch_idx < length N.branches → renumbered N.branches s ≡ s
  unmoved s h = rw (count_all (proper_at N.branches) s.branch_idx (λ k b. at_listed k (omega arith)))

  switches_same : switches_left N.branches N.switches ≡ N.switches
  switches_same = ap (map (renumbered N.branches)) (keep_all (stays N.branches) N.switches all_stay) ∙ map_kept _ (renumbered N.branches) unmoved N.switches placed

  pub placed_same : without_own N ≡ N
  unfolding without_own
  placed_same = rw (branches_same, switches_same)

  placed_none : dropped_lines N ≡ []
  unfolding dropped_lines
  placed_none =
      rw (
        from_none is_own_loop branch_reason (2 + length N.buses) N.branches (each_map _ _ N.branches (λ b n. ne_eqb b.from_bus b.to_bus n) proper),
        from_none _ switch_reason (2 + length N.buses + length N.branches) N.switches (each_map _ _ N.switches (λ s e. ap not e) all_stay),
      )

pub proper_same : (N : Network) → Inside N → Proper N → without_own N ≡ N
proper_same N i = placed_same N i.positions

pub dropped_none : (N : Network) → Inside N → Proper N → dropped_lines N ≡ []
dropped_none N i = placed_none N i.positions

pub same_proper : (N : Network) → without_own N ≡ N → Proper N
unfolding without_own
same_proper N e = let b : keep is_proper N.branches ≡ N.branches = ap (λ M. M.branches) e in each_map _ _ N.branches different (rw b at (keep_pass is_proper N.branches))

-- ---- as many lines are dropped as branches and switches
pub dropped_many : (N : Network) → length (dropped_lines N) ≡ (length N.branches - length (without_own N).branches) + (length N.switches - length (without_own N).switches)
unfolding dropped_lines without_own
dropped_many N =
    let l = N.branches in
    let b = from_many is_own_loop branch_reason is_proper (λ b. refl) (2 + length N.buses) l in
    let s = from_many (λ s. not (stays l s)) switch_reason (stays l) (λ s. sym (not-not (stays l s))) (2 + length N.buses + length l) N.switches in
    rw (length-append, length-map (keep (stays l) N.switches) (renumbered l)) (omega arith)

-- ---- a value handed over holds what is left of its records
pub value_without_lem : (n : PowerNetwork) → n.branch_count ≤ 512 → n.switch_count ≤ 512 → records_of (value_without n) ≡ without_own (records_of n)
unfolding records_of value_without without_own
value_without_lem n b s =
    let e : min n.branch_count 512 ≡ n.branch_count = omega arith in
    let f : min n.switch_count 512 ≡ n.switch_count = omega arith in
    rw (e, f, read_back 512 no_branch _, read_back 512 no_switch _)

-- ---- exactly those are kept
-- a position beyond the list has no such branch
pub beyond : (l : List Branch) (k : ℕ) → length l ≤ k → proper_at l k ≡ false
beyond l k h = ap is_proper (get_or-eq_default l no_branch h)

pub is_listed : (l : List Branch) (k : ℕ) → proper_at l k ≡ true → k < length l
is_listed l k t = go (dec_lt k (length l))
  where
    go : Dec (k < length l) → k < length l
    go (yes h) = h
    go (no h) = clash t (beyond l k (omega arith))

-- a switch that is kept is on the branch that it was on
pub same_branch : (N : Network) (s : Switch) → (branch_under N s).from_bus ≢ (branch_under N s).to_bus → branch_under (without_own N) (renumbered N.branches s) ≡ branch_under N s
unfolding without_own
same_branch N s n =
    let t = passes (branch_under N s) n in
    keep_at is_proper N.branches no_branch s.branch_idx (is_listed N.branches s.branch_idx t) t

pub kept_branches : (N : Network) (b : Branch) → Memᴰ b (without_own N).branches ↔ (Memᴰ b N.branches × (b.from_bus ≢ b.to_bus))
unfolding without_own
kept_branches N b = (
  λ m. let k = kept_in is_proper b N.branches m in (k.0, different b k.1),
  λ k. in_kept is_proper b N.branches k.0 (passes b k.1),
)

pub kept_switches : (N : Network) (s' : Switch)
    → Memᴰ s' (without_own N).switches
    ↔ ((s : Switch) × Memᴰ s N.switches × ((branch_under N s).from_bus ≢ (branch_under N s).to_bus) × (s' ≡ renumbered N.branches s))
unfolding without_own
kept_switches N s' = (
  λ m.
      let (s, k, e) = Memᴰ.of_map (renumbered N.branches) (keep (stays N.branches) N.switches) m in
      let q = kept_in (stays N.branches) s N.switches k in
      (s, q.0, different (branch_under N s) q.1, sym e),
  λ k.
      let (s, m, n, e) = k in
      Memᴰ.cast e (Memᴰ.map (renumbered N.branches) (in_kept (stays N.branches) s N.switches m (passes (branch_under N s) n))),
)

-- ---- exactly the lines of the others are dropped
-- a switch is dropped
abbrev gone : Network → Switch → Bool
gone N s = not (stays N.branches s)

-- the first line behind the branches
abbrev behind : Network → ℕ
behind N = 2 + length N.buses + length N.branches

pub dropped_exactly : (N : Network) (d : Dropped) → Memᴰ d (dropped_lines N) ↔ (((d.reason ≡ branch_reason) × DroppedBranch N d.line) ⊎ ((d.reason ≡ switch_reason) × DroppedSwitch N d.line))
unfolding dropped_lines
dropped_exactly N d = (λ m. told (Memᴰ.append_cases (dropped_branches N) m), back)
  where
    told : Memᴰ d (dropped_branches N) ⊎ Memᴰ d (dropped_switches N) → ((d.reason ≡ branch_reason) × DroppedBranch N d.line) ⊎ ((d.reason ≡ switch_reason) × DroppedSwitch N d.line)
    told (inl m) =
        let (r, (k, h, e, t)) = from_told is_own_loop branch_reason no_branch (2 + length N.buses) N.branches d m in
        let b = get_or N.branches k no_branch in
        inl (r, (k, h, e, eqb-true b.from_bus b.to_bus t))
    told (inr m) =
        let (r, (i, h, e, t)) = from_told (gone N) switch_reason no_switch (behind N) N.switches d m in
        let b = branch_under N (get_or N.switches i no_switch) in
        inr (r, (i, h, e, eqb-true b.from_bus b.to_bus (sym (not-not (is_own_loop b)) ∙ t)))

    back : ((d.reason ≡ branch_reason) × DroppedBranch N d.line) ⊎ ((d.reason ≡ switch_reason) × DroppedSwitch N d.line) → Memᴰ d (dropped_branches N ++ dropped_switches N)
    back (inl (r, (k, h, e, t))) =
        let b = get_or N.branches k no_branch in
        let same : d ≡ record { line = 2 + length N.buses + k; reason = branch_reason } = rw (← e, ← r) in
        Memᴰ.append_left (dropped_switches N)
        (Memᴰ.cast same (told_from is_own_loop branch_reason no_branch (2 + length N.buses) N.branches k h (eq-eqb b.from_bus b.to_bus t)))
    back (inr (r, (i, h, e, t))) =
        let b = branch_under N (get_or N.switches i no_switch) in
        let same : d ≡ record { line = behind N + i; reason = switch_reason } = rw (← e, ← r) in
        Memᴰ.append_right (dropped_branches N)
        (Memᴰ.cast same (told_from (gone N) switch_reason no_switch (behind N) N.switches i h (not-not (is_own_loop b) ∙ eq-eqb b.from_bus b.to_bus t)))

-- in line order
rising : (N : Network) → Rising (dropped_lines N)
unfolding dropped_lines
rising N =
    let start = 2 + length N.buses in
    rising_append (behind N) (dropped_branches N) (dropped_switches N) (from_rising is_own_loop branch_reason start N.branches) (from_rising (gone N) switch_reason (behind N) N.switches)
    (from_below is_own_loop branch_reason start (behind N) N.branches (omega arith)) (from_on (gone N) switch_reason (behind N) N.switches)

pub dropped_rising : (N : Network) (i j : ℕ) (d : Dropped) → i < j → j < length (dropped_lines N) → (get_or (dropped_lines N) i d).line < (get_or (dropped_lines N) j d).line
dropped_rising N = rising_at (dropped_lines N) (rising N)
