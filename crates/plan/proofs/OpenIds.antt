-- The ids of the open switches of each branch, as a loop over the switches notes them: those of the first i switches, in list order. There are at most two.
use Rattle.std.specs.Prelude.{◌≡◌, ◌≢◌, refl, true, false, cond, List, [], ◌∷◌, ◌++◌, map, ℕ, ◌+◌, ◌≤◌, ◌<◌, length, get_or, set, take, replicate}
use Rattle.std.proofs.Common.{sym, ap, ◌∙◌, arith, add-one, length-set, length-append, length-take, get_or-take, get_or-set_same, get_or-set_other}
use Rattle.std.proofs.Math.Bool.{and-false}
use Rattle.std.proofs.Math.Decide.{ℕ_discrete}
use Rattle.std.proofs.lemmas.List.{length-map, length-replicate, get_or-replicate}
use borrow.Author.Tests.{eq-eqb, ne_eqb}
use Rattle.numbers.specs.Counts.{count}
use Rattle.numbers.specs.CountLaws.{counted_before}
use Rattle.numbers.specs.Choose.{those}
use Rattle.numbers.specs.ChooseLaws.{those_more, those_long}
use Rattle.numbers.specs.TableLaws.{map_snoc}
use Rattle.numbers.specs.UpTo.{up_to}
use Rattle.network.specs.declared.switch.Switch.{Switch}
use Rattle.network.specs.declared.topology.PowerNetwork.{PowerNetwork}
use Rattle.network.specs.Records.{Network, no_switch, records_of}
use Rattle.network.specs.Answers.{accepted}
use Rattle.network.specs.Check.{check_records}
use Rattle.network.specs.InsideLaws.{check_inside}
use Rattle.states.specs.Switches.{State, byte, branch_of, switch}
use Rattle.states.specs.Listed.{switches_listed, switch_at_lem, switch_small}
use Rattle.states.specs.OpenCounts.{open_at, open_count, two_open}
use Rattle.printing.specs.declared.writer.SwitchIds.{SwitchIds}
use Rattle.printing.specs.Stored.{ids_in, no_ids, no_entry}
use Rattle.plan.specs.Plan.{open_switches, id_of}

-- the switch that a loop reads is the listed one
pub read : (n : PowerNetwork) (m i : ℕ) → m ≡ n.switch_count → i < length (take m n.switches) → switch (records_of n) i ≡ get_or (take m n.switches) i no_switch
read n m i e h =
    let l : i < m = omega (arith, length-take m n.switches) in
    switch_at_lem n i (omega arith) ∙ sym (get_or-take m n.switches i no_switch l)

-- these are the ids, with their number
pub record HasIds (w : SwitchIds) (ids : List ℕ) : Type 0 where
  pub counted : w.count ≡ length ids
  pub all : ids_in w ≡ ids

module _ (n : PowerNetwork) (s : State) where
  abbrev N : Network
  N = records_of n

  -- those on branch k of the first i switches
  abbrev first : ℕ → ℕ → List ℕ
  first k i = map (id_of N) (those (open_at N s k) i)

  pub record Noted (ids : List SwitchIds) (i : ℕ) : Type 0 where
    pub within : i ≤ n.switch_count
    pub sized : length ids ≡ 512
    each : (k : ℕ) → k < 512 → HasIds (get_or ids k no_entry) (first k i)

  pub none_noted : Noted (replicate 512 no_ids) 0
  unfolding those up_to
  none_noted = record {
    within = omega arith;
    sized = length-replicate 512 no_ids;
    each = λ k l. rw (get_or-replicate 512 k no_ids no_entry l) (record { counted = refl; all = refl });
  }

  pub all_noted : {ids : List SwitchIds} {i : ℕ} → Noted ids i → n.switch_count ≤ i → (k : ℕ) → k < 512 → ids_in (get_or ids k no_entry) ≡ map (id_of N) (open_switches N s k)
  unfolding open_switches
  all_noted {ids} {i} t h k l = let e : i ≡ n.switch_count = omega (arith, t.within) in (t.each k l).all ∙ rw (e, switches_listed n)

  module _ {ids : List SwitchIds} {i : ℕ} (t : Noted ids i) (h : i < n.switch_count) where
    more : (k : ℕ) → those (open_at N s k) (i + 1) ≡ cond (open_at N s k i) (those (open_at N s k) i ++ (i ∷ [])) (those (open_at N s k) i)
    more k = rw (add-one i) (those_more (open_at N s k) i)

    passed_by : (k : ℕ) → open_at N s k i ≡ false → first k (i + 1) ≡ first k i
    passed_by k e = rw (more k, e)

    taken : (k : ℕ) → open_at N s k i ≡ true → first k (i + 1) ≡ first k i ++ (id_of N i ∷ [])
    taken k e = rw (more k, e) (map_snoc (id_of N) (those (open_at N s k) i) i)

    -- the switch is closed
    pub closed_noted : byte s i ≢ 1 → Noted ids (i + 1)
    closed_noted d = record {
      within = omega arith;
      sized = t.sized;
      each = λ k l. rw (passed_by k (rw (ne_eqb (byte s i) 1 d, and-false))) (t.each k l);
    }

    -- the switch is open
    module _ (w : Switch) (same : switch N i ≡ w) (stands : byte s i ≡ 1) where
      branch : branch_of N i ≡ w.branch_idx
      branch = ap (λ (x : Switch). x.branch_idx) same

      own : id_of N i ≡ w.id
      own = ap (λ (x : Switch). x.id) same

      on_own : (k : ℕ) → k ≡ w.branch_idx → open_at N s k i ≡ true
      on_own k e = rw (eq-eqb (branch_of N i) k (branch ∙ sym e), eq-eqb (byte s i) 1 stands)

      on_other : (k : ℕ) → k ≢ w.branch_idx → open_at N s k i ≡ false
      on_other k d = rw (ne_eqb (branch_of N i) k (λ e. d (sym e ∙ branch)))

      module _ (ok : check_records N ≡ accepted tt) {on : ℕ} (there : on ≡ w.branch_idx) where
        pub small : on < 512
        small = rw (there, ← branch, ap (λ (x : Switch). x.branch_idx) (switch_at_lem n i h)) (switch_small n ok i h)

        -- there is room for its id: of two on a branch at most one stands before it
        pub room : (get_or ids on no_entry).count < 2
        room =
            let before = counted_before (open_at N s on) (length N.switches) i (omega (arith, switches_listed n)) (on_own on there) in
            let two : count (open_at N s on) (length N.switches) ≤ 2 = unfold open_count in two_open N ((check_inside N).0 ok) s on in
            omega (arith, (t.each on small).counted, length-map (those (open_at N s on) i) (id_of N), those_long (open_at N s on) i, before, two)

        pub open_noted : (r : SwitchIds) → r.count ≡ (get_or ids on no_entry).count + 1 → ids_in r ≡ ids_in (get_or ids on no_entry) ++ (w.id ∷ []) → Noted (set ids on r) (i + 1)
        open_noted r c e = record {
          within = omega arith;
          sized = length-set ids on r ∙ t.sized;
          each = λ k l. go k l (ℕ_discrete k on);
        }
          where
            go : (k : ℕ) → k < 512 → Dec (k ≡ on) → HasIds (get_or (set ids on r) k no_entry) (first k (i + 1))
            go k l (yes q) =
                let was = t.each on small in
                rw (q, get_or-set_same ids on r no_entry (omega (arith, t.sized)), taken on (on_own on there))
                (record { counted = c ∙ rw length-append (omega (arith, was.counted)); all = e ∙ rw (was.all, own) })
            go k l (no d) = rw (get_or-set_other ids on k r no_entry d, passed_by k (on_other k (λ q. d (q ∙ sym there)))) (t.each k l)
