-- The pairs as a loop over the switches makes them: the first i switches are done with, the pairs of the others are still to come, and lead from
-- the branches flagged now to the wanted ones.
use Rattle.std.specs.Prelude.{◌≡◌, refl, Bool, true, false, ◌&&◌, ℕ, ◌+◌, ◌≤◌, ◌<◌, eqb, length, get_or, set}
use Rattle.std.proofs.Common.{sym, ap, ◌∙◌, arith, append_assoc, length-set, length-append, get_or-set_same, get_or-set_other}
use mathlib.Core.Path.{fun_ext}
use mathlib.Core.List.Memᴰ
use mathlib.Core.List.{List, [], ◌∷◌, ◌++◌, map, append-nil}
use Rattle.std.proofs.Math.Decide.{ℕ_discrete}
use Rattle.std.proofs.Math.ListN.{get_or-map}
use Rattle.std.proofs.lemmas.List.{length-map}
use borrow.Author.Tests.{eq-eqb, ne_eqb, eqb-true}
use Rattle.numbers.specs.Choose.{index_of}
use Rattle.numbers.specs.ChooseLaws.{index_early}
use Rattle.numbers.specs.TableLaws.{length_table, map_snoc}
use Rattle.numbers.specs.Tests.{both, same_test}
use Rattle.network.specs.declared.switch.Switch.{Switch}
use Rattle.network.specs.declared.topology.PowerNetwork.{PowerNetwork}
use Rattle.network.specs.Records.{Network, records_of}
use Rattle.network.specs.Answers.{accepted}
use Rattle.network.specs.Limits as limits
use Rattle.network.specs.Records.{no_switch}
use Rattle.network.specs.Check.{check_records}
use Rattle.states.specs.Live.{live}
use Rattle.graph.specs.declared.rows.Graph.{Graph}
use Rattle.feeders.specs.SupplyLaws.{network_records}
use Rattle.feeders.specs.Feeder.{feeder}
use Rattle.feeders.specs.FeederLaws.{feeder_few}
use Rattle.graph.specs.Rows.{flag}
use Rattle.feeders.specs.FeederRows.{feeder_graph, live_flags}
use Rattle.feeders.specs.FeederRowLaws.{flags_live}
use Rattle.plan.specs.declared.pairs.Pair as code
use Rattle.states.specs.Switches.{State, branch_of, switch}
use Rattle.states.specs.Listed.{switches_listed, few_switches}
use Rattle.changes.specs.declared.change.Change.{Change}
use Rattle.changes.specs.Change.{only_in}
use Rattle.openings.specs.Opening.{row_opening}
use Rattle.printing.specs.declared.writer.SwitchIds.{SwitchIds}
use Rattle.printing.specs.Stored.{ids_in, no_entry}
use Rattle.plan.specs.Plan.{Pair, ranks, closings, opening, exchanged, pairs_from, pairs, open_switches, id_of, moves_of, plan}
use Rattle.plan.specs.RowOpening.{row_opening_lem}
use Rattle.plan.specs.Stored.{switches_in, moves_in}
use Rattle.changes.specs.Onward.{onward, of_onward, onward_all, onward_none, onward_yes, onward_no}
use Rattle.plan.specs.Exchanges.{opened_live}
use Rattle.plan.specs.Missing.{only_so}
use Rattle.plan.specs.Plannable.{Regular}
use Rattle.plan.specs.Stages.{Leads, next}
use Rattle.plan.specs.Moving.{closed_in, of_closed, in_closed}
use Rattle.plan.specs.Accepted.{plan_accepted, accepted_plannable}
use Rattle.plan.specs.Planner.{pairs_lead}
use Rattle.changes.specs.Passing.{Passed, inside, flag_live}

-- the flags after a pair
pub flags_exchanged : (flags : List Bool) (q : Pair) → q.closed < length flags → q.opened < length flags
    → flag (set (set flags q.closed true) q.opened false) ≡ exchanged (flag flags) q
unfolding exchanged
flags_exchanged flags q a b = fun_ext (λ k. go k (ℕ_discrete k q.opened) (ℕ_discrete k q.closed))
  where
    go : (k : ℕ) → Dec (k ≡ q.opened) → Dec (k ≡ q.closed) → flag (set (set flags q.closed true) q.opened false) k ≡ exchanged (flag flags) q k
    go k (yes e) d =
        rw (e, eq-eqb q.opened q.opened refl)
        (get_or-set_same (set flags q.closed true) q.opened false false (rw length-set b))
    go k (no n) (yes e) =
        rw (ne_eqb k q.opened n, eq-eqb k q.closed e)
        (get_or-set_other (set flags q.closed true) q.opened k false false n ∙ rw e (get_or-set_same flags q.closed true false a))
    go k (no n) (no m) =
        rw (ne_eqb k q.opened n, ne_eqb k q.closed m)
        (get_or-set_other (set flags q.closed true) q.opened k false false n ∙ get_or-set_other flags q.closed k true false m)

-- the first pair of those that lead on
leads_on : {N : Network} {P W E : ℕ → Bool} {q : Pair} {Q : List Pair} → Leads N P W E (q ∷ Q)
    → (q.closed < (feeder N).branches) × (q.opened < (feeder N).branches) × Leads N P W (exchanged E q) Q
leads_on (next r l) = (r.fits.listed, (opened_live r.fits).0, l)

-- the pairs close the branches that they were made for
made_for : (N : Network) (wanted : State) (E : ℕ → Bool) (cs : List ℕ) → closed_in (pairs_from N wanted E cs) ≡ cs
unfolding pairs_from
made_for N wanted E [] = refl
made_for N wanted E (e ∷ es) = ap (λ (l : List ℕ). e ∷ l) (made_for N wanted (exchanged E (record { closed = e; opened = opening N wanted E e })) es)

module _ (n : PowerNetwork) (present wanted : State) where
  abbrev N : Network
  N = records_of n

  -- the switch ranks, and its branch is live in the wanted state only
  closes : ℕ → Bool
  closes i = ranks N i && only_in (live N wanted) (live N present) (branch_of N i)

  -- what is noted of each branch are the ids of its switches that are open in the state
  abbrev pub Ids : State → List SwitchIds → Type 0
  Ids s ids = (k : ℕ) → k < 512 → ids_in (get_or ids k no_entry) ≡ map (id_of N) (open_switches N s k)

  -- the pairs of the switches from i on, from these flags on
  left : List Bool → ℕ → List Pair
  left flags i = pairs_from N wanted (flag flags) (map (branch_of N) (onward closes n.switch_count i))

  pub record Made (flags : List Bool) (made : List code.Pair) (i : ℕ) : Type 0 where
    pub within : i ≤ n.switch_count
    pub few : length made ≤ i
    pub sized : length flags ≡ 512
    leads : Leads N (live N present) (live N wanted) (flag flags) (left flags i)
    whole : plan N present wanted ≡ moves_in made ++ map (moves_of N present wanted) (left flags i)

  module _ {change : Change} (given : Passed n change present wanted) where
    pub passed : check_records N ≡ accepted tt
    passed = network_records N ((plan_accepted N present wanted).0 given.ok).0

    -- a byte for each switch in both states
    pub bytes : (length present ≡ n.switch_count) × (length wanted ≡ n.switch_count)
    bytes =
        let told = (plan_accepted N present wanted).0 given.ok in
        (told.1.long ∙ switches_listed n, told.2.long ∙ switches_listed n)

    pub wanted_512 : length change.wanted_live ≡ 512
    wanted_512 = ap length given.wanted_live ∙ length_table _ 512

    all_left : pairs N present wanted ≡ left (live_flags N present) 0
    unfolding pairs closings left closes
    all_left = rw (flags_live N present (inside n passed).counts.1, switches_listed n, onward_all closes n.switch_count)

    abbrev before : List Bool
    before = change.present_live

    abbrev after : List Bool
    after = change.wanted_live

    pub none_made : Made before [] 0
    unfolding plan
    none_made = record {
      within = omega arith;
      few = omega arith;
      sized = ap length given.present_live ∙ length_table _ 512;
      leads = rw (given.present_live, flags_live N present (inside n passed).counts.1, ← all_left) (pairs_lead N present wanted (accepted_plannable N present wanted given.ok).joined);
      whole = rw (given.present_live, ← all_left);
    }

    module _ {flags : List Bool} {made : List code.Pair} (i : ℕ) (m : Made flags made i) where
      pub all_made : n.switch_count ≤ i → moves_in made ≡ plan N present wanted
      unfolding left pairs_from
      all_made h = sym (m.whole ∙ rw (onward_none closes n.switch_count i h, append-nil))

      -- the switch as the code reads it, on branch k
      module _ (h : i < n.switch_count) {w : Switch} (same : switch N i ≡ w) where
        abbrev k : ℕ
        k = w.branch_idx

        on_k : branch_of N i ≡ k
        on_k = ap (λ (s : Switch). s.branch_idx) same

        wanted_live : live N wanted (branch_of N i) ≡ flag after k
        wanted_live = rw (on_k, given.wanted_live) (sym (flag_live n passed wanted k))

        passed_by : closes i ≡ false → Made flags made (i + 1)
        unfolding left
        passed_by e =
            let same : left flags i ≡ left flags (i + 1) = rw (onward_no closes n.switch_count i h e) in
            record {
              within = omega arith;
              few = omega (arith, m.few);
              sized = m.sized;
              leads = rw (← same) m.leads;
              whole = m.whole ∙ rw same;
            }

        regular : Regular N
        regular = (accepted_plannable N present wanted given.ok).joined.regular

        listed : i < length N.switches
        listed = omega (arith, switches_listed n)

        -- the branches that the pairs still to come close
        to_come : closed_in (left flags i) ≡ map (branch_of N) (onward closes n.switch_count i)
        unfolding left
        to_come = made_for N wanted (flag flags) (map (branch_of N) (onward closes n.switch_count i))

        -- one of them is closed for its first switch: this one, where it is of this branch
        only_here : (j : ℕ) → i ≤ j → closes j ≡ true → branch_of N j ≡ branch_of N i → closes i ≡ true
        unfolding closes ranks
        only_here j later t e =
            let first : index_of (branch_of N j) (map limits.on N.switches) ≡ j = eqb-true _ _ (both (eqb (index_of (branch_of N j) (map limits.on N.switches)) j) _ t).0 in
            let early = index_early (branch_of N i) (map limits.on N.switches) i (omega (arith, length-map N.switches limits.on, listed)) (get_or-map limits.on N.switches i no_switch) in
            let same : j ≡ i = omega (arith, ap (λ (k : ℕ). index_of k (map limits.on N.switches)) e) in
            rw same at t

        will_close : closes i ≡ true → only_in (live N wanted) (flag flags) (branch_of N i) ≡ true
        unfolding left pairs_from
        will_close t =
            let (p, w, d) = of_closed m.leads (branch_of N i) (rw to_come (rw (onward_yes closes n.switch_count i h t) (Memᴰ.head refl))) in
            rw (w, d)

        closes_here : only_in (live N wanted) (flag flags) (branch_of N i) ≡ true → closes i ≡ true
        closes_here t =
            let (w, d) = only_so (live N wanted) (flag flags) (branch_of N i) t in
            let z = in_closed m.leads (branch_of N i) (regular.placed (record { listed = listed; here = refl })) w d in
            let (j, y, e) = Memᴰ.of_map (branch_of N) _ (rw to_come at z) in
            let (later, c) = of_onward closes n.switch_count i j y in
            only_here j later c e

        -- the code's test
        module _ {b : Bool} (x : b ≡ only_in (flag after) (flag flags) k) where
          tested : closes i ≡ b
          tested = same_test _ _ will_close closes_here ∙ rw (wanted_live, x, on_k)

          pub not_closed : b ≡ false → Made flags made (i + 1)
          not_closed e = passed_by (tested ∙ e)

        -- it is wanted and not live yet: a pair closes it
        module _ {b : Bool} (x : b ≡ only_in (flag after) (flag flags) k) (t : b ≡ true) (buses : length n.buses ≡ 256) where
          abbrev graph : Graph
          graph = change.graph

          abbrev f : ℕ
          f = opening N wanted (flag flags) k

          abbrev q : Pair
          q = record { closed = k; opened = f }

          abbrev rest : (ℕ → Bool) → List Pair
          rest E = pairs_from N wanted E (map (branch_of N) (onward closes n.switch_count (i + 1)))

          first_left : left flags i ≡ q ∷ rest (exchanged (flag flags) q)
          unfolding left pairs_from
          first_left = rw (onward_yes closes n.switch_count i h (tested x ∙ t), on_k)

          on : (k < (feeder N).branches) × (f < (feeder N).branches) × Leads N (live N present) (live N wanted) (exchanged (flag flags) q) (rest (exchanged (flag flags) q))
          on = leads_on (rw first_left at m.leads)

          k_small : k < 512
          k_small = omega (arith, on.0, feeder_few N (inside n passed))

          f_small : f < 512
          f_small = omega (arith, on.1, feeder_few N (inside n passed))

          opens : row_opening graph flags after k ≡ f
          opens =
              ap (λ (G : Graph). row_opening G flags after k) given.graph
              ∙ ap (λ (l : List Bool). row_opening (feeder_graph n) flags l k) given.wanted_live
              ∙ row_opening_lem n buses passed flags (omega (arith, m.sized)) wanted k on.0

          module _ {gone : ℕ} (y : gone ≡ row_opening graph flags after k) where
            gone_small : gone < 512
            gone_small = rw (y ∙ opens) f_small

            -- what making a pair asks for
            pub pair_room : (k < 512) × (gone < 512) × (length made < 512)
            pair_room = (k_small, gone_small, omega (arith, m.few, few_switches n passed))

            pub one_made : (closing opening : List SwitchIds) → Ids present closing → Ids wanted opening → {flags' : List Bool} → flags' ≡ set (set flags k true) gone false
                → Made flags' (made ++ (record { closes = get_or closing k no_entry; opens = get_or opening gone no_entry } ∷ [])) (i + 1)
            unfolding left
            one_made closing opening c o {flags'} z =
                let pair : code.Pair = record { closes = get_or closing k no_entry; opens = get_or opening gone no_entry } in
                let s : flags' ≡ set (set flags k true) f false = z ∙ ap (λ (j : ℕ). set (set flags k true) j false) (y ∙ opens) in
                let u : k < length flags = omega (arith, m.sized, k_small) in
                let v : f < length flags = omega (arith, m.sized, f_small) in
                let same : flag flags' ≡ exchanged (flag flags) q = ap (λ (l : List Bool). flag l) s ∙ flags_exchanged flags q u v in
                let moved : moves_in (made ++ (pair ∷ [])) ≡ moves_in made ++ (moves_of N present wanted q ∷ []) = map_snoc switches_in made pair ∙ rw (y ∙ opens, c k k_small, o f f_small) refl in
                record {
                  within = omega arith;
                  few = omega (arith, length-append made (pair ∷ []), m.few);
                  sized = ap length s ∙ simp length-set m.sized;
                  leads = rw same on.2;
                  whole = m.whole ∙ (rw (first_left, same, moved) (sym (append_assoc (moves_in made) (moves_of N present wanted q ∷ []) (map (moves_of N present wanted) (rest (exchanged (flag flags) q))))));
                }
