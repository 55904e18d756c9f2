-- A tie's trial by the rows is document 01's: the swap with the section of a branch, the first one along the tie's loop, and what the section that the code finds says of it.
use Rattle.std.proofs.Math.Path.{◌≡◌, refl, ap, subst, fun_ext}
use Rattle.std.proofs.Common.{sym, ◌∙◌, arith}
use Rattle.std.specs.Prelude.{Bool, ◌&&◌, List, ℕ, ◌≤◌, ◌<◌, eqb, Float, length, set}
use Rattle.std.proofs.Math.Bool.{true, false, cond}
use Rattle.std.specs.Prelude.{Option, None, Some}
use Rattle.std.proofs.Math.ListN.{get_or}
use Rattle.numbers.specs.TableLaws.{any_default}
use Rattle.numbers.specs.Choose.{first_some}
use Rattle.numbers.specs.IfSome.{IfSome}
use Rattle.states.specs.declared.configuration.NetworkConfiguration.{NetworkConfiguration}
use Rattle.states.specs.Listed.{few_switches, switches_listed}
use Rattle.states.specs.OpenCounts.{one_open}
use Rattle.states.specs.Switches.{State, byte, branch_of, size, swapped}
use Rattle.network.specs.declared.switch.Switch.{Switch}
use Rattle.network.specs.declared.topology.PowerNetwork.{PowerNetwork}
use Rattle.network.specs.ReadLaws.{past_branch}
use Rattle.network.specs.Records.{Network, no_switch, records_of}
use Rattle.network.specs.Answers.{accepted}
use Rattle.network.specs.Check.{check_records}
use Rattle.graph.specs.declared.rows.Graph.{Graph}
use Rattle.graph.specs.Rows.{row_ends_path}
use Rattle.feeders.specs.Feeder.{radial_in}
use Rattle.feeders.specs.SupplyLaws.{network_records}
use Rattle.losses.specs.Loss.{loss_in}
use Rattle.losses.specs.LiveLoss.{live_loss}
use Rattle.feeders.specs.FeederRows.{feeder_graph, live_flags}
use Rattle.searches.specs.States.{state_of}
use Rattle.searches.specs.Given.{Given, Held}
use Rattle.searches.specs.StartLaws.{start_given}
use Rattle.searches.specs.StateRows.{flags_loss}
use Rattle.searches.specs.SwitchReads.{on_branch}
use Rattle.searches.specs.StateLaws.{byte_at, flags_listed, held_bytes, swapped_held}
use Rattle.exchange.specs.declared.exchange.Round.{Round}
use Rattle.exchange.specs.ExchangeLaws.{Swap, trial_swaps}
use Rattle.exchange.specs.Exchange.{seen, section_of, swap_with, trial}
use Rattle.exchange.specs.ExchangeValues.{sections_of, row_swap, row_swap_with, row_trial, swap_at, trial_of}
use Rattle.exchange.specs.ExchangeSwaps.{section_below, section_here, few, listed, judged}
use Rattle.exchange.specs.ExchangeTrials.{InRound, SwitchAt, Tried, switch_read_lem, tried_flags, first_swapped, loop_by_rows, trial_below, still_open}

module _ (n : PowerNetwork) (ok : check_records (records_of n) ≡ accepted tt) (c : NetworkConfiguration) (held : Held n c) (tie : ℕ) (l : tie < n.switch_count) (still : byte (state_of n c) tie ≡ 1)
    (sized : length n.buses ≡ 256) (g : Graph) (a : g ≡ feeder_graph n) (sections : List (Option ℕ)) (q : sections ≡ sections_of (records_of n)) (live : List Bool) (b : live ≡ live_flags (records_of n) (state_of n c)) where
  abbrev N : Network
  N = records_of n

  abbrev s : State
  s = state_of n c

  abbrev on : ℕ
  on = branch_of N tie

  abbrev swap_row : ℕ → Option ℕ
  swap_row = row_swap g sections c.switches (set live on (one_open N s on))

  -- the swap with the section of branch k
  pub swap_by_row : (k : ℕ) → swap_with N s tie (section_of N k) ≡ swap_at s tie (swap_row k)
  unfolding swap_with swap_at row_swap row_swap_with
  swap_by_row k = rw (listed n ok c held tie l still sized g a sections q live b k) (go (section_of N k) (section_below N k) (section_here N k))
    where
      same : (section : ℕ) (t : Bool) → cond t (Some (swapped s tie section)) None ≡ swap_at s tie (cond t (Some section) None)
      same section true = refl
      same section false = refl

      go : (found : Option ℕ) → IfSome (λ i. i < size N) found → IfSome (λ i. branch_of N i ≡ k) found
          → swap_with N s tie found ≡ swap_at s tie (row_swap_with g c.switches (set live on (one_open N s on)) k found)
      go None h p = refl
      go (Some section) h p =
          let inside : section < length c.switches = omega (arith, switches_listed n, few n ok c held tie l still, held_bytes n c held) in
          rw (any_default c.switches section 1 0 inside, ← byte_at n c section (omega (arith, switches_listed n)), judged n ok c held tie l still sized g a sections q live b k section h p)
          (same section (eqb (byte s section) 0 && radial_in N (swapped s tie section)))

-- the trial of a tie
module _ (n : PowerNetwork) (ok : check_records (records_of n) ≡ accepted tt) (sized : length n.buses ≡ 256) (c : NetworkConfiguration) (held : Held n c) (tie : ℕ) (h : tie < n.switch_count)
    (still : byte (state_of n c) tie ≡ 1) (g : Graph) (a : g ≡ feeder_graph n) (sections : List (Option ℕ)) (q : sections ≡ sections_of (records_of n)) (live : List Bool) (b : live ≡ live_flags (records_of n) (state_of n c)) where
  abbrev tie_row : Option ℕ
  tie_row = row_trial g sections c.switches live (branch_of (records_of n) tie) (one_open (records_of n) (state_of n c) (branch_of (records_of n) tie))

  pub trial_by_rows : trial (records_of n) (state_of n c) tie ≡ swap_at (state_of n c) tie tie_row
  unfolding trial row_trial
  trial_by_rows =
      let path = row_ends_path g live (branch_of (records_of n) tie) in
      ap (first_some (λ k. swap_with (records_of n) (state_of n c) tie (section_of (records_of n) k))) (sym (loop_by_rows n ok sized c held tie h still g a sections q live b))
      ∙ ap (λ f. first_some f path) (fun_ext (swap_by_row n ok c held tie h still sized g a sections q live b))
      ∙ first_swapped (state_of n c) tie _ path

-- what the section that the code finds for a tie says
module _ (n : PowerNetwork) (ok : check_records (records_of n) ≡ accepted tt) (c : NetworkConfiguration) (held : Held n c) (tie : ℕ) (sw : Switch) (made-live : Bool) (at : SwitchAt n (state_of n c) tie sw made-live)
    (see : seen (records_of n) (state_of n c) tie ≡ true) (live : List Bool) (b : live ≡ live_flags (records_of n) (state_of n c)) where
  pub tie_tried : length n.buses ≡ 256 → (g : Graph) → g ≡ feeder_graph n → (sections : List (Option ℕ)) → sections ≡ sections_of (records_of n) → (section : Option ℕ)
      → section ≡ row_trial g sections c.switches live sw.branch_idx made-live → Tried n c tie section
  unfolding swap_at
  tie_tried sized g a sections q section e =
      let still = still_open n ok c held tie sw made-live at see live b in
      let row = tie_row n ok sized c held tie at.below still g a sections q live b in
      let tried = trial_by_rows n ok sized c held tie at.below still g a sections q live b in
      let listed : IfSome (λ i. i < n.switch_count) row = trial_below n ok sized c held tie at.below still g a sections q live b in
      let found : section ≡ row = e ∙ ap (λ w. row_trial g sections c.switches live w.branch_idx made-live) (sym at.here)
      ∙ ap (λ t. row_trial g sections c.switches live (branch_of (records_of n) tie) t) (sym at.flag) in
      record {
        absent = λ l. tried ∙ ap (swap_at (state_of n c) tie) (sym found ∙ l);
        found = λ l. tried ∙ ap (swap_at (state_of n c) tie) (sym found ∙ l);
        below = λ l. some_below row listed (sym found ∙ l);
      }
    where
      some_below : (found : Option ℕ) → IfSome (λ i. i < n.switch_count) found → {section : ℕ} → found ≡ Some section → section < n.switch_count
      some_below found h e = rw e at h

-- ---- a switch that a round looks at
module _ (r : Round) (w : InRound r) where
  abbrev net : PowerNetwork
  net = r.network.now

  abbrev began : NetworkConfiguration
  began = r.current.now.configuration

  abbrev state : State
  state = state_of net began

  passed : check_records (records_of net) ≡ accepted tt
  passed = network_records (records_of net) w.started.0

  few_listed : net.switch_count ≤ 512
  few_listed = few_switches net passed

  given : Given net r.start.now.graph r.start.now.loads
  given = start_given net w.buses w.started.0 w.started.1

  flags : r.live ≡ live_flags (records_of net) state
  flags = w.live ∙ flags_listed net began w.held few_listed

  module _ (i : ℕ) (l : i < net.switch_count) where
    abbrev looked_at : Switch
    looked_at = get_or net.switches i no_switch

    pub has_byte : i < 512
    has_byte = omega (arith, few_listed)

    pub has_flag : looked_at.branch_idx < 512
    has_flag = on_branch net passed i l looked_at refl

    module _ (sees : seen (records_of net) state i ≡ true) (on : ℕ) (p : on ≡ looked_at.branch_idx) (made-live : Bool) (m : made-live ≡ ((get_or net.branches on past_branch).status && eqb (get_or r.counts on 0) 1))
        (section : Option ℕ) (q : section ≡ row_trial r.start.now.graph r.sections.now began.switches r.live looked_at.branch_idx made-live) where
      here : SwitchAt net state i looked_at made-live
      here = switch_read_lem net passed w.branches began r.counts w.counts i l on p made-live m

      tried : Tried net began i section
      tried = tie_tried net passed began w.held i looked_at made-live here sees r.live flags w.buses r.start.now.graph given.1 r.sections.now w.listed section q

      pub none_found : section ≡ None → None ≡ trial_of (records_of net) (trial (records_of net) state i)
      unfolding trial_of
      none_found h = rw (tried.absent h)

      module _ {found : ℕ} (h : section ≡ Some found) (at : ℕ) (a : at ≡ found) where
        pub found_byte : at < 512
        found_byte = omega (arith, a, tried.below h, few_listed)

        pub found_flag : (get_or net.switches at no_switch).branch_idx < 512
        found_flag = on_branch net passed at (omega (arith, tried.below h)) _ refl

        pub swap_found : (opened : ℕ) → opened ≡ (get_or net.switches at no_switch).branch_idx → (live : List Bool) → live ≡ set (set r.live on made-live) opened false
            → (loss : Float) → loss ≡ live_loss r.start.now.graph r.start.now.loads net.branches net.base_mva live
            → (c : NetworkConfiguration) → c ≡ record { switches = set (set began.switches i 0) at 1 }
            → Some (record { configuration = c; loss = loss }) ≡ trial_of (records_of net) (trial (records_of net) state i)
        unfolding trial_of
        swap_found opened o live v loss s c d =
            let below : at < net.switch_count = omega (arith, tried.below h) in
            let so : trial (records_of net) state i ≡ Some (swapped state i at) = tried.found h ∙ ap (λ k. Some (swapped state i k)) (sym a) in
            let swap : Swap (records_of net) state (swapped state i at) =
            subst (IfSome (Swap (records_of net) state)) so (trial_swaps (records_of net) state i (omega (arith, l, switches_listed net)) sees) in
            let loses : loss ≡ loss_in (records_of net) (swapped state i at) =
            flags_loss net w.buses given (swapped state i at) (λ _ _. swap.radial)
            (v ∙ tried_flags net passed began w.held i looked_at made-live here sees r.live flags at below on opened p o) loss s in
            rw (so, loses, d ∙ swapped_held net began i at l below w.held few_listed)
