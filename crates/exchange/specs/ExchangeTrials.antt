-- What the code holds of a trial: the first swap along a path, the loop of a tie by the rows, and the last improving trial of a round.
use Rattle.std.proofs.Math.Path.{◌≡◌, refl, ap}
use Rattle.std.proofs.Common.{sym, ◌∙◌, arith}
use Rattle.std.specs.Prelude.{Bool, cond, ◌&&◌, List, [], ◌∷◌, ℕ, ◌+◌, ◌<◌, eqb, Float, length, drop, set}
use Rattle.std.proofs.Math.Bool.{true, false}
use Rattle.std.specs.Prelude.{Option, None, Some}
use Rattle.std.specs.Option.{is_some}
use Rattle.std.specs.Float.Ieee.{binary64, sub, lt}
use Rattle.std.proofs.Math.ListN.{get_or}
use borrow.Author.Tests.{eqb-true}
use Rattle.numbers.specs.Constants.{billionth}
use Rattle.numbers.specs.Choose.{first_some, last_some, ◌or_else◌}
use Rattle.numbers.specs.LastLaws.{last_more}
use Rattle.numbers.specs.Tests.{both}
use Rattle.numbers.specs.UpTo.{table}
use Rattle.states.specs.declared.configuration.NetworkConfiguration.{NetworkConfiguration}
use Rattle.network.specs.declared.switch.Switch.{Switch}
use Rattle.network.specs.declared.topology.PowerNetwork.{PowerNetwork}
use Rattle.network.specs.Records.{Network, no_switch, records_of}
use Rattle.network.specs.Answers.{accepted}
use Rattle.network.specs.Check.{check_records}
use Rattle.states.specs.Configuration.{configuration_of}
use Rattle.network.specs.ReadLaws.{past_branch}
use Rattle.network.specs.InsideLaws.{check_inside}
use Rattle.network.specs.Positions.{on_a_branch}
use Rattle.graph.specs.declared.rows.Graph.{Graph}
use Rattle.graph.specs.Rows.{row_ends_path}
use Rattle.feeders.specs.Feeder.{feeder}
use Rattle.feeders.specs.FeederRows.{feeder_graph, live_flags}
use Rattle.feeders.specs.FeederRowLaws.{live_row_ends_path}
use Rattle.losses.specs.Loss.{loss_in}
use Rattle.states.specs.Live.{live}
use Rattle.states.specs.Switches.{State, byte, branch_of, operable, switch, is_tie, swapped}
use Rattle.states.specs.OpenCounts.{open_count, one_open}
use Rattle.exchange.specs.declared.exchange.Round.{Round}
use Rattle.exchange.specs.declared.exchange.Trial.{Trial}
use Rattle.searches.specs.States.{state_of}
use Rattle.searches.specs.Given.{Started, Held}
use Rattle.states.specs.Listed.{switches_listed, switch_at_lem}
use Rattle.searches.specs.StateLaws.{byte_at}
use Rattle.searches.specs.SwitchReads.{status_read, count_read}
use Rattle.exchange.specs.Exchange.{seen, loop_of, trial, improves, improved, improving}
use Rattle.numbers.specs.IfSome.{IfSome, first_some_holds}
use Rattle.exchange.specs.ExchangeValues.{sections_of, row_trial, swap_at, trial_of}
use Rattle.exchange.specs.ExchangeSwaps.{swapped_flags, row_below}
use Rattle.numbers.specs.FirstLaws.{first_next, first_found}

-- ---- the first swap along a path
module _ (f : ℕ → Option ℕ) (path : List ℕ) (i : ℕ) (found : Option ℕ) (e : found ≡ f (get_or path i 0)) (l : i < length path) (so_far : first_some f (drop i path) ≡ first_some f path) where
  pub along_next : is_some found ≡ false → first_some f (drop (i + 1) path) ≡ first_some f path
  along_next h = sym (first_next f path i l (sym e ∙ none found h)) ∙ so_far
    where
      none : (found : Option ℕ) → is_some found ≡ false → found ≡ None
      none None h = refl
      none (Some k) h = absurd (cc)

  pub along_found : is_some found ≡ true → found ≡ first_some f path
  along_found h = go found refl h
    where
      go : (o : Option ℕ) → found ≡ o → is_some o ≡ true → found ≡ first_some f path
      go None q h = absurd (cc)
      go (Some k) q h = q ∙ sym (first_found f path i k l (sym e ∙ q)) ∙ so_far

-- ---- the trial of a tie by the rows
pub first_swapped : (s : State) (tie : ℕ) (f : ℕ → Option ℕ) (l : List ℕ) → first_some (λ k. swap_at s tie (f k)) l ≡ swap_at s tie (first_some f l)
unfolding first_some ◌or_else◌ swap_at
first_swapped s tie f [] = refl
first_swapped s tie f (k ∷ l) = go (f k) (first_swapped s tie f l)
  where
    go : (found : Option ℕ) → first_some (λ k. swap_at s tie (f k)) l ≡ swap_at s tie (first_some f l) → (swap_at s tie found or_else first_some (λ k. swap_at s tie (f k)) l) ≡ swap_at s tie (found or_else first_some f l)
    go None ih = ih
    go (Some section) ih = refl

module _ (n : PowerNetwork) (ok : check_records (records_of n) ≡ accepted tt) (sized : length n.buses ≡ 256) (c : NetworkConfiguration) (held : Held n c) (tie : ℕ) (h : tie < n.switch_count)
    (still_open : byte (state_of n c) tie ≡ 1) (g : Graph) (a : g ≡ feeder_graph n) (sections : List (Option ℕ)) (q : sections ≡ sections_of (records_of n)) (live : List Bool) (b : live ≡ live_flags (records_of n) (state_of n c)) where
  abbrev N : Network
  N = records_of n

  abbrev on : ℕ
  on = branch_of N tie

  abbrev tie_row : Option ℕ
  tie_row = row_trial g sections c.switches live on (one_open N (state_of n c) on)

  pub loop_by_rows : row_ends_path g live on ≡ loop_of N (state_of n c) tie
  unfolding loop_of
  loop_by_rows =
      let listed : on < (feeder N).branches = unfold feeder in on_a_branch N ((check_inside N).0 ok) tie (omega (arith, switches_listed n)) in
      rw (a, b) (live_row_ends_path n sized ok (state_of n c) on listed)

  pub trial_below : IfSome (λ i. i < n.switch_count) tie_row
  unfolding row_trial
  trial_below = first_some_holds (λ i. i < n.switch_count) _ (row_below n ok c held tie h still_open sized g a sections q live b) _

-- w is switch i of the feeder, and made-live says whether closing it, where it is open, makes its branch live
pub record SwitchAt (n : PowerNetwork) (s : State) (i : ℕ) (w : Switch) (made-live : Bool) : Type 0 where
  pub below : i < n.switch_count
  pub here : switch (records_of n) i ≡ w
  pub flag : one_open (records_of n) s (branch_of (records_of n) i) ≡ made-live

-- what the code reads
pub switch_read_lem : (n : PowerNetwork) → check_records (records_of n) ≡ accepted tt → length n.branches ≡ 512 → (c : NetworkConfiguration) (counts : List ℕ)
    → counts ≡ table (open_count (records_of n) c.switches) 512 → (i : ℕ) → i < n.switch_count → (on : ℕ) → on ≡ (get_or n.switches i no_switch).branch_idx → (made-live : Bool)
    → made-live ≡ ((get_or n.branches on past_branch).status && eqb (get_or counts on 0) 1) → SwitchAt n (state_of n c) i (get_or n.switches i no_switch) made-live
unfolding one_open
switch_read_lem n ok sized c counts e i l on p made-live q =
    let status = status_read n ok i l _ refl sized on p in
    let open-now = count_read n ok i l _ refl c counts e on p in
    record { below = l; here = switch_at_lem n i l; flag = rw (status, open-now) (sym q) }

-- what the section that the code finds for a tie says
pub record Tried (n : PowerNetwork) (c : NetworkConfiguration) (tie : ℕ) (section : Option ℕ) : Type 0 where
  pub absent : section ≡ None → trial (records_of n) (state_of n c) tie ≡ None
  pub found : {i : ℕ} → section ≡ Some i → trial (records_of n) (state_of n c) tie ≡ Some (swapped (state_of n c) tie i)
  pub below : {i : ℕ} → section ≡ Some i → i < n.switch_count

module _ (n : PowerNetwork) (ok : check_records (records_of n) ≡ accepted tt) (c : NetworkConfiguration) (held : Held n c) (tie : ℕ) (sw : Switch) (made-live : Bool) (at : SwitchAt n (state_of n c) tie sw made-live)
    (see : seen (records_of n) (state_of n c) tie ≡ true) (live : List Bool) (b : live ≡ live_flags (records_of n) (state_of n c)) where
  pub still_open : byte (state_of n c) tie ≡ 1
  still_open = eqb-true _ _ (both (operable (records_of n) tie) _ (both (is_tie (records_of n) tie) _ see).1).1

  -- the flags after the swap
  pub tried_flags : (section : ℕ) → section < n.switch_count → (on opened : ℕ) → on ≡ sw.branch_idx → opened ≡ (get_or n.switches section no_switch).branch_idx
      → set (set live on made-live) opened false ≡ live_flags (records_of n) (swapped (state_of n c) tie section)
  tried_flags section l on opened e p =
      rw (b, e, p, ← switch_at_lem n section l, ← at.here, ← at.flag) (swapped_flags n ok c held tie at.below still_open section (omega (arith, switches_listed n)))

-- ---- a switch more in a round
pub seen_read : (n : PowerNetwork) (c : NetworkConfiguration) (i : ℕ) → i < n.switch_count → (b : Bool)
    → b ≡ ((get_or n.switches i no_switch).normally_open && ((get_or n.switches i no_switch).can_operate && eqb (get_or c.switches i 0) 1)) → seen (records_of n) (state_of n c) i ≡ b
seen_read n c i l b e =
    ap (λ w. w.normally_open && (w.can_operate && eqb (byte (state_of n c) i) 1)) (switch_at_lem n i l)
    ∙ ap (λ x. (get_or n.switches i no_switch).normally_open && ((get_or n.switches i no_switch).can_operate && eqb x 1)) (byte_at n c i l)
    ∙ sym e

-- whatever was found before it
module _ (N : Network) (s : State) (current : Float) (before : Option State) (last : Option Trial) (q : last ≡ trial_of N before) (i : ℕ) where
  pub see_unseen : seen N s i ≡ false → last ≡ trial_of N (improving N s current i or_else before)
  unfolding ◌or_else◌
  see_unseen f = rw f q

  module _ (t : seen N s i ≡ true) where
    pub see_none : trial N s i ≡ None → last ≡ trial_of N (improving N s current i or_else before)
    unfolding improved ◌or_else◌
    see_none e = rw (t, e) q

    pub see_tried : (u : State) → trial N s i ≡ Some u → (loss : Float) → loss ≡ loss_in N u → (d : NetworkConfiguration) → d ≡ configuration_of u
        → cond (lt loss (sub binary64 current billionth)) (Some (record { configuration = d; loss = loss })) last ≡ trial_of N (improving N s current i or_else before)
    unfolding improved improves trial_of ◌or_else◌
    see_tried u e loss l d p = rw (t, e, l, p) (go (lt (loss_in N u) (sub binary64 current billionth)))
      where
        go : (better : Bool) → cond better (Some (record { configuration = configuration_of u; loss = loss_in N u })) last ≡ trial_of N (cond better (Some u) None or_else before)
        go true = refl
        go false = q

-- the last of the first i switches
module _ (N : Network) (s : State) (current : Float) (i : ℕ) (last : Option Trial) (q : last ≡ trial_of N (last_some (improving N s current) i)) where
  abbrev so_far : Option State
  so_far = last_some (improving N s current) i

  more : {next : Option Trial} → next ≡ trial_of N (improving N s current i or_else so_far) → next ≡ trial_of N (last_some (improving N s current) (i + 1))
  more h = h ∙ ap (trial_of N) (sym (last_more (improving N s current) i))

  pub none_seen : seen N s i ≡ false → last ≡ trial_of N (last_some (improving N s current) (i + 1))
  none_seen f = more (see_unseen N s current so_far last q i f)

  module _ (sees : seen N s i ≡ true) (tried : Option Trial) (e : tried ≡ trial_of N (trial N s i)) where
    pub none_tried : tried ≡ None → last ≡ trial_of N (last_some (improving N s current) (i + 1))
    unfolding trial_of
    none_tried h = go (trial N s i) refl (sym e ∙ h)
      where
        go : (found : Option State) → trial N s i ≡ found → trial_of N found ≡ None → last ≡ trial_of N (last_some (improving N s current) (i + 1))
        go None f g = more (see_none N s current so_far last q i sees f)
        go (Some u) f g = absurd (cc)

    module _ {t : Trial} (h : tried ≡ Some t) where
      tried_it : cond (lt t.loss (sub binary64 current billionth)) (Some t) last ≡ trial_of N (last_some (improving N s current) (i + 1))
      unfolding trial_of
      tried_it = go (trial N s i) refl (sym e ∙ h)
        where
          go : (found : Option State) → trial N s i ≡ found → trial_of N found ≡ Some t → cond (lt t.loss (sub binary64 current billionth)) (Some t) last ≡ trial_of N (last_some (improving N s current) (i + 1))
          go None f g = absurd (cc)
          go (Some u) f g =
              let same : record { configuration = configuration_of u; loss = loss_in N u } ≡ t = cc in
              more (see_tried N s current so_far last q i sees u f t.loss (sym (ap (λ (w : Trial). w.loss) same)) t.configuration (sym (ap (λ (w : Trial). w.configuration) same)))

      pub better_tried : lt t.loss (sub binary64 current billionth) ≡ true → Some t ≡ trial_of N (last_some (improving N s current) (i + 1))
      better_tried b = rw b at tried_it

      pub other_tried : lt t.loss (sub binary64 current billionth) ≡ false → last ≡ trial_of N (last_some (improving N s current) (i + 1))
      other_tried b = rw b at tried_it

-- what a round lends to its trials is of its network, its start and the state with which it began
pub record InRound (r : Round) : Type 0 where
  pub started : Started r.network.now r.start.now
  pub buses : length r.network.now.buses ≡ 256
  pub branches : length r.network.now.branches ≡ 512
  pub listed : r.sections.now ≡ sections_of (records_of r.network.now)
  pub held : Held r.network.now r.current.now.configuration
  pub live : r.live ≡ table (live (records_of r.network.now) r.current.now.configuration.switches) 512
  pub counts : r.counts ≡ table (open_count (records_of r.network.now) r.current.now.configuration.switches) 512
