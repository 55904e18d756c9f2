-- The first operable section switch of each branch as the code lists it, and the swap of a tie with it by the rows of the feeder.
use Rattle.std.specs.Prelude.{◌≡◌, ◌≢◌, Bool, not, ◌&&◌, List, ℕ, ◌+◌, ◌≤◌, ◌<◌, eqb, length}
use Rattle.std.proofs.Math.Path.{refl, sym, ap}
use Rattle.std.proofs.Common.{◌∙◌, arith, length-set}
use Rattle.std.proofs.Math.Bool.{true, false, and-false}
use Rattle.std.specs.Prelude.{Option, None, Some}
use Rattle.std.specs.Option.{option_or}
use Rattle.std.proofs.Math.Decide.{dec_lt}
use Rattle.std.proofs.Math.ListN.{get_or, set, get_or-eq_default}
use borrow.Author.Tests.{eqb-true, eq-eqb, ne_eqb}
use Rattle.numbers.specs.Choose.{least}
use Rattle.numbers.specs.Tests.{both}
use Rattle.numbers.specs.TableLaws.{length_table, get_or_table, table_cong, table_set}
use Rattle.numbers.specs.UpTo.{table}
use Rattle.states.specs.declared.configuration.NetworkConfiguration.{NetworkConfiguration}
use Rattle.network.specs.declared.topology.PowerNetwork.{PowerNetwork}
use Rattle.network.specs.Records.{Network, records_of}
use Rattle.network.specs.Answers.{accepted}
use Rattle.network.specs.Check.{check_records}
use Rattle.network.specs.Inside.{Inside}
use Rattle.network.specs.InsideLaws.{check_inside}
use Rattle.graph.specs.declared.rows.Graph.{Graph}
use Rattle.feeders.specs.Feeder.{radial_in}
use Rattle.feeders.specs.FeederRows.{feeder_graph, live_flags}
use Rattle.feeders.specs.FeederRowLaws.{flags_radial}
use Rattle.graph.specs.Rows.{row_radial}
use Rattle.states.specs.Switches.{State, byte, branch_of, operable, size, is_tie, swapped}
use Rattle.states.specs.OpenCounts.{one_open}
use Rattle.searches.specs.States.{state_of}
use Rattle.searches.specs.Given.{Held}
use Rattle.states.specs.Listed.{switches_listed, few_switches}
use Rattle.searches.specs.StateLaws.{held_long}
use Rattle.searches.specs.LiveFlags.{on_flagged, flags_opened, flags_closed}
use Rattle.exchange.specs.Exchange.{section_of}
use Rattle.numbers.specs.IfSome.{IfSome, cond_holds, least_passes}
use Rattle.exchange.specs.ExchangeValues.{sections_of, row_swap, row_swap_with}
use Rattle.numbers.specs.FirstLaws.{least_same, least_kept, least_found, least_none, least_below}

-- ---- the first operable section switch of each branch
module _ (N : Network) where
  abbrev is_section : ℕ → Bool
  is_section i = not (is_tie N i) && operable N i

  abbrev section_on : ℕ → ℕ → Bool
  section_on k i = eqb (branch_of N i) k && is_section i

  -- of those among the first i switches
  unfoldable pub sections_among : ℕ → List (Option ℕ)
  sections_among i = table (λ k. least (section_on k) i) 512

  pub sections_none : table (λ k. None) 512 ≡ sections_among 0
  unfolding sections_among
  sections_none = table_cong _ _ 512 (λ k l. sym (least_none (section_on k) 0 (λ i h. absurd (omega arith))))

  pub sections_all : (i : ℕ) → i ≡ size N → sections_among i ≡ sections_of N
  unfolding sections_among sections_of section_of
  sections_all i e = rw e

  pub other_skipped : (i : ℕ) → is_section i ≡ false → sections_among i ≡ sections_among (i + 1)
  unfolding sections_among
  other_skipped i f = table_cong _ _ 512 (λ k l. sym (least_same (section_on k) i (rw (f, and-false))))

  module _ (inside : Inside N) where
    -- a section more: it is listed where its branch has none before it
    module _ (i : ℕ) (l : i < size N) where
      other_branch : (k : ℕ) → k ≢ branch_of N i → least (section_on k) (i + 1) ≡ least (section_on k) i
      other_branch k n = least_same (section_on k) i (rw (ne_eqb (branch_of N i) k (λ e. n (sym e))))

      listed_so_far : get_or (sections_among i) (branch_of N i) None ≡ least (section_on (branch_of N i)) i
      unfolding sections_among
      listed_so_far = get_or_table _ 512 (branch_of N i) None (on_flagged N inside i)

      pub section_listed : is_section i ≡ true → set (sections_among i) (branch_of N i) (option_or (get_or (sections_among i) (branch_of N i) None) (Some i)) ≡ sections_among (i + 1)
      unfolding sections_among
      section_listed t =
          table_set _ _ 512 (branch_of N i) _ (on_flagged N inside i)
          (sym (ap (λ found. option_or found (Some i)) listed_so_far ∙ more (least (section_on (branch_of N i)) i) refl))
          (λ k m n. sym (other_branch k n))
        where
          more : (found : Option ℕ) → least (section_on (branch_of N i)) i ≡ found → option_or found (Some i) ≡ least (section_on (branch_of N i)) (i + 1)
          more None e = sym (least_found (section_on (branch_of N i)) i (rw (eq-eqb (branch_of N i) (branch_of N i) refl, t)) e)
          more (Some j) e = sym (least_kept (section_on (branch_of N i)) i j e)

    section_read : (k : ℕ) → get_or (sections_of N) k None ≡ section_of N k
    unfolding sections_of section_of
    section_read k = go (dec_lt k 512)
      where
        go : Dec (k < 512) → get_or (sections_of N) k None ≡ section_of N k
        go (yes l) = get_or_table _ 512 k None l
        go (no n) =
            get_or-eq_default (sections_of N) None (rw (length_table (section_of N) 512) (omega arith))
            ∙ sym (least_none (section_on k) (size N) (λ i l. rw (ne_eqb (branch_of N i) k (λ e. absurd (omega (arith, on_flagged N inside i))))))

  pub section_below : (k : ℕ) → IfSome (λ i. i < size N) (section_of N k)
  unfolding section_of
  section_below k = least_below (section_on k) (size N)

  pub section_here : (k : ℕ) → IfSome (λ i. branch_of N i ≡ k) (section_of N k)
  unfolding section_of
  section_here k = go (least (section_on k) (size N)) (least_passes (section_on k) (size N))
    where
      go : (found : Option ℕ) → IfSome (λ i. section_on k i ≡ true) found → IfSome (λ i. branch_of N i ≡ k) found
      go None h = tt
      go (Some i) h = eqb-true _ _ (both (eqb (branch_of N i) k) _ h).0

-- beyond an array of sections there is none
pub section_within : (sections : List (Option ℕ)) (k i : ℕ) → get_or sections k None ≡ Some i → k < length sections
section_within sections k i e = go (dec_lt k (length sections))
  where
    go : Dec (k < length sections) → k < length sections
    go (yes h) = h
    go (no n) = absurd (let none : None ≡ Some i = sym (get_or-eq_default sections None (omega arith)) ∙ e in cc)

-- ---- a swap by the rows
module _ (n : PowerNetwork) (ok : check_records (records_of n) ≡ accepted tt) (c : NetworkConfiguration) (held : Held n c) (tie : ℕ) (l : tie < n.switch_count) (still_open : byte (state_of n c) tie ≡ 1) where
  abbrev N : Network
  N = records_of n

  abbrev s : State
  s = state_of n c

  abbrev on : ℕ
  on = branch_of N tie

  inside : Inside N
  inside = (check_inside N).0 ok

  pub few : n.switch_count ≤ 512
  few = few_switches n ok

  long : length s ≡ size N
  long = held_long n c held few ∙ sym (switches_listed n)

  -- the live branches after it
  pub swapped_flags : (section : ℕ) → section < size N → set (set (live_flags N s) on (one_open N s on)) (branch_of N section) false ≡ live_flags N (swapped s tie section)
  unfolding swapped
  swapped_flags section h =
      ap (λ flags. set flags (branch_of N section) false) (flags_closed N inside s long tie (omega (arith, switches_listed n)) still_open)
      ∙ flags_opened N inside (set s tie 0) (length-set s tie 0 ∙ long) section h

  module _ (sized : length n.buses ≡ 256) (g : Graph) (a : g ≡ feeder_graph n) (sections : List (Option ℕ)) (q : sections ≡ sections_of N) (live : List Bool) (b : live ≡ live_flags N s) where
    abbrev swap_row : ℕ → Option ℕ
    swap_row = row_swap g sections c.switches (set live on (one_open N s on))

    pub listed : (k : ℕ) → get_or sections k None ≡ section_of N k
    listed k = rw q (section_read N inside k)

    pub judged : (k section : ℕ) → section < size N → branch_of N section ≡ k → row_radial g (set (set live on (one_open N s on)) k false) ≡ radial_in N (swapped s tie section)
    judged k section h e = flags_radial n sized ok (swapped s tie section) g _ a (rw (b, ← e) (swapped_flags section h)) _ refl

    pub row_below : (k : ℕ) → IfSome (λ i. i < n.switch_count) (swap_row k)
    unfolding row_swap row_swap_with
    row_below k = rw (listed k) (go (section_of N k) (section_below N k))
      where
        go : (found : Option ℕ) → IfSome (λ i. i < size N) found → IfSome (λ i. i < n.switch_count) (row_swap_with g c.switches (set live on (one_open N s on)) k found)
        go None h = tt
        go (Some section) h =
            let below : section < n.switch_count = omega (arith, switches_listed n) in
            cond_holds (λ i. i < n.switch_count) (eqb (get_or c.switches section 1) 0 && row_radial g (set (set live on (one_open N s on)) k false)) (Some section) None
            (λ t. below) tt
