-- Configurations and the states that they hold: the bytes behind the listed switches do not matter, and a moved byte is a moved byte of the state.
use Rattle.std.specs.Prelude.{◌≡◌, refl, cond, List, ℕ, ◌≤◌, ◌<◌, eqb, length, set}
use Rattle.std.proofs.Math.Path.{sym, ap}
use Rattle.std.proofs.Common.{◌∙◌, arith, get_or-set_same, get_or-set_other}
use Rattle.std.proofs.Math.ListN.{take, get_or, length-take}
use Rattle.std.proofs.Math.Seq.{take-set-lt, get_or-take}
use Rattle.numbers.specs.UpTo.{table}
use Rattle.numbers.specs.TableLaws.{length_table, as_table, take_table, table_cong, table_set}
use Rattle.states.specs.declared.configuration.NetworkConfiguration.{NetworkConfiguration}
use Rattle.network.specs.declared.topology.PowerNetwork.{PowerNetwork}
use Rattle.network.specs.Answers.{accepted}
use Rattle.network.specs.Check.{check_records}
use Rattle.network.specs.Records.{records_of}
use Rattle.states.specs.Configuration.{configuration_of}
use Rattle.states.specs.Live.{live, base_state}
use Rattle.states.specs.LiveLaws.{live_configuration}
use Rattle.feeders.specs.FeederRows.{live_flags}
use Rattle.states.specs.Switches.{byte, swapped, toggled}
use Rattle.states.specs.OpenCounts.{open_count, count_same}
use Rattle.states.specs.Listed.{switches_listed, few_switches}
use Rattle.searches.specs.States.{state_of}
use Rattle.searches.specs.Given.{Held}
use Rattle.states.specs.BaseLaws.{base_good}

module _ (n : PowerNetwork) where
  module _ (c : NetworkConfiguration) where
    pub byte_at : (i : ℕ) → i < n.switch_count → byte (state_of n c) i ≡ get_or c.switches i 0
    unfolding state_of
    byte_at i h = get_or-take n.switch_count c.switches i 0 h

    pub held_bytes : Held n c → length c.switches ≡ 512
    held_bytes h = ap (λ d. length d.switches) h ∙ length_table _ 512

    pub held_long : Held n c → n.switch_count ≤ 512 → length (state_of n c) ≡ n.switch_count
    unfolding state_of
    held_long h l =
        let long = held_bytes h in
        simp length-take (omega arith)

    -- what `live_branches` answers are the flags of the state
    pub flags_listed : Held n c → n.switch_count ≤ 512 → table (live (records_of n) c.switches) 512 ≡ live_flags (records_of n) (state_of n c)
    flags_listed h l =
        let long = held_long h l in
        ap (λ d. table (live (records_of n) d.switches) 512) h
        ∙ table_cong _ _ 512 (λ k m. live_configuration (records_of n) (state_of n c) k (long ∙ sym (switches_listed n)) (omega arith))

    -- what `open_counts` answers are the counts of the state
    pub counts_listed : table (open_count (records_of n) c.switches) 512 ≡ table (open_count (records_of n) (state_of n c)) 512
    counts_listed = table_cong _ _ 512 (λ k m. count_same (records_of n) c.switches (state_of n c) k (λ i l. sym (byte_at i (omega (arith, switches_listed n)))))

  -- a configuration holds its state
  pub state_held : (s : List ℕ) → length s ≡ n.switch_count → n.switch_count ≤ 512 → state_of n (configuration_of s) ≡ s
  unfolding state_of
  state_held s e l = take_table (λ i. get_or s i 0) 512 n.switch_count l ∙ sym (as_table (λ i. get_or s i 0) n.switch_count 0 s e (λ i h. refl))

  pub held : (s : List ℕ) → length s ≡ n.switch_count → n.switch_count ≤ 512 → Held n (configuration_of s)
  held s e l = ap configuration_of (sym (state_held s e l))

-- the base of a network that has been checked
module _ (n : PowerNetwork) where
  pub base_long : length (base_state (records_of n)) ≡ n.switch_count
  base_long = (base_good (records_of n)).long ∙ switches_listed n

  pub base_held : check_records (records_of n) ≡ accepted tt → {c : NetworkConfiguration} → c ≡ configuration_of (base_state (records_of n)) → take n.switch_count c.switches ≡ base_state (records_of n)
  unfolding state_of
  base_held ok e = ap (λ (b : NetworkConfiguration). take n.switch_count b.switches) e ∙ state_held n (base_state (records_of n)) base_long (few_switches n ok)

-- one byte moved
set_held : (s : List ℕ) (i b : ℕ) → i < length s → length s ≤ 512 → set (configuration_of s).switches i b ≡ (configuration_of (set s i b)).switches
set_held s i b l m = table_set (λ j. get_or s j 0) (λ j. get_or (set s i b) j 0) 512 i b (omega arith) (get_or-set_same s i b 0 l) (λ j k d. sym (get_or-set_other s i j b 0 d))

module _ (n : PowerNetwork) (c : NetworkConfiguration) (i b : ℕ) (l : i < n.switch_count) where
  set_state : state_of n (record { switches = set c.switches i b }) ≡ set (state_of n c) i b
  unfolding state_of
  set_state = take-set-lt n.switch_count c.switches i b l

  module _ (h : Held n c) (few : n.switch_count ≤ 512) where
    set_configuration : record { switches = set c.switches i b } ≡ configuration_of (set (state_of n c) i b)
    set_configuration =
        let long = held_long n c h few in
        ap (λ bytes. record { switches = bytes }) (ap (λ d. set d.switches i b) h ∙ set_held (state_of n c) i b (omega arith) (omega arith))

    set_holds : Held n (record { switches = set c.switches i b })
    set_holds = set_configuration ∙ ap configuration_of (sym set_state)

-- a tie closed and a section opened
module _ (n : PowerNetwork) (c : NetworkConfiguration) (tie section : ℕ) (a : tie < n.switch_count) (b : section < n.switch_count) where
  abbrev closed : NetworkConfiguration
  closed = record { switches = set c.switches tie 0 }

  pub swapped_held : Held n c → n.switch_count ≤ 512 → record { switches = set closed.switches section 1 } ≡ configuration_of (swapped (state_of n c) tie section)
  unfolding swapped
  swapped_held h l = set_configuration n closed section 1 b (set_holds n c tie 0 a h l) l ∙ ap (λ s. configuration_of (set s section 1)) (set_state n c tie 0 a)

-- one switch moved
module _ (n : PowerNetwork) (c : NetworkConfiguration) (i : ℕ) (l : i < n.switch_count) where
  pub toggled_held : Held n c → n.switch_count ≤ 512 → record { switches = toggled c.switches i } ≡ configuration_of (toggled (state_of n c) i)
  unfolding toggled
  toggled_held h few = set_configuration n c i _ l h few ∙ ap (λ v. configuration_of (set (state_of n c) i (cond (eqb v 1) 0 1))) (sym (byte_at n c i l))
