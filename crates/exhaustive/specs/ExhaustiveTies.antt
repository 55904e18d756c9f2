-- The ties as the code lists them, and the live branches of a mask: those with every switch closed, with the ties opened whose bit is 0.
use Rattle.std.specs.Prelude.{◌≡◌, Bool, List, [], ltb, length, get_or, set}
use Rattle.std.proofs.Math.Path.{refl, sym, ap}
use Rattle.std.proofs.Common.{◌∙◌, add-one, shr-shr, lt-ltb, eq-eqb, ne_eqb}
use Rattle.std.proofs.Math.Bool.{true, false, cond}
use Prim.Native.Nat.{ℕ, zero, suc, ◌+◌, ◌≤◌, ◌<◌, ◌/◌, ◌%◌, ◌^◌}
use Rattle.std.proofs.Math.Decide.{dec_lt}
use native.Mathlib.Omega.{arith}
use Rattle.std.proofs.Math.ListN.{get_or-eq_default}
use Rattle.numbers.specs.Counts.{count, count_yes, count_no}
use Rattle.numbers.specs.CountLaws.{counted_before}
use Rattle.numbers.specs.ChooseLaws.{those_at}
use Rattle.numbers.specs.UpTo.{up_to, up_to_more, table}
use Rattle.numbers.specs.TableLaws.{length_table, get_or_table, as_table, table_cong, filled, filled_none, filled_more, filled_kept, filled_all}
use Rattle.network.specs.declared.switch.ReconfigAlgorithm.TheVariants as method
use Rattle.network.specs.declared.topology.PowerNetwork.{PowerNetwork}
use Rattle.network.specs.Records.{Network, records_of}
use Rattle.network.specs.Answers.{accepted}
use Rattle.network.specs.Check.{check_records}
use Rattle.network.specs.Limits.{ties, method_byte}
use Rattle.network.specs.InsideLaws.{check_inside}
use Rattle.network.specs.TieLaws.{ties_next}
use Rattle.network.specs.Inside.{Inside}
use Rattle.states.specs.Configuration.{configuration_of}
use Rattle.states.specs.LiveLaws.{live_configuration}
use Rattle.feeders.specs.FeederRows.{live_flags}
use Rattle.states.specs.Switches.{State, byte, branch_of, size, switch, is_tie}
use Rattle.exhaustive.specs.declared.exhaustive.Ties.{Ties}
use Rattle.searches.specs.LiveFlags.{on_flagged, flags_opened}
use Rattle.exhaustive.specs.Exhaustive.{bit, tie_count, masked_byte, masked}
use Rattle.exhaustive.specs.ExhaustiveMasks.{tie_behind, section_behind}
use Rattle.exhaustive.specs.ExhaustiveValues.{tie_at, ties_of, opening, opened_by}

-- ---- a tie opened or left closed, by the bits of the mask that are left
module _ (held : Ties) (mask t rest : ℕ) (e : rest ≡ mask / 2 ^ t) where
  pub rest_next : rest / 2 ≡ mask / 2 ^ (t + 1)
  rest_next = ap (λ r. r / 2) e ∙ shr-shr mask t 1

  module _ (live flags : List Bool) (q : flags ≡ up_to (opening held mask) live t) where
    pub tie_opened : rest % 2 ≡ 0 → set flags (get_or held.on t 0) false ≡ up_to (opening held mask) live (t + 1)
    tie_opened o = sym (up_to_more (opening held mask) live t ∙ rw (← e, ne_eqb (rest % 2) 1 (omega arith), q))

    pub tie_left : (rest % 2 ≡ 0 → ⊥) → flags ≡ up_to (opening held mask) live (t + 1)
    tie_left o = sym (up_to_more (opening held mask) live t ∙ rw (← e, eq-eqb (rest % 2) 1 (omega arith), q))

-- ---- how many ties there are among the first switches
module _ (N : Network) where
  ties_counted : (i : ℕ) → count (is_tie N) i ≡ ties (table (switch N) i)
  unfolding count table ties
  ties_counted zero = refl
  ties_counted (suc i) = ties_next (switch N) i (count (is_tie N) i) (ties_counted i) ∙ ap (λ m. ties (table (switch N) m)) (add-one i)

  -- they are those that refusal 9 counts
  pub all_ties : tie_count N ≡ ties N.switches
  all_ties = ties_counted (size N) ∙ ap ties (sym (as_table (switch N) (size N) _ N.switches refl (λ i l. refl)))

-- refusal 9 leaves ten
pub ten_ties : (n : PowerNetwork) → check_records (records_of n) ≡ accepted tt → n.algorithm ≡ method.Exhaustive → tie_count (records_of n) ≤ 10
ten_ties n ok e = rw (all_ties (records_of n)) (unfold records_of in ((check_inside (records_of n)).0 ok).few_ties (ap method_byte e))

-- ---- the ties listed
module _ (N : Network) where
  pub no_ties : record { count = 0; on = table (λ j. 0) 10 } ≡ ties_of N 0
  unfolding ties_of
  no_ties = rw (filled_none (λ j. branch_of N (tie_at N j)) 0 10)

  pub ties_on : Inside N → (t j : ℕ) → get_or (ties_of N t).on j 0 < 512
  unfolding ties_of filled
  ties_on inside t j = go (dec_lt j 10)
    where
      either : (b : Bool) → cond b (branch_of N (tie_at N j)) 0 < 512
      either true = on_flagged N inside (tie_at N j)
      either false = omega arith

      go : Dec (j < 10) → get_or (ties_of N t).on j 0 < 512
      go (yes l) = rw (get_or_table (λ j. cond (ltb j t) (branch_of N (tie_at N j)) 0) 10 j 0 l) (either (ltb j t))
      go (no n) = rw (get_or-eq_default (ties_of N t).on 0 {n = j} (rw (length_table (λ j. cond (ltb j t) (branch_of N (tie_at N j)) 0) 10) (omega arith))) (omega arith)

  module _ (i : ℕ) (l : i < size N) (tie : is_tie N i ≡ true) where
    tie_position : tie_at N (count (is_tie N) i) ≡ i
    tie_position = those_at (is_tie N) (size N) i l tie

    pub tie_room : tie_count N ≤ 10 → count (is_tie N) i < 10
    tie_room few = omega (arith, counted_before (is_tie N) (size N) i l tie)

    pub tie_listed : count (is_tie N) i < 10 → (held : Ties) → held ≡ ties_of N (count (is_tie N) i) → (on : ℕ) → on ≡ branch_of N i
        → record { count = held.count + 1; on = set held.on held.count on } ≡ ties_of N (count (is_tie N) (i + 1))
    unfolding ties_of
    tie_listed few held e on p =
        let c = count (is_tie N) i in
        let a = ap (set (filled (λ j. branch_of N (tie_at N j)) 0 10 c) c) (p ∙ sym (ap (branch_of N) tie_position)) ∙ filled_more (λ j. branch_of N (tie_at N j)) 0 10 c few in
        rw (e, tie_behind N i tie, a)

    -- what is read of it behind the others
    on_read : (t : ℕ) → t ≤ 10 → count (is_tie N) i < t → get_or (ties_of N t).on (count (is_tie N) i) 0 ≡ branch_of N i
    unfolding ties_of filled
    on_read t few k = get_or_table _ 10 (count (is_tie N) i) 0 (omega arith) ∙ rw (lt-ltb (count (is_tie N) i) t k, tie_position)

  pub section_skipped : (i : ℕ) → is_tie N i ≡ false → (held : Ties) → held ≡ ties_of N (count (is_tie N) i) → held ≡ ties_of N (count (is_tie N) (i + 1))
  section_skipped i f held e = e ∙ ap (ties_of N) (sym (section_behind N i f))

  -- ---- the live branches of a mask
  -- every switch closed
  abbrev closed_bytes : ℕ → State
  closed_bytes n = table (λ j. 0) n

  closed_long : (n : ℕ) → length (closed_bytes n) ≡ n
  closed_long n = length_table _ n

  closed_byte : (n i : ℕ) → byte (closed_bytes n) i ≡ 0
  closed_byte n i = go (dec_lt i n)
    where
      go : Dec (i < n) → byte (closed_bytes n) i ≡ 0
      go (yes l) = get_or_table _ n i 0 l
      go (no m) = get_or-eq_default (closed_bytes n) 0 (rw (closed_long n) (omega arith))

  -- .. as the code holds it
  closed_flags : size N ≤ 512 → live_flags N (configuration_of []).switches ≡ live_flags N (closed_bytes (size N))
  closed_flags few =
      ap (live_flags N) (table_cong _ _ 512 (λ i l. sym (closed_byte (size N) i)))
      ∙ table_cong _ _ 512 (λ k l. live_configuration N (closed_bytes (size N)) k (closed_long (size N)) (rw (closed_long (size N)) few))

  module _ (inside : Inside N) (few : tie_count N ≤ 10) (mask : ℕ) where
    -- the first m switches as the mask has them, the others closed
    abbrev mixed : ℕ → State
    mixed m = filled (masked_byte N mask) 0 (size N) m

    mixed_long : (m : ℕ) → length (mixed m) ≡ size N
    unfolding filled
    mixed_long m = length_table _ (size N)

    mixed_kept : (m : ℕ) → masked_byte N mask m ≡ 0 → mixed m ≡ mixed (suc m)
    mixed_kept m e = filled_kept (masked_byte N mask) 0 (size N) m e ∙ ap mixed (add-one m)

    mixed_opened : (m : ℕ) → m < size N → masked_byte N mask m ≡ 1 → set (mixed m) m 1 ≡ mixed (suc m)
    mixed_opened m l e = ap (set (mixed m) m) (sym e) ∙ filled_more (masked_byte N mask) 0 (size N) m l ∙ ap mixed (add-one m)

    abbrev all : Ties
    all = ties_of N (tie_count N)

    abbrev closed : List Bool
    closed = live_flags N (configuration_of []).switches

    flags_mixed : (m : ℕ) → m ≤ size N → up_to (opening all mask) closed (count (is_tie N) m) ≡ live_flags N (mixed m)
    unfolding up_to count
    flags_mixed zero l = closed_flags inside.counts.2 ∙ ap (live_flags N) (filled_none (masked_byte N mask) 0 (size N))
    flags_mixed (suc m) l = go (is_tie N m) refl (bit mask (count (is_tie N) m)) refl (flags_mixed m (omega arith))
      where
        before : ℕ
        before = count (is_tie N) m

        go : (tie : Bool) → is_tie N m ≡ tie → (one : Bool) → bit mask before ≡ one → up_to (opening all mask) closed before ≡ live_flags N (mixed m)
            → up_to (opening all mask) closed (count (is_tie N) (suc m)) ≡ live_flags N (mixed (suc m))
        go true t true b ih = rw (count_yes (is_tie N) m t, b) (ih ∙ ap (live_flags N) (mixed_kept m (rw (t, b))))
        go true t false b ih =
            let k : before < tie_count N = counted_before (is_tie N) (size N) m (omega arith) t in
            rw (count_yes (is_tie N) m t, b, ih, on_read m (omega arith) t _ few k)
            (flags_opened N inside (mixed m) (mixed_long m) m (omega arith) ∙ ap (live_flags N) (mixed_opened m (omega arith) (rw (t, b))))
        go false t one b ih = rw (count_no (is_tie N) m t) (ih ∙ ap (live_flags N) (mixed_kept m (rw t)))

    pub masked_flags : opened_by all mask closed ≡ live_flags N (masked N mask)
    unfolding opened_by masked ties_of
    masked_flags = flags_mixed (size N) (omega arith) ∙ ap (live_flags N) (filled_all (masked_byte N mask) 0 (size N) (size N) (λ j l m. absurd (omega arith)))
