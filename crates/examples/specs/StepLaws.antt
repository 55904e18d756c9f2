-- Laws that the code's earlier loops were proved by, one step after another. No proof needs them today; what they say of the definitions holds as before.
use Rattle.std.specs.Prelude.{◌≡◌, Result, Ok, Err, refl, Bool, true, false, not, ◌&&◌, Some, None, List, ◌++◌, map, ℕ, ◌+◌, ◌*◌, ◌-◌, ◌<◌, ◌≤◌, min, length, get_or, take, drop, set, replicate}
use Rattle.std.proofs.Common.{get_or-take, sym, ap, ◌∙◌, arith, zero-add, add-zero, add-one, length-append, length-take, drop_of_length-le, take_all}
use Rattle.std.proofs.Math.ListN.{length-map, get_or-eq_default, get_or-map}
use mathlib.Core.List.{flat_map}
use borrow.Author.Tests.{lt-ltb, le-ltb, eq-eqb, ne_eqb}
use Rattle.numbers.specs.Choose.{index_of}
use Rattle.numbers.specs.ChooseLaws.{index_here, index_behind}
use Rattle.numbers.specs.Counts.{count, count_yes, count_no}
use Rattle.numbers.specs.Parts.{take_within}
use Rattle.numbers.specs.UpTo.{up_to, up_to_more, table}
use Rattle.numbers.specs.TableLaws.{length_table, get_or_table, table_cong}
use Rattle.network.specs.declared.bus.Bus.{Bus}
use Rattle.network.specs.declared.branch.Branch.{Branch}
use Rattle.network.specs.declared.topology.PowerNetwork.{PowerNetwork}
use Rattle.network.specs.declared.error.Refusal.{Refusal}
use Rattle.network.specs.Answers.{Answer, accepted, refused, judge}
use Rattle.network.specs.Check.{check_records}
use Rattle.network.specs.EachLaws.{each_at}
use Rattle.network.specs.Faults.{bus_row, branch_row, bus_faults, branch_faults}
use Rattle.network.specs.Inside.{Inside}
use Rattle.network.specs.InsideLaws.{check_inside}
use Rattle.network.specs.Limits.{bus_id, ok_load, ok_r}
use Rattle.network.specs.Lookups.{bus_index}
use Rattle.network.specs.Records.{Network, no_bus, no_branch, listed, records_of}
use Rattle.numbers.specs.Choose.{among}
use Rattle.states.specs.Listed.{few_branches, few_switches, buses_listed, branches_listed, switches_listed, bus_at, branch_at}
use Rattle.states.specs.Live.{open_on, live}
use Rattle.states.specs.LiveLaws.{live_by}
use Rattle.states.specs.Switches.{State, byte}
use Rattle.slices.specs.Written.{written}
use Rattle.slices.specs.WrittenLaws.{length_written, written_append, written_room}
use borrow.Rule.Slice.PartMut.{put_mid}
use Rattle.std.proofs.Math.Decide.{dec_lt}
use Rattle.graph.specs.declared.rows.Graph.{Graph}
use Rattle.graph.specs.Rows.{row_radial}
use Rattle.feeders.specs.Feeder.{radial_in}
use Rattle.feeders.specs.FeederRows.{feeder_graph, live_flags}
use Rattle.feeders.specs.FeederRowLaws.{flags_radial}
use Rattle.feeders.specs.StateCalls.{check_radial}
use Rattle.record_lines.specs.Kinds.{bus, branch, switch}
use Rattle.frames.specs.Acceptable.{text_of, bus_fields, branch_fields, switch_fields}
use Rattle.frames.specs.Lengths.{line_length}
use Rattle.frames.specs.RecordLaws.{no_nan}
use Rattle.texts.specs.Lines.{IsNumber, bus_text, branch_text, switch_text}
use Rattle.texts.specs.TextLaws.{kind_length}
use Rattle.operations.specs.OperationValues.{differs}
use Rattle.own_loops.specs.OwnLoopLaws.{value_without_lem}
use Rattle.own_loops.specs.OwnLoops.{Dropped, without_own, dropped_branches, dropped_switches, dropped_lines}
use Rattle.printing.specs.Lengths.{dropped_length}
use Rattle.printing.specs.LineTexts.{lines_append, length_lines, length_dropped}
use Rattle.repairs.specs.Repairs.{dropped_lines_text, repaired}
use Rattle.repairs.specs.RepairValues.{Left}
use Rattle.texts.specs.Texts.{written_text}
use Rattle.printing.specs.Calls.{Call}
use Rattle.printing.specs.CallLaws.{call_is}
use Rattle.changes.specs.Change.{check_plan}
use Rattle.plan.specs.declared.pairs.Pair.{Pair}
use Rattle.plan.specs.declared.list.SwitchList.{SwitchList}
use Rattle.plan.specs.MadePlans.{made_plan}
use Rattle.plan.specs.Stored.{made_in}
use Rattle.plan.specs.MadePlanLaws.{made_refused, made_accepted}
use Rattle.exchange.specs.ExchangeValues.{sections_of}
use Rattle.ids.specs.Ids.{bucket_of, id_array, rows, put_id, rows_from, rows_of, id_rows}

-- ---- how far a search by rising position has looked
module _ (x : ℕ) (l : List ℕ) where
  -- x stands at none of the first i positions
  unfoldable pub Unseen : ℕ → Type 0
  Unseen i = index_of x l ≡ i + index_of x (drop i l)

  pub unseen_none : Unseen 0
  unfolding Unseen
  unseen_none = sym (zero-add (index_of x l))

  module _ (i : ℕ) (u : Unseen i) where
    pub unseen_more : i < length l → (get_or l i 0 ≡ x → ⊥) → Unseen (i + 1)
    unfolding Unseen
    unseen_more h n = u ∙ index_behind x l i h n

    pub seen_here : i < length l → get_or l i 0 ≡ x → index_of x l ≡ i
    unfolding Unseen
    seen_here h q = u ∙ index_here x l i h q

    pub seen_nowhere : length l ≤ i → index_of x l ≡ i
    unfolding Unseen index_of
    seen_nowhere h = u ∙ rw (drop_of_length-le l {i = i} h) (add-zero i)

pub found_at : (buses : List Bus) (id i : ℕ) → i < length buses → index_of id (map bus_id buses) ≡ i → Some i ≡ bus_index buses id
unfolding bus_index
found_at buses id i h e = rw (e, lt-ltb i (length buses) h)

pub not_found : (buses : List Bus) (id i : ℕ) → length buses ≤ i → index_of id (map bus_id buses) ≡ i → None ≡ bus_index buses id
unfolding bus_index
not_found buses id i h e = rw (e, le-ltb i (length buses) h)

-- the key at a position of the first n records
pub key_at : {A : Type 0} (key : A → ℕ) (n : ℕ) (l : List A) (i : ℕ) (d : A) → i < n → get_or (map key (take n l)) i (key d) ≡ key (get_or l i d)
key_at key n l i d h = get_or-map key (take n l) i d ∙ ap key (get_or-take n l i d h)

-- ---- a record's faults, by what is read of it
pub bus_faults_lem : (before : List Bus) (b read : Bus) (twice : Bool) → read ≡ b → twice ≡ among read.id (map bus_id before)
    → bus_row read twice ≡ bus_faults before b
unfolding bus_faults
bus_faults_lem before b read twice r e = rw (e, r)

pub branch_faults_lem : (stored : Bool) (buses : List Bus) (b read : Branch) (from to : Bool) → read ≡ b → from ≡ among read.from_bus (map bus_id buses) → to ≡ among read.to_bus (map bus_id buses)
    → branch_row stored read from to ≡ branch_faults stored buses b
unfolding branch_faults
branch_faults_lem stored buses b read from to r e g = rw (e, g, r)

-- ---- ids put into rows, from the last position to the first
module _ (ids : List ℕ) (n : ℕ) where
  pub none_put : rows ids (replicate 256 512) (replicate 512 512) ≡ rows_from ids n 0
  unfolding rows_from up_to
  none_put = refl

  module _ {first next : List ℕ} (i : ℕ) (e : rows ids first next ≡ rows_from ids n i) where
    pub one_put : (row : ℕ) → row ≡ bucket_of (get_or ids (n - 1 - i) 0)
        → rows ids (set first row (n - 1 - i)) (set next (n - 1 - i) (get_or first row 0)) ≡ rows_from ids n (i + 1)
    unfolding rows_from put_id
    one_put row b = rw b (ap (put_id (n - 1 - i)) e ∙ sym (up_to_more _ _ i))

    pub all_put : i ≤ n → n ≤ i → rows ids first next ≡ rows_from ids n n
    all_put a b = let f : i ≡ n = omega arith in rw f at e

pub rows_listed : {A : Type 0} (key : A → ℕ) (l : List A) (count n size : ℕ) (ids : List ℕ) → length l ≡ size → n ≡ min count size → ids ≡ id_array (map key (take n l))
    → rows_of ids n ≡ id_rows (map key (take count l))
unfolding id_rows
rows_listed key l count n size ids e m i =
    let long : length (map key (take count l)) ≡ n = simp (length-map, length-take) (omega arith) in
    let listed : take n l ≡ take count l = rw (m, ← e) (take_within count l) in
    rw (i, listed, long)

-- ---- the bytes of two states
module _ (from to : State) (i : ℕ) where
  pub one_same : byte from i ≡ byte to i → count (differs from to) (i + 1) ≡ count (differs from to) i
  one_same e = rw add-one (count_no (differs from to) i (rw (eq-eqb _ _ e)))

  pub one_other : (byte from i ≡ byte to i → ⊥) → count (differs from to) (i + 1) ≡ count (differs from to) i + 1
  one_other d = rw (add-one i, add-one) (count_yes (differs from to) i (rw (ne_eqb (byte from i) (byte to i) d)))

-- ---- bytes that are copied
pub written_copied : (bytes out : List ℕ) {now : List ℕ} → length bytes ≤ length out → now ≡ take (length bytes) bytes ++ drop (length bytes) out → now ≡ written bytes out
written_copied bytes out room e = e ∙ rw (take_all (length bytes) bytes (omega arith)) (sym (written_room bytes out room))

-- ---- live branches, one behind another
module _ (branches : List Branch) (count : ℕ) (opened : List Bool) (k : ℕ) where
  pub live_at : k < count → ((get_or branches k no_branch).status && not (get_or opened k false)) ≡ live_by (listed no_branch branches count) opened k
  unfolding live_by
  live_at h = rw (get_or_table (λ i. get_or branches i no_branch) count k no_branch h)

  pub live_beyond : count ≤ k → live_by (listed no_branch branches count) opened k ≡ false
  unfolding live_by
  live_beyond h =
      rw (get_or-eq_default (listed no_branch branches count) no_branch {n = k} (rw (length_table (λ i. get_or branches i no_branch) count) h))

pub live_table : (N : Network) (s : List ℕ) (opened : List Bool) (size : ℕ) → opened ≡ table (open_on N.switches s) size
    → table (live_by N.branches opened) size ≡ table (live N s) size
unfolding live_by live
live_table N s opened size e = table_cong _ _ size (λ k h. rw (e, get_or_table (open_on N.switches s) size k false h))

-- ---- the sections of all branches
pub sections_long : (N : Network) → length (sections_of N) ≡ 512
unfolding sections_of
sections_long N = length_table _ 512

-- ---- the lines of a kind, by a count that is the value's, and floats with bits
module _ (n : PowerNetwork) where
  pub bus_lines_lem : {count : ℕ} → count ≡ n.bus_count → length (flat_map bus_text (records_of n).buses) ≡ line_length bus * count
  bus_lines_lem e = kind_length bus bus_fields (records_of n).buses ∙ rw (buses_listed n, e)

  pub switch_lines_lem : {count : ℕ} → count ≡ n.switch_count → length (flat_map switch_text (records_of n).switches) ≡ line_length switch * count
  switch_lines_lem e = kind_length switch switch_fields (records_of n).switches ∙ rw (switches_listed n, e)

  pub branch_lines_lem : {count : ℕ} → count ≡ n.branch_count → length (flat_map branch_text (records_of n).branches) ≡ line_length branch * count
  branch_lines_lem e = kind_length branch branch_fields (records_of n).branches ∙ rw (branches_listed n, e)

  module _ (ok : check_records (records_of n) ≡ accepted tt) where
    inside : Inside (records_of n)
    inside = (check_inside (records_of n)).0 ok

    pub load_bits : (i : ℕ) → i < n.bus_count → IsNumber (get_or n.buses i no_bus).pd.0
    unfolding ok_load
    load_bits i h =
        let ranged = each_at (λ (b : Bus). ok_load b.pd.0 ≡ true) (records_of n).buses inside.loads i no_bus (omega (arith, buses_listed n)) in
        no_nan _ _ _ (rw (bus_at n i h) at ranged)

    pub r_bits : (k : ℕ) → k < n.branch_count → IsNumber (get_or n.branches k no_branch).r
    unfolding ok_r
    r_bits k h =
        let ranged = each_at (λ (b : Branch). ok_r b.r ≡ true) (records_of n).branches inside.resistances k no_branch (omega (arith, branches_listed n)) in
        no_nan _ _ _ (rw (branch_at n k h) at ranged)

-- ---- the 87 lines, one kind behind the other
pub dropped_length_lem : (l : List Dropped) → length (dropped_lines_text l) ≡ dropped_length * length l
dropped_length_lem l = length_lines _ dropped_length (λ d. length_dropped d.line d.reason) l

pub both_kinds : (N : Network) → dropped_lines_text (dropped_branches N) ++ dropped_lines_text (dropped_switches N) ≡ dropped_lines_text (dropped_lines N)
unfolding dropped_lines
both_kinds N = sym (lines_append _ (dropped_branches N) (dropped_switches N))

pub room_for_kinds : (N : Network) {room : ℕ} → length (dropped_lines_text (dropped_lines N)) ≤ room
    → length (dropped_lines_text (dropped_branches N) ++ dropped_lines_text (dropped_switches N)) ≤ room
room_for_kinds N h = rw (both_kinds N) h

pub branches_room : (N : Network) {room : ℕ} → length (dropped_lines_text (dropped_lines N)) ≤ room → length (dropped_lines_text (dropped_branches N)) ≤ room
branches_room N h = omega (arith, room_for_kinds N h, length-append (dropped_lines_text (dropped_branches N)) (dropped_lines_text (dropped_switches N)))

-- ---- a repaired text in two parts
module _ (n left : PowerNetwork) (l : Left n left) where
  left_records : records_of left ≡ without_own (records_of n)
  left_records = ap records_of l.left_so ∙ value_without_lem n (few_branches n l.read) (few_switches n l.read)

  pub in_two : text_of (records_of left) ++ dropped_lines_text (dropped_lines (records_of n)) ≡ repaired (records_of n)
  unfolding repaired
  in_two = rw left_records

  pub room_for_both : {room : ℕ} → length (repaired (records_of n)) ≤ room → length (text_of (records_of left) ++ dropped_lines_text (dropped_lines (records_of n))) ≤ room
  room_for_both h = rw in_two h

  -- what `write_text` leaves in the slice
  pub text_first : (out : List ℕ) → length (repaired (records_of n)) ≤ length out → {answer : Answer ℕ} {after : List ℕ}
      → record { answer = answer; out = after } ≡ written_text (records_of left) out → after ≡ written (text_of (records_of left)) out
  unfolding written_text
  text_first out room e =
      let long = length-append (text_of (records_of left)) (dropped_lines_text (dropped_lines (records_of n))) in
      ap (λ (c : Call ℕ). c.out) (call_is _ (text_of (records_of left)) out l.good (omega (arith, room_for_both room)) e)

-- ---- what making a plan answers
pub made_answer : (N : Network) (present wanted : State) (m : Result (SwitchList Pair) Refusal) → made_in m ≡ made_plan N present wanted → (made_in m).answer ≡ check_plan N present wanted
made_answer N present wanted (Ok pairs) e = sym (made_accepted N present wanted (Ok pairs) e refl)
made_answer N present wanted (Err r) e = made_refused N present wanted (Err r) e refl

-- ---- bytes b behind bytes a
pub written_so : {a b after : List ℕ} (out : List ℕ) → after ≡ written a out → a ≡ b → after ≡ written b out
written_so out w e = w ∙ ap (λ x. written x out) e

module _ (a b out : List ℕ) (n : ℕ) (long : length a ≡ n) (room : length (a ++ b) ≤ length out) {l : List ℕ} (first : l ≡ written a out) where
  kept : length l ≡ length out
  kept = ap length first ∙ length_written a out

  pub part_begins : n ≤ length l
  part_begins = omega (arith, kept, length-append a b)

  pub both_written : {part : List ℕ} → part ≡ written b (take (length l - n) (drop n l)) → put_mid n (length l - n) l part ≡ written (a ++ b) out
  both_written next = written_append a b out n long (omega (arith, length-append a b)) first next

-- ---- refusal 11, as the graph and the flags of a state show it
module _ (n : PowerNetwork) (buses : length n.buses ≡ 256) (passed : check_records (records_of n) ≡ accepted tt) (s : State) (place : ℕ)
    {graph : Graph} (g : graph ≡ feeder_graph n) {live : List Bool} (l : live ≡ live_flags (records_of n) s) {b : Bool} (e : b ≡ row_radial graph live) where
  as_radial : radial_in (records_of n) s ≡ b
  as_radial = sym (flags_radial n buses passed s graph live g l b e)

  pub not_radial : b ≡ false → check_radial (records_of n) s place ≡ refused 11 place
  unfolding check_radial judge
  not_radial f = rw (as_radial, f)

  pub is_radial : b ≡ true → check_radial (records_of n) s place ≡ accepted tt
  unfolding check_radial judge
  is_radial t = rw (as_radial, t)

-- ---- beyond an array of sections there is none
pub section_within : (sections : List ℕ) (k section : ℕ) → length sections ≡ 512 → section ≡ get_or sections k 512 → section < 512 → k < 512
section_within sections k section long e l = go (dec_lt k 512)
  where
    go : Dec (k < 512) → k < 512
    go (yes h) = h
    go (no n) = absurd (omega (arith, get_or-eq_default sections 512 {n = k} (omega arith)))
