-- Which branches have an open switch, counted switch by switch; a state with bytes beyond the switches; the base as a configuration.
use Rattle.std.specs.Prelude.{◌≡◌, Bool, not, ◌&&◌, ◌||◌, List, [], ◌∷◌, ◌++◌, ◌⊎◌, ℕ, zero, suc, ◌+◌, ◌-◌, ◌≤◌, ◌<◌, min, eqb, take, drop, set, replicate}
use Rattle.std.proofs.Math.Path.{refl, ap}
use Rattle.std.proofs.Common.{sym, ◌∙◌, arith, length-append, length-take, length-drop, get_or-take, get_or-drop, take_all}
use Rattle.std.proofs.Math.Bool.{true, false, and-false, or-true, or-false, or_assoc}
use Rattle.std.proofs.Math.Logic.{inl, inr}
use Rattle.std.proofs.Math.Numerals.{add-one}
use Rattle.std.proofs.Math.Dec.{ltb}
use Rattle.std.proofs.Math.ListN.{length, get_or, get_or-append, get_or-map, get_or-eq_default}
use Rattle.std.proofs.lemmas.List.{length-map, get_or-append_right}
use Rattle.std.proofs.Math.Seq.{take-suc}
use borrow.Author.Tests.{eq-eqb, ne_eqb, ltb-true, ltb-false}
use Rattle.std.specs.Int.{from_bool}
use Rattle.numbers.specs.UpTo.{table}
use Rattle.numbers.specs.TableLaws.{as_table, replicate_table, length_table, get_or_table, take_table, table_cong, table_set}
use Rattle.numbers.specs.Arrays.{array_of, padded, array_padded}
use Rattle.network.specs.declared.branch.Branch.{Branch}
use Rattle.network.specs.declared.switch.Switch.{Switch}
use Rattle.network.specs.declared.topology.PowerNetwork.{PowerNetwork}
use Rattle.network.specs.Records.{Network, no_branch, no_switch, listed, records_of}
use Rattle.network.specs.LookupLaws.{listed_first}
use Rattle.states.specs.Live.{state_byte, open_on, live, base_state}
use Rattle.states.specs.Configuration.{configuration_of}
use Rattle.states.specs.Switches.{byte, is_tie}

-- ---- one switch more
open_more : (ws : List Switch) (bs : List ℕ) (w : Switch) (b k : ℕ) → length ws ≡ length bs
    → open_on (ws ++ (w ∷ [])) (bs ++ (b ∷ [])) k ≡ (open_on ws bs k || (eqb w.branch_idx k && eqb b 1))
unfolding open_on
open_more [] [] w b k e = or-false (eqb w.branch_idx k && eqb b 1)
open_more [] (c ∷ bs) w b k e = absurd (omega arith)
open_more (v ∷ ws) [] w b k e = absurd (omega arith)
open_more (v ∷ ws) (c ∷ bs) w b k e =
    rw (open_more ws bs w b k (omega arith)) (sym (or_assoc (eqb v.branch_idx k && eqb c 1) (open_on ws bs k) (eqb w.branch_idx k && eqb b 1)))

-- what no switch beyond the bytes, and no byte beyond the switches, changes
pub open_take : (m : ℕ) (ws : List Switch) (s : List ℕ) (k : ℕ) → (length ws ≤ m) ⊎ (length s ≤ m) → open_on (take m ws) (take m s) k ≡ open_on ws s k
unfolding open_on
open_take zero [] s k h = refl
open_take zero (w ∷ ws) [] k h = refl
open_take zero (w ∷ ws) (b ∷ s) k (inl h) = absurd (omega arith)
open_take zero (w ∷ ws) (b ∷ s) k (inr h) = absurd (omega arith)
open_take (suc m) [] s k h = refl
open_take (suc m) (w ∷ ws) [] k h = refl
open_take (suc m) (w ∷ ws) (b ∷ s) k (inl h) = rw (open_take m ws s k (inl (omega arith)))
open_take (suc m) (w ∷ ws) (b ∷ s) k (inr h) = rw (open_take m ws s k (inr (omega arith)))

-- ---- flags of the branches with an open switch among the first i switches
module _ (ws : List Switch) (s : List ℕ) where
  abbrev pub open_so_far : ℕ → ℕ → Bool
  open_so_far i k = open_on (take i ws) (take i s) k

  pub open_none : (k : ℕ) → open_so_far 0 k ≡ false
  unfolding open_on
  open_none k = refl

  -- the array of the code
  pub none_flagged : replicate 512 false ≡ table (open_so_far 0) 512
  none_flagged = replicate_table false 512 ∙ table_cong _ _ 512 (λ k h. sym (open_none k))

  module _ (i : ℕ) (h : i < length ws) (l : i < length s) where
    open_next : (k : ℕ) → open_so_far (i + 1) k ≡ (open_so_far i k || (eqb (get_or ws i no_switch).branch_idx k && eqb (get_or s i 0) 1))
    open_next k =
        let e : length (take i ws) ≡ length (take i s) = simp length-take (omega arith) in
        rw (add-one, take-suc ws i no_switch h, take-suc s i 0 l) (open_more (take i ws) (take i s) (get_or ws i no_switch) (get_or s i 0) k e)

    -- its byte is not open
    pub open_closed : (size : ℕ) → (get_or s i 0 ≡ 1 → ⊥) → table (open_so_far i) size ≡ table (open_so_far (i + 1)) size
    open_closed size n = table_cong _ _ size (λ k m. sym (open_next k ∙ rw (ne_eqb (get_or s i 0) 1 n, and-false, or-false)))

    -- it is on no branch of the array
    pub open_beyond : (size : ℕ) → size ≤ (get_or ws i no_switch).branch_idx → table (open_so_far i) size ≡ table (open_so_far (i + 1)) size
    open_beyond size n = table_cong _ _ size (λ k m. sym (open_next k ∙ rw (ne_eqb (get_or ws i no_switch).branch_idx k (omega arith), or-false)))

    pub open_set : (size x : ℕ) → x ≡ (get_or ws i no_switch).branch_idx → x < size → get_or s i 0 ≡ 1 → set (table (open_so_far i) size) x true ≡ table (open_so_far (i + 1)) size
    open_set size x e m o =
        table_set (open_so_far i) (open_so_far (i + 1)) size x true m
        (open_next x ∙ rw (eq-eqb (get_or ws i no_switch).branch_idx x (sym e), eq-eqb (get_or s i 0) 1 o, or-true))
        (λ k b q. sym (open_next k ∙ rw (ne_eqb (get_or ws i no_switch).branch_idx k (λ r. q (sym r ∙ sym e)), or-false)))

  -- all switches, or all bytes, are passed
  pub open_all : (size i : ℕ) → i ≡ min (length ws) (length s) → table (open_so_far i) size ≡ table (open_on ws s) size
  open_all size i e = table_cong _ _ size (λ k h. open_take i ws s k (go (ltb (length ws) (length s)) refl))
    where
      go : (b : Bool) → ltb (length ws) (length s) ≡ b → (length ws ≤ i) ⊎ (length s ≤ i)
      go true q = inl (let l = ltb-true (length ws) (length s) q in omega arith)
      go false q = inr (let l = ltb-false (length ws) (length s) q in omega arith)

-- ---- bytes beyond the switches
open_append : (ws : List Switch) (s t : List ℕ) (k : ℕ) → length ws ≤ length s → open_on ws (s ++ t) k ≡ open_on ws s k
unfolding open_on
open_append [] s t k h = refl
open_append (w ∷ ws) [] t k h = absurd (omega arith)
open_append (w ∷ ws) (b ∷ s) t k h = rw (open_append ws s t k (omega arith))

live_padded : (N : Network) (size : ℕ) (s : List ℕ) (k : ℕ) → length s ≡ length N.switches → live N (padded size 0 s) k ≡ live N s k
unfolding live padded
live_padded N size s k e = rw (open_append N.switches s (replicate (size - length s) 0) k (omega arith))

-- ---- a state's configuration
-- its bytes, copied to the front of closed switches
pub copied : (size n : ℕ) (s : List ℕ) {front closed : List ℕ} → n ≡ min (length s) size → front ≡ take n s → closed ≡ array_of size 0 [] → front ++ drop n closed ≡ array_of size 0 s
copied size n s e f g = rw (f, g) (as_table _ size 0 (take n s ++ drop n (array_of size 0 [])) long at)
  where
    front : length (take n s) ≡ n
    front = omega (arith, length-take n s)

    long : length (take n s ++ drop n (array_of size 0 [])) ≡ size
    long = simp (length-append, length-drop, length_table, front) (omega arith)

    at : (i : ℕ) → i < size → get_or (take n s ++ drop n (array_of size 0 [])) i 0 ≡ get_or s i 0
    at i h = go (ltb i n) refl
      where
        go : (b : Bool) → ltb i n ≡ b → get_or (take n s ++ drop n (array_of size 0 [])) i 0 ≡ get_or s i 0
        go true q = let l = ltb-true i n q in get_or-append (take n s) _ 0 i (omega (arith, front)) ∙ get_or-take n s i 0 l
        go false q =
            let l = ltb-false i n q in
            get_or-append_right (take n s) _ n i 0 front l ∙ get_or-drop n (array_of size 0 []) (i - n) 0 ∙ get_or_table (λ j. get_or [] j 0) size _ 0 (omega arith) ∙ sym (get_or-eq_default s 0 {n = i} (omega arith))

pub live_configuration : (N : Network) (s : List ℕ) (k : ℕ) → length s ≡ length N.switches → length s ≤ 512 → live N (configuration_of s).switches k ≡ live N s k
live_configuration N s k e h = rw (array_padded 512 0 s h) (live_padded N 512 s k e)

-- ---- the base
-- the library's conversion gives a state's byte
pub byte_from : (b : Bool) → from_bool b ≡ state_byte b
byte_from true = refl
byte_from false = refl

pub base_byte : (N : Network) (i : ℕ) → byte (base_state N) i ≡ state_byte (is_tie N i)
unfolding base_state
base_byte N i = get_or-map (λ w. state_byte w.normally_open) N.switches i no_switch

pub base_at : (n : PowerNetwork) (i : ℕ) → i < n.switch_count → get_or (base_state (records_of n)) i 0 ≡ state_byte (get_or n.switches i no_switch).normally_open
unfolding records_of
base_at n i h =
    base_byte (records_of n) i
    ∙ ap (λ w. state_byte w.normally_open) (get_or_table (λ j. get_or n.switches j no_switch) n.switch_count i no_switch h)

pub base_beyond : (n : PowerNetwork) (i : ℕ) → n.switch_count ≤ i → get_or (base_state (records_of n)) i 0 ≡ 0
unfolding base_state records_of
base_beyond n i h = get_or-eq_default (base_state (records_of n)) 0 (simp (length-map, length_table) h)

-- ---- liveness, branch by branch, from the flags of the branches with an open switch
unfoldable pub live_by : List Branch → List Bool → ℕ → Bool
live_by branches opened k = (get_or branches k no_branch).status && not (get_or opened k false)

-- the code's arrays read at their first entries are the listed records
module _ (n : PowerNetwork) (k : ℕ) where
  branch_read_lem : (m : ℕ) → m ≡ min n.branch_count 512 → k < 512 → get_or (take m n.branches) k no_branch ≡ get_or (records_of n).branches k no_branch
  unfolding records_of
  branch_read_lem m e h = go (ltb k m) refl
    where
      go : (b : Bool) → ltb k m ≡ b → get_or (take m n.branches) k no_branch ≡ get_or (listed no_branch n.branches n.branch_count) k no_branch
      go true q = let l = ltb-true k m q in get_or-take m n.branches k no_branch l ∙ sym (get_or_table (λ j. get_or n.branches j no_branch) n.branch_count k no_branch (omega arith))
      go false q =
          let l = ltb-false k m q in
          get_or-eq_default (take m n.branches) no_branch {n = k} (omega (arith, length-take m n.branches))
          ∙ sym (get_or-eq_default (listed no_branch n.branches n.branch_count) no_branch {n = k} (rw (length_table (λ j. get_or n.branches j no_branch) n.branch_count) (omega arith)))

  switches_read_lem : (s : List ℕ) (w : ℕ) → length n.switches ≡ 512 → length s ≡ 512 → w ≡ min n.switch_count 512 → open_on (take w n.switches) s k ≡ open_on (records_of n).switches s k
  unfolding records_of
  switches_read_lem s w long bytes e = rw (listed_first no_switch n.switches w (omega arith)) (go (ltb n.switch_count 512) refl)
    where
      all : List Switch
      all = listed no_switch n.switches n.switch_count

      go : (b : Bool) → ltb n.switch_count 512 ≡ b → open_on (listed no_switch n.switches w) s k ≡ open_on (listed no_switch n.switches n.switch_count) s k
      go true q = let l = ltb-true n.switch_count 512 q in let same : w ≡ n.switch_count = omega arith in rw same
      go false q =
          let l = ltb-false n.switch_count 512 q in
          ap (λ ws. open_on ws s k) (sym (take_table (λ j. get_or n.switches j no_switch) n.switch_count w (omega arith)))
          ∙ ap (λ t. open_on (take w all) t k) (sym (take_all w s (omega arith))) ∙ open_take w all s k (inr (omega arith))

-- liveness of the records, from what is read
pub live_read : (n : PowerNetwork) (s : List ℕ) (m w : ℕ) {opened : List Bool} → length n.switches ≡ 512 → length s ≡ 512 → m ≡ min n.branch_count 512 → w ≡ min n.switch_count 512
    → opened ≡ table (open_on (take w n.switches) s) 512 → table (live_by (take m n.branches) opened) 512 ≡ table (live (records_of n) s) 512
unfolding live_by live
live_read n s m w long bytes e f o =
    table_cong _ _ 512 (λ k h. rw (o, get_or_table (open_on (take w n.switches) s) 512 k false h, branch_read_lem n k m e h, switches_read_lem n k s w long bytes f))
