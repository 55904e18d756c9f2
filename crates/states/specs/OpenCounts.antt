-- How many open switches are on a branch; a branch is live by that number, also after one of its switches has moved.
use Rattle.std.specs.Prelude.{◌≡◌, ◌≢◌, Bool, cond, ◌&&◌, ℕ, zero, suc, ◌+◌, ◌≤◌, ◌<◌, min, length, get_or, set}
use Rattle.std.proofs.Math.Path.{refl, sym, ap}
use Rattle.std.proofs.Common.{◌∙◌, add-one, arith, get_or-set_same, get_or-set_other}
use Rattle.std.proofs.Math.Bool.{true, false, and-false}
use Rattle.std.proofs.Math.Dec.{eqb}
use Rattle.std.proofs.Math.ListN.{get_or-eq_default}
use borrow.Author.Tests.{eq-eqb, ne_eqb, eqb-true}
use Rattle.numbers.specs.Counts.{count, count_yes, count_no, count_cong, count_none, count_zero, count_drop, count_le, count_idle}
use Rattle.numbers.specs.Tests.{both, clash, not_so, same_test}
use Rattle.numbers.specs.UpTo.{table}
use Rattle.numbers.specs.TableLaws.{get_or_table, table_cong, table_set}
use Rattle.network.specs.Records.{Network}
use Rattle.network.specs.Inside.{Inside}
use Rattle.network.specs.Positions.{two_on_branch}
use Rattle.states.specs.Live.{live}
use Rattle.states.specs.Switches.{State, byte, branch_of, size, toggled, in_service}
use Rattle.states.specs.LiveBytes.{live_so, live_if, opened_dead}

-- switch i is on branch k and open
abbrev pub open_at : Network → State → ℕ → ℕ → Bool
open_at N s k i = eqb (branch_of N i) k && eqb (byte s i) 1

-- how many switches on branch k are open
unfoldable pub open_count : Network → State → ℕ → ℕ
open_count N s k = count (open_at N s k) (size N)

-- branch k is in service and one switch keeps it from being live
unfoldable pub one_open : Network → State → ℕ → Bool
one_open N s k = in_service N k && eqb (open_count N s k) 1

-- at most two of an accepted network
pub two_open : (N : Network) → Inside N → (s : State) (k : ℕ) → open_count N s k ≤ 2
unfolding open_count
two_open N inside s k = two_on_branch N inside k (open_at N s k) (λ i h t. eqb-true _ _ (both (eqb (branch_of N i) k) _ t).0)

-- ---- live by that number
pub live_counted : (N : Network) (s : State) (k : ℕ) → live N s k ≡ (in_service N k && eqb (open_count N s k) 0)
unfolding open_count
live_counted N s k = same_test _ _
    (λ l.
    let p = live_so N s k l in
    let z : count (open_at N s k) (size N) ≡ 0 = count_none _ (size N) (λ i b. not_so _ (λ t. let q = both (eqb (branch_of N i) k) _ t in p.1 i (record { listed = b; here = eqb-true _ _ q.0 }) (eqb-true _ _ q.1))) in
    rw (p.0, z))
    (λ l.
    let p = both (in_service N k) _ l in
    live_if N s k p.0 (λ i o b. clash (rw (eq-eqb _ _ o.here, eq-eqb _ _ b)) (count_zero (open_at N s k) (size N) (eqb-true _ _ p.1) i o.listed)))

-- two states with the same bytes for the listed switches
pub count_same : (N : Network) (s t : State) (k : ℕ) → ((i : ℕ) → i < size N → byte s i ≡ byte t i) → open_count N s k ≡ open_count N t k
unfolding open_count
count_same N s t k h = count_cong _ _ (size N) (λ i l. ap (λ b. eqb (branch_of N i) k && eqb b 1) (h i l))

one_less : (a b : ℕ) → b ≡ suc a → eqb a 0 ≡ eqb b 1
one_less zero b e = rw e
one_less (suc a) b e = rw e (ne_eqb (suc a) 0 (omega arith) ∙ sym (ne_eqb (suc (suc a)) 1 (omega arith)))

module _ (N : Network) (s : State) (long : length s ≡ size N) (i : ℕ) (l : i < size N) where
  -- an open switch closed: one less on its branch
  count_closed : byte s i ≡ 1 → open_count N s (branch_of N i) ≡ suc (open_count N (set s i 0) (branch_of N i))
  unfolding open_count
  count_closed b =
      count_drop (open_at N s (branch_of N i)) (open_at N (set s i 0) (branch_of N i)) (size N) i l
      (rw (eq-eqb (branch_of N i) _ refl, eq-eqb _ _ b))
      (rw (get_or-set_same s i 0 0 (omega arith), and-false))
      (λ j k n. ap (λ x. eqb (branch_of N j) (branch_of N i) && eqb x 1) (sym (get_or-set_other s i j 0 0 n)))

  -- then the branch is live exactly where it is in service and that switch was its only open one
  pub live_closed : byte s i ≡ 1 → live N (set s i 0) (branch_of N i) ≡ one_open N s (branch_of N i)
  unfolding one_open
  live_closed b =
      live_counted N (set s i 0) (branch_of N i)
      ∙ ap (λ x. in_service N (branch_of N i) && x) (one_less (open_count N (set s i 0) (branch_of N i)) _ (count_closed b))

  -- a switch moved: its branch is live then exactly where it is in service and the switch was its only open one
  pub live_toggled : live N (toggled s i) (branch_of N i) ≡ (eqb (byte s i) 1 && one_open N s (branch_of N i))
  unfolding toggled
  live_toggled = go (eqb (byte s i) 1) refl
    where
      go : (b : Bool) → eqb (byte s i) 1 ≡ b → live N (set s i (cond b 0 1)) (branch_of N i) ≡ (b && one_open N s (branch_of N i))
      go true e = live_closed (eqb-true _ _ e)
      go false e = opened_dead N s (branch_of N i) i (record { listed = l; here = refl }) long

-- ---- counted switch by switch
module _ (N : Network) (s : State) where
  -- the open switches on branch k among the first i
  unfoldable pub open_among : ℕ → ℕ → ℕ
  open_among i k = count (open_at N s k) i

  pub among_none : (k : ℕ) → open_among 0 k ≡ 0
  unfolding open_among count
  among_none k = refl

  among_same : (i k : ℕ) → open_at N s k i ≡ false → open_among i k ≡ open_among (i + 1) k
  unfolding open_among
  among_same i k f = rw (add-one i) (sym (count_no (open_at N s k) i f))

  module _ (room i : ℕ) where
    -- its byte is not open
    pub among_closed : byte s i ≢ 1 → table (open_among i) room ≡ table (open_among (i + 1)) room
    among_closed n = table_cong _ _ room (λ k l. among_same i k (rw (ne_eqb (byte s i) 1 n, and-false)))

    -- it is on no branch of the array
    pub among_beyond : room ≤ branch_of N i → table (open_among i) room ≡ table (open_among (i + 1)) room
    among_beyond n = table_cong _ _ room (λ k l. among_same i k (rw (ne_eqb (branch_of N i) k (omega arith))))

    -- no count is greater than the number of switches passed
    pub among_few : (x : ℕ) → x < room → get_or (table (open_among i) room) x 0 ≤ i
    unfolding open_among
    among_few x l = rw (get_or_table (open_among i) room x 0 l) (count_le (open_at N s x) i)

    pub among_counted : (x : ℕ) → x ≡ branch_of N i → x < room → byte s i ≡ 1
        → set (table (open_among i) room) x (get_or (table (open_among i) room) x 0 + 1) ≡ table (open_among (i + 1)) room
    unfolding open_among
    among_counted x e l o =
        table_set (open_among i) (open_among (i + 1)) room x _ l
        (rw (add-one i, count_yes (open_at N s x) i (rw (eq-eqb (branch_of N i) x (sym e), eq-eqb (byte s i) 1 o)), get_or_table (open_among i) room x 0 l, add-one))
        (λ k m q. among_same i k (rw (ne_eqb (branch_of N i) k (λ r. q (sym r ∙ sym e)))))

  -- all switches, or all bytes, are passed
  pub among_all : (i k : ℕ) → i ≡ min (size N) (length s) → open_among i k ≡ open_count N s k
  unfolding open_among open_count
  among_all i k e = sym (count_idle (open_at N s k) i (size N) (omega arith) (λ j a b. rw (get_or-eq_default s 0 {n = j} (omega arith), and-false)))
