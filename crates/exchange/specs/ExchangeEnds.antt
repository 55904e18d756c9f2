-- A round of the exchange that improves closes a tie for good: no later round sees it, and it makes no other seen. So there are at most as many such rounds as the
-- first round sees ties. A fact for the reader: no proof uses it.
use Rattle.std.specs.Prelude.{◌≡◌, ◌≢◌, true, false, length, set}
use Rattle.std.proofs.Common.{ap, ◌∙◌, true≢false, eqb-true}
use Rattle.std.specs.Prelude.{Option, None, Some}
use Prim.Native.Nat.{ℕ, suc, ◌+◌, ◌≤◌, ◌<◌}
use Rattle.std.proofs.Math.Decide.{ℕ_discrete, dec_lt}
use native.Mathlib.Omega.{arith}
use Rattle.std.proofs.Math.ListN.{get_or-eq_default}
use Rattle.std.proofs.Math.Seq.{get_or-set_same, get_or-set_other}
use Rattle.numbers.specs.Counts.{count, count_drop}
use Rattle.numbers.specs.Tests.{both, clash, not_so}
use Rattle.network.specs.Records.{Network}
use Rattle.states.specs.Live.{base_state}
use Rattle.states.specs.Switches.{State, byte, operable, size, is_tie, swapped}
use Rattle.exchange.specs.Exchange.{seen, round_of, Exchange, after_round, exchange}
use Rattle.numbers.specs.IfSome.{IfSome}
use Rattle.exchange.specs.ExchangeLaws.{Swap, round_swaps, rounds_keep}

module _ (s : State) (tie section : ℕ) where
  swapped_tie : tie ≢ section → tie < length s → byte (swapped s tie section) tie ≡ 0
  unfolding swapped
  swapped_tie n l = get_or-set_other (set s tie 0) section tie 1 0 n ∙ get_or-set_same s tie 0 0 l

  swapped_other : (i : ℕ) → i ≢ tie → i ≢ section → byte (swapped s tie section) i ≡ byte s i
  unfolding swapped
  swapped_other i n m = get_or-set_other (set s tie 0) section i 1 0 m ∙ get_or-set_other s tie i 0 0 n

module _ (N : Network) where
  -- what is seen is an open tie
  seen_open : (s : State) (i : ℕ) → seen N s i ≡ true → (is_tie N i ≡ true) × (byte s i ≡ 1)
  seen_open s i e = let p = both (is_tie N i) _ e in (p.0, eqb-true _ _ (both (operable N i) _ p.1).1)

  module _ (s t : State) (w : Swap N s t) where
    tie_open : (is_tie N w.tie ≡ true) × (byte s w.tie ≡ 1)
    tie_open = seen_open s w.tie w.tie_seen

    apart : w.tie ≢ w.section
    apart q = clash tie_open.0 (rw q w.no_tie)

    within : w.tie < length s
    within = go (dec_lt w.tie (length s))
      where
        go : Dec (w.tie < length s) → w.tie < length s
        go (yes l) = l
        go (no n) = absurd (omega (arith, tie_open.1, get_or-eq_default s 0 {n = w.tie} (omega arith)))

    swap_closes : seen N t w.tie ≡ false
    swap_closes = not_so _ (λ e. absurd (omega (arith, (seen_open t w.tie e).1, ap (λ u. byte u w.tie) w.result, swapped_tie s w.tie w.section apart within)))

    swap_others : (i : ℕ) → i ≢ w.tie → seen N s i ≡ seen N t i
    swap_others i n = go (ℕ_discrete i w.section)
      where
        go : Dec (i ≡ w.section) → seen N s i ≡ seen N t i
        go (yes q) = rw (q, w.no_tie)
        go (no m) = rw (w.result, swapped_other s w.tie w.section i n m)

    -- one tie fewer is seen
    swap_count : count (seen N s) (size N) ≡ suc (count (seen N t) (size N))
    swap_count = count_drop (seen N s) (seen N t) (size N) w.tie w.tie_listed w.tie_seen swap_closes (λ i l n. swap_others i n)

  -- at most one round more than the ties that the first round sees
  pub exchange_rounds : (exchange N).rounds ≤ suc (count (seen N (base_state N)) (size N))
  unfolding after_round
  exchange_rounds = ends (exchange N) (rounds_keep N Q (λ x e h. one x (h.0 e) (round_of N x.state x.loss) (round_swaps N x.state x.loss)) (λ e. omega arith, omega arith))
    where
      most : ℕ
      most = count (seen N (base_state N)) (size N)

      left : Exchange → ℕ
      left x = x.rounds + count (seen N x.state) (size N)

      Q : Exchange → Type 0
      Q x = (x.ended ≡ false → left x ≤ most) × (left x ≤ suc most)

      one : (x : Exchange) → left x ≤ most → (found : Option State) → IfSome (Swap N x.state) found → Q (after_round N x found)
      one x h None w = (λ e. absurd (true≢false e), omega arith)
      one x h (Some t) w = let less = swap_count x.state t w in (λ e. omega arith, omega arith)

      ends : (x : Exchange) → Q x → x.rounds ≤ suc most
      ends x h = omega (arith, h.1)
