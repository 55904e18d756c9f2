-- Masks as the code goes through them: the bits of a mask that are left, and the state of a mask.
use Rattle.std.specs.Prelude.{◌≡◌, refl, Bool, true, false, cond, ◌&&◌, ℕ, zero, suc, bit_and, ◌+◌, ◌≤◌, ◌<◌, ◌/◌, ◌%◌, ◌^◌, eqb, length, get_or, take}
use Rattle.std.proofs.Math.Path.{sym, ap}
use Rattle.std.proofs.Common.{◌∙◌, div-one, add-one, arith, shr-shr}
use Rattle.std.proofs.Math.Bool.{not}
use Rattle.std.proofs.Math.ListN.{get_or-eq_default}
use Rattle.std.proofs.Math.Seq.{get_or-take}
use Rattle.std.proofs.lemmas.Nat.{and_mask}
use Rattle.numbers.specs.Counts.{count, count_yes, count_no}
use Rattle.network.specs.declared.topology.PowerNetwork.{PowerNetwork}
use Rattle.network.specs.Records.{Network, no_switch, records_of}
use Rattle.states.specs.Listed.{switches_listed, switch_at_lem}
use Rattle.states.specs.Live.{state_byte}
use Rattle.states.specs.Switches.{is_tie, switch}
use Rattle.exhaustive.specs.Exhaustive.{masked}
use Rattle.exhaustive.specs.ExhaustiveLaws.{masked_byte_lem, masked_good}

-- ---- the switches as the code goes over them
pub switch_read : (n : PowerNetwork) {m : ℕ} → m ≡ n.switch_count → (i : ℕ) → i < m → switch (records_of n) i ≡ get_or (take m n.switches) i no_switch
switch_read n {m = m} e i l = switch_at_lem n i (omega arith) ∙ sym (get_or-take m n.switches i no_switch l)

pub tie_read : (n : PowerNetwork) {m : ℕ} → m ≡ n.switch_count → (i : ℕ) → i < m → {tie : Bool} → tie ≡ (get_or (take m n.switches) i no_switch).normally_open → is_tie (records_of n) i ≡ tie
tie_read n e i l t = ap (λ w. w.normally_open) (switch_read n e i l) ∙ sym t

-- ---- how many ties are behind a switch
module _ (N : Network) (i : ℕ) where
  pub tie_behind : is_tie N i ≡ true → count (is_tie N) (i + 1) ≡ count (is_tie N) i + 1
  tie_behind tie = ap (count (is_tie N)) (add-one i) ∙ count_yes (is_tie N) i tie ∙ sym (add-one (count (is_tie N) i))

  pub section_behind : is_tie N i ≡ false → count (is_tie N) (i + 1) ≡ count (is_tie N) i
  section_behind section = ap (count (is_tie N)) (add-one i) ∙ count_no (is_tie N) i section

-- ---- the lowest bit
pub low_bit : (n : ℕ) → bit_and n 1 ≡ n % 2
low_bit n = and_mask n 1

pub low_bit_free : (n : ℕ) → eqb (bit_and n 1) 0 ≡ not (eqb (n % 2) 1)
low_bit_free n = rw (low_bit n) (go (n % 2) (omega arith))
  where
    go : (k : ℕ) → k < 2 → eqb k 0 ≡ not (eqb k 1)
    go zero l = refl
    go (suc zero) l = refl
    go (suc (suc k)) l = absurd (omega arith)

-- ---- the bits of a mask: the i-th tie takes bit i, which is the lowest that those before it left
bit_taken : (tie : Bool) (mask k : ℕ) → cond tie (mask / 2 ^ k / 2) (mask / 2 ^ k) ≡ mask / 2 ^ cond tie (suc k) k
bit_taken true mask k = shr-shr mask k 1 ∙ ap (λ e. mask / 2 ^ e) (add-one k)
bit_taken false mask k = refl

module _ (n : PowerNetwork) (mask : ℕ) where
  -- what the first i switches leave
  unfoldable pub bits_from : ℕ → ℕ
  bits_from i = mask / 2 ^ count (is_tie (records_of n)) i

  pub bits_all : mask ≡ bits_from 0
  unfolding bits_from count
  bits_all = sym (div-one mask)

  module _ (i : ℕ) where
    pub bits_taken : is_tie (records_of n) i ≡ true → bits_from i / 2 ≡ bits_from (i + 1)
    unfolding bits_from
    bits_taken tie = shr-shr mask (count (is_tie (records_of n)) i) 1 ∙ ap (λ k. mask / 2 ^ k) (sym (tie_behind (records_of n) i tie))

    pub bits_kept : is_tie (records_of n) i ≡ false → bits_from i ≡ bits_from (i + 1)
    unfolding bits_from
    bits_kept section = ap (λ k. mask / 2 ^ k) (sym (section_behind (records_of n) i section))

    module _ (l : i < n.switch_count) where
      byte_at : get_or (masked (records_of n) mask) i 0 ≡ state_byte (is_tie (records_of n) i && not (eqb (bits_from i % 2) 1))
      unfolding bits_from
      byte_at = masked_byte_lem (records_of n) mask i (omega (arith, switches_listed n))

      abbrev here : Bool
      here = (get_or n.switches i no_switch).normally_open

      same_tie : is_tie (records_of n) i ≡ here
      same_tie = ap (λ w. w.normally_open) (switch_at_lem n i l)

      pub bits_next : cond here (bits_from i / 2) (bits_from i) ≡ bits_from (i + 1)
      unfolding bits_from count
      bits_next = rw (add-one i, same_tie) (bit_taken here mask (count (is_tie (records_of n)) i))

      pub masked_at : get_or (masked (records_of n) mask) i 0 ≡ state_byte (here && not (eqb (bits_from i % 2) 1))
      masked_at = byte_at ∙ ap (λ b. state_byte (b && not (eqb (bits_from i % 2) 1))) same_tie

      pub tie_byte : is_tie (records_of n) i ≡ true → get_or (masked (records_of n) mask) i 0 ≡ state_byte (not (eqb (bits_from i % 2) 1))
      tie_byte tie = rw (byte_at, tie)

      pub section_byte : is_tie (records_of n) i ≡ false → get_or (masked (records_of n) mask) i 0 ≡ 0
      section_byte section = rw (byte_at, section)

  masked_long : length (masked (records_of n) mask) ≡ n.switch_count
  masked_long = (masked_good (records_of n) mask).long ∙ switches_listed n

  pub masked_beyond : (i : ℕ) → n.switch_count ≤ i → get_or (masked (records_of n) mask) i 0 ≡ 0
  masked_beyond i l = get_or-eq_default (masked (records_of n) mask) 0 (omega (arith, masked_long))
