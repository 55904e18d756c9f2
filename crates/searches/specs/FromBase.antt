-- States with one byte 00 or 01 for each switch that are other than the base at operable switches only: the base is one, and so is
-- every state with an operable switch moved.
use Rattle.std.specs.Prelude.{◌≡◌, refl, ◌≢◌, Bool, cond, ℕ, ◌≤◌, ◌<◌, eqb, length, set}
use Rattle.std.proofs.Common.{sym, ◌∙◌, arith, length-set, get_or-set_same, get_or-set_other}
use Rattle.std.proofs.Math.Bool.{true, false}
use Rattle.std.proofs.Math.Decide.{ℕ_discrete}
use Rattle.network.specs.Records.{Network}
use Rattle.states.specs.Live.{base_state}
use Rattle.states.specs.BaseLaws.{base_good}
use Rattle.states.specs.Switches.{State, byte, operable, size, swapped, toggled, GoodState}

pub record FromBase (N : Network) (s : State) : Type 0 where
  pub good : GoodState N s
  pub moved : (i : ℕ) → byte (base_state N) i ≢ byte s i → operable N i ≡ true

module _ (N : Network) where
  pub from_base : FromBase N (base_state N)
  from_base = record { good = base_good N; moved = λ i n. absurd (n refl) }

  module _ (s : State) (h : FromBase N s) where
    set_from_base : (i b : ℕ) → operable N i ≡ true → b ≤ 1 → FromBase N (set s i b)
    set_from_base i b o l = record {
      good = record { long = length-set s i b ∙ h.good.long; bytes = λ j k. bytes j k (ℕ_discrete j i) };
      moved = λ j n. moved j n (ℕ_discrete j i);
    }
      where
        bytes : (j : ℕ) → j < size N → Dec (j ≡ i) → byte (set s i b) j ≤ 1
        bytes j k (yes e) = let m : i < length s = omega (arith, h.good.long) in rw (e, get_or-set_same s i b 0 m) l
        bytes j k (no n) = rw (get_or-set_other s i j b 0 n) (h.good.bytes j k)

        moved : (j : ℕ) → byte (base_state N) j ≢ byte (set s i b) j → Dec (j ≡ i) → operable N j ≡ true
        moved j d (yes e) = rw e o
        moved j d (no n) = h.moved j (λ e. d (e ∙ sym (get_or-set_other s i j b 0 n)))

    pub toggled_from_base : (i : ℕ) → operable N i ≡ true → FromBase N (toggled s i)
    unfolding toggled
    toggled_from_base i o = go (eqb (byte s i) 1)
      where
        go : (b : Bool) → FromBase N (set s i (cond b 0 1))
        go true = set_from_base i 0 o (omega arith)
        go false = set_from_base i 1 o (omega arith)

  pub swapped_from_base : (s : State) → FromBase N s → (tie section : ℕ) → operable N tie ≡ true → operable N section ≡ true → FromBase N (swapped s tie section)
  unfolding swapped
  swapped_from_base s h tie section o p = set_from_base (set s tie 0) (set_from_base s h tie 0 o (omega arith)) section 1 p (omega arith)
